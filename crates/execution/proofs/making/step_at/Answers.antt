use mathlib.Core.Path.{refl, sym, ◌∙◌}
use native.Mathlib.Omega.{arith}
use Rattle.execution.proofs.StepsMade.{only_moved, only_lacking}
use Rattle.execution.proofs.making.step_at.Goals as goal

pub own_step-requires : goal.own_step-requires
own_step-requires c =
    (c.requires.0 (sym c.has_side.ensures ∙ c.if-has_side.true), c.requires.1)

pub returns-then-has_side : goal.returns-then-has_side
returns-then-has_side c = only_moved (sym c.has_side.ensures ∙ c.if-has_side.true) c.own_step.ensures

pub returns : goal.returns
returns c =
    only_lacking
    (sym c.has_side.ensures ∙ c.if-has_side.false)
    (record { said = refl; value = c.none.ensures.words; short = omega (arith, c.none.ensures.count); rest = refl; words = refl; marks = refl })
