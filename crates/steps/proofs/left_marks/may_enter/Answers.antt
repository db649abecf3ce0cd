use mathlib.Core.Path.{sym, ◌∙◌}
use Rattle.steps.proofs.EnterSteps.{mark_in_lem, may_minted, may_other}
use native.Mathlib.Omega.{arith}
use Rattle.steps.proofs.left_marks.may_enter.Goals as goal

pub is_set_in_any-requires : goal.is_set_in_any-requires
is_set_in_any-requires c =
    let minted = sym c.is_minted.ensures ∙ c.if-not-is_minted.false in
    (c.requires, omega (arith, c.mark_of.ensures, mark_in_lem c.args.w minted))

pub returns-then-not-is_minted : goal.returns-then-not-is_minted
returns-then-not-is_minted c = may_other c.args.marks.now c.args.w _ c.is_minted.ensures c.if-not-is_minted.true

pub returns-else-not-is_minted : goal.returns-else-not-is_minted
returns-else-not-is_minted c =
    let minted = sym c.is_minted.ensures ∙ c.if-not-is_minted.false in
    may_minted c.args.marks.now c.args.w _ _ minted c.mark_of.ensures c.is_set_in_any.ensures
