use mathlib.Core.Path.{sym, ◌∙◌}
use Rattle.sides.proofs.Marks.{mark_none, mark_at}
use Rattle.steps.proofs.EnterSteps.{mark_in_lem}
use native.Mathlib.Omega.{arith}
use Rattle.steps.proofs.left_marks.mark.Goals as goal

pub bounds-left-mark_of : goal.bounds-left-mark_of
bounds-left-mark_of c = omega (arith, c.mark_of.ensures, mark_in_lem c.args.w (sym c.is_minted.ensures ∙ c.if-is_minted.true), c.requires)

pub returns-then-is_minted : goal.returns-then-is_minted
returns-then-is_minted c = mark_at c.args.left.now c.args.w _ (sym c.if-is_minted.true ∙ c.is_minted.ensures) c.mark_of.ensures

pub returns-else-is_minted : goal.returns-else-is_minted
returns-else-is_minted c = mark_none c.args.left.now c.args.w (sym c.if-is_minted.false ∙ c.is_minted.ensures)
