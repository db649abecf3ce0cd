use mathlib.Core.Path.{refl, ap, ◌∙◌}
use lib.Seq.{take_all}
use Rattle.model.specs.Step.{mark_all}
use Rattle.sides.proofs.Marks.{mark_more}
use borrow.Author.Rules.{rules}
use Rattle.steps.proofs.left_marks.mark_all.Goals as goal

pub loop-w-init : goal.loop-w-init
loop-w-init c = (search rules, refl)

pub loop-w-preserved : goal.loop-w-preserved
loop-w-preserved c = (search rules, mark_more _ _ _ _ _ c.loop-w-test.true c.loop-w.invariant.1 c.mark.ensures)

pub returns : goal.returns
returns c = c.loop-w.invariant.1 ∙ ap (mark_all c.args.left.now) (take_all _ _ c.loop-w-test.false)
