use mathlib.Core.Path.{◌≡◌}
use lib.ListN.{length, take}
use Rattle.model.specs.Step.{mark_all}
use Rattle.steps.proofs.left_marks.mark_all.Given as goal

abbrev pub invariant-loop-w : goal.invariant-loop-w
invariant-loop-w l = (length l.left ≡ 512) × (l.left ≡ mark_all l.initial.left (take l.w-index l.w-items))
