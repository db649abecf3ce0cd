use mathlib.Core.Path.{◌≡◌}
use Prim.Native.Nat.{◌-◌, ◌≤◌}
use lib.ListN.{length, drop}
use Rattle.format.specs.Words.{steps_of}
use Rattle.running.specs.Running.{count_of}
use Rattle.running.proofs.RunLaws.{plus}
use Rattle.running.proofs.step_words.count_steps.Given as goal

abbrev pub invariant-loop-p : goal.invariant-loop-p
invariant-loop-p l = (l.p ≤ length l.steps) × (l.n ≤ l.p) × (count_of (steps_of l.steps) ≡ plus l.n (count_of (steps_of (drop l.p l.steps))))

abbrev pub decreases-loop-p : goal.decreases-loop-p
decreases-loop-p l = length l.steps - l.p
