-- What is at fault from the start on is at fault from here on; the state is what is lent.
use mathlib.Core.List.{map}
use Prim.Native.Nat.{◌-◌, ◌≤◌}
use lib.ListN.{length}
use Rattle.wrappers.specs.Compositions.{composition}
use Rattle.dispatch.specs.Sharing.{state_in}
use Rattle.execution.specs.Execution.{MayRun}
use Rattle.checking.specs.Checking.{Counted}
use Rattle.checking.proofs.CheckLaws.{Checking}
use Rattle.checking.proofs.checked_steps.check_loaded.Given as goal

abbrev pub invariant-loop-p : goal.invariant-loop-p
invariant-loop-p l =
    (l.k ≤ l.p) × (l.p ≤ length l.steps) × Counted l.labels l.agreed × MayRun (composition l.wrapper (map (λ x. x.now) l.nodes) (map (λ x. x.now) l.pools)) l.rows l.standing.rests l.marks l.standing.shelved
    × Checking (composition l.wrapper (map (λ x. x.now) l.nodes) (map (λ x. x.now) l.pools)) (state_in l.initial.rows l.initial.standing.rests l.initial.marks) l.steps l.labels l.p l.k (state_in l.rows l.standing.rests l.marks) l.agreed

abbrev pub decreases-loop-p : goal.decreases-loop-p
decreases-loop-p l = length l.steps - l.p
