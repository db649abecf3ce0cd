-- The state behind all steps is that behind the steps from here on; the state is what is lent.
use mathlib.Core.Path.{◌≡◌}
use mathlib.Core.List.{map}
use Prim.Native.Nat.{◌-◌, ◌≤◌}
use lib.ListN.{length, drop}
use Rattle.format.specs.Words.{steps_of}
use Rattle.wrappers.specs.Compositions.{composition}
use Rattle.dispatch.specs.Sharing.{state_in}
use Rattle.execution.specs.Execution.{MayRun}
use Rattle.stranding.specs.Stranding.{behind}
use Rattle.stranding.proofs.ended_steps.end_loaded.Given as goal

abbrev pub invariant-loop-p : goal.invariant-loop-p
invariant-loop-p l =
    (l.p ≤ length l.steps) × MayRun (composition l.wrapper (map (λ x. x.now) l.nodes) (map (λ x. x.now) l.pools)) l.rows l.standing.rests l.marks l.standing.shelved
    × (behind (composition l.wrapper (map (λ x. x.now) l.nodes) (map (λ x. x.now) l.pools)) (state_in l.initial.rows l.initial.standing.rests l.initial.marks) (steps_of l.steps)
    ≡ behind (composition l.wrapper (map (λ x. x.now) l.nodes) (map (λ x. x.now) l.pools)) (state_in l.rows l.standing.rests l.marks) (steps_of (drop l.p l.steps)))

abbrev pub decreases-loop-p : goal.decreases-loop-p
decreases-loop-p l = length l.steps - l.p
