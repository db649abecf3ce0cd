-- The words written so far are those of the steps before; the state is what is lent.
use mathlib.Core.List.{map}
use Prim.Native.Nat.{◌*◌, ◌≤◌}
use lib.ListN.{length}
use Rattle.wrappers.specs.Compositions.{composition}
use Rattle.dispatch.specs.Sharing.{state_in}
use Rattle.execution.specs.Execution.{MayRun}
use Rattle.running.proofs.RunLaws.{Running}
use Rattle.running.proofs.runs.run_loaded.Given as goal

abbrev pub invariant-loop-k : goal.invariant-loop-k
invariant-loop-k l =
    (20 * l.n ≤ length l.initial.out) × MayRun (composition l.wrapper (map (λ x. x.now) l.nodes) (map (λ x. x.now) l.pools)) l.rows l.standing.rests l.marks l.standing.shelved
    × Running (composition l.wrapper (map (λ x. x.now) l.nodes) (map (λ x. x.now) l.pools)) (state_in l.initial.rows l.initial.standing.rests l.initial.marks) l.steps l.initial.out l.n l.k l.p (state_in l.rows l.standing.rests l.marks) l.out
