use mathlib.Core.List.{map}
use Rattle.wrappers.specs.Compositions.{composition}
use Rattle.interpreter.proofs.LoadLaws.{Begun}
use Rattle.interpreter.proofs.load_state.start_state.Given as goal

abbrev pub invariant-loop-k : goal.invariant-loop-k
invariant-loop-k l = Begun (composition l.wrapper (map (λ x. x.now) l.t-2) (map (λ x. x.now) l.t-3)) l.k l.s.sides
