use mathlib.Core.List.{map}
use Rattle.wrappers.specs.Compositions.{composition}
use Rattle.execution.proofs.BeginLaws.{Begins}
use Rattle.execution.proofs.beginning.begin_all.Given as goal

abbrev pub invariant-loop-k : goal.invariant-loop-k
invariant-loop-k l = Begins (composition l.wrapper (map (λ x. x.now) l.nodes) (map (λ x. x.now) l.pools)) l.k l.rows l.rests l.shelved
