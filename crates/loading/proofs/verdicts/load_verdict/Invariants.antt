use mathlib.Core.List.{map}
use Rattle.wrappers.specs.Compositions.{composition}
use Rattle.loading.proofs.Faults.{FromPlace}
use Rattle.loading.proofs.verdicts.load_verdict.Given as goal

abbrev pub invariant-loop-k : goal.invariant-loop-k
invariant-loop-k l = FromPlace (composition l.wrapper (map (λ x. x.now) l.nodes) (map (λ x. x.now) l.pools)) l.k
