-- The array test, then the sides: those before k stand.
use mathlib.Core.List.{map}
use Rattle.model.specs.Wrapper.{all_sides}
use Rattle.wrappers.specs.Compositions.{composition}
use Rattle.wellformed.proofs.TestLaws.{Passed}
use Rattle.wellformed.proofs.StateLaws.{stands_at}
use Rattle.wellformed.proofs.state.well_formed.Given as goal

abbrev pub invariant-loop-k : goal.invariant-loop-k
invariant-loop-k l = Passed (stands_at (composition l.wrapper (map (λ x. x.now) l.t-2) (map (λ x. x.now) l.t-3)) l.s) all_sides l.k
