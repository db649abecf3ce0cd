-- The parts of the sides below k stand in the array.
use mathlib.Core.Path.{◌≡◌}
use mathlib.Core.List.{[], map}
use Prim.Native.Nat.{ℕ, ◌*◌, ◌<◌}
use lib.ListN.{length, get_or, take, drop}
use Rattle.model.specs.Wrapper.{all_sides}
use Rattle.text.proofs.parts.Given as goal

abbrev pub invariant-loop-k : goal.invariant-loop-k
invariant-loop-k l = (length (map (λ x. x.now) l.all) ≡ length all_sides) × ((j : ℕ) → j < l.k → get_or (map (λ x. x.now) l.all) j [] ≡ take (get_or l.counts j 0) (drop (l.wide * j) l.list))
