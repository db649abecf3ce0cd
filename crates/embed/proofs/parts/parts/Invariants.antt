-- The parts of the sides below k stand in the array.
use mathlib.Core.Path.{◌≡◌}
use mathlib.Core.List.{[], map}
use Prim.Native.Nat.{ℕ, ◌+◌, ◌*◌, ◌<◌}
use lib.ListN.{length, get_or}
use Rattle.model.specs.Wrapper.{all_sides}
use Rattle.embed.specs.Lent.{part_at}
use Rattle.embed.proofs.parts.parts.Given as goal

abbrev pub invariant-loop-k : goal.invariant-loop-k
invariant-loop-k l = (length (map (λ x. x.now) l.all) ≡ length all_sides) × ((j : ℕ) → j < l.k → get_or (map (λ x. x.now) l.all) j [] ≡ part_at l.words l.lengths (2 * j + l.first))
