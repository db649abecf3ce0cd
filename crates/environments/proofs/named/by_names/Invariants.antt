-- Each slot's name has what f says of the slot in turn; a number past 63 leaves the list as it is.
use mathlib.Core.Path.{◌≡◌}
use mathlib.Core.List.{List, [], ◌∷◌}
use Prim.Native.Nat.{ℕ, ◌<◌}
use lib.ListN.{length}
use Rattle.environments.specs.Named.{OfPlaces}
use Rattle.environments.proofs.Slots.{ByNames}
use Rattle.environments.proofs.named.by_names.Given as goal

abbrev pub invariant-loop-k : goal.invariant-loop-k
invariant-loop-k g l = (length l.found ≡ 64) × ((h : List ℕ → _) (d : _) → OfPlaces (goal.F-post g l.f) h l.e l.n → ((m : ℕ) → m < 64 → l.fn.none ≡ h (m ∷ [])) → ByNames h d l.e l.n l.k l.found)
