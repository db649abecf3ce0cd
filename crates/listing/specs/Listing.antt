-- The positions in a lent list of words (document 02, 2.5): how many they are, or 22; and the answer as the `Result` holds it.
use Rattle.std.specs.Prelude.{◌≡◌, Result, Ok, Err, List, ◌++◌, ◌↔◌, ℕ, ◌<◌, ◌≤◌, leb, length, drop}
use Rattle.model.specs.Basics.{choose, Res, refuse, done, need}
use Rattle.listing.specs.declared.TooShort.{TooShort}

-- how many positions are put into a lent list; 22 where it is too short
unfoldable pub listing : (positions lent : List ℕ) → Res ℕ
listing ps lent = need (leb (length ps) (length lent)) 22 (done (length ps))

-- the lent list after it: the positions, and behind them what was there; where it is too short, nothing is written
unfoldable pub listed_on : (positions lent : List ℕ) → List ℕ
listed_on ps lent = choose (leb (length ps) (length lent)) (ps ++ drop (length ps) lent) lent

-- its numbers (demand 1): 22 and no other, exactly where the list has fewer words than there are positions, and then nothing is written; else how many
-- there are
unfoldable pub ListNumbers : Type 0
ListNumbers = (ps lent : List ℕ)
    → ((k : ℕ) → (listing ps lent ≡ refuse k) ↔ ((k ≡ 22) × (length lent < length ps)))
    × ((n : ℕ) → (listing ps lent ≡ done n) ↔ ((n ≡ length ps) × (length ps ≤ length lent)))
    × (length lent < length ps → listed_on ps lent ≡ lent)

-- what the answer says: how many positions, or 22
abbrev pub listed_of : Result ℕ TooShort → Res ℕ
listed_of (Ok n) = done n
listed_of (Err e) = refuse 22

-- r is the answer for some positions, and the lent list is as it is to be after it
pub record ListedIs (ps lent after : List ℕ) (r : Result ℕ TooShort) : Type 0 where
  pub answer : listed_of r ≡ listing ps lent
  pub words : after ≡ listed_on ps lent
