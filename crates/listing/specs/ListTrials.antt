-- Trials of lent lists: too short, exactly long enough, longer.
use Rattle.std.specs.Prelude.{◌≡◌, List, [], ◌∷◌, ◌++◌, map, ℕ}
use Rattle.model.specs.Basics.{Res, refuse, done}
use Rattle.model.specs.Trials.{times}
use Rattle.model.specs.StrandedTrials.{sixteen}
use Rattle.listing.specs.Listing.{listing, listed_on}

-- some positions and a lent list; the answer, and the list after it
pub record ListRow : Type 0 where
  pub positions : List ℕ
  pub lent : List ℕ
  pub answer : Res ℕ
  pub after : List ℕ

abbrev pub row : (positions lent : List ℕ) → Res ℕ → (after : List ℕ) → ListRow
row ps lent a ws = record { positions = ps; lent = lent; answer = a; after = ws }

abbrev pub list_rows : List ListRow
list_rows =
    -- none: nothing is written, into no list too
    row [] [] (done 0) []
    ∷ row [] (7 ∷ 8 ∷ []) (done 0) (7 ∷ 8 ∷ [])
    -- one: too short, exactly long enough, longer
    ∷ row (3 ∷ []) [] (refuse 22) []
    ∷ row (3 ∷ []) (7 ∷ []) (done 1) (3 ∷ [])
    ∷ row (3 ∷ []) (7 ∷ 8 ∷ []) (done 1) (3 ∷ 8 ∷ [])
    -- several: one word too short, exactly long enough, longer
    ∷ row (0 ∷ 2 ∷ 5 ∷ []) (7 ∷ 8 ∷ []) (refuse 22) (7 ∷ 8 ∷ [])
    ∷ row (0 ∷ 2 ∷ 5 ∷ []) (7 ∷ 8 ∷ 9 ∷ []) (done 3) (0 ∷ 2 ∷ 5 ∷ [])
    ∷ row (0 ∷ 2 ∷ 5 ∷ []) (7 ∷ 8 ∷ 9 ∷ 6 ∷ []) (done 3) (0 ∷ 2 ∷ 5 ∷ 6 ∷ [])
    -- all sixteen
    ∷ row sixteen (times 15 7) (refuse 22) (times 15 7)
    ∷ row sixteen (times 16 7) (done 16) sixteen
    ∷ row sixteen (times 18 7) (done 16) (sixteen ++ (7 ∷ 7 ∷ []))
    ∷ []

unfoldable pub ListTrials : Type 0
ListTrials =
    (map (λ r. listing r.positions r.lent) list_rows ≡ map (λ r. r.answer) list_rows)
    × (map (λ r. listed_on r.positions r.lent) list_rows ≡ map (λ r. r.after) list_rows)
