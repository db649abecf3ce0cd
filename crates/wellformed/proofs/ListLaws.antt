-- Laws of boxes, messages, shelves and marks: one for each way that the code goes.
use mathlib.Core.Path.{◌≡◌, refl, ap, ◌∙◌}
use mathlib.Core.Bool.{Bool, true, false, not, beq}
use mathlib.Core.List.{List, [], ◌∷◌}
use Prim.Native.Nat.{ℕ, suc, ◌+◌, ◌/◌}
use native.Mathlib.Omega.{arith}
use borrow.Author.Tests.{ne_eqb}
use lib.Dec.{eqb}
use lib.ListN.{length}
use Rattle.std.specs.List.{list_any}
use Rattle.model.specs.Basics.{◌&◌, ◌or◌, every}
use Rattle.model.specs.Side.{Box, Status, down, arrived, leaving}
use Rattle.model.specs.WellFormed.{Counts, count_of, held, wf_value, wf_boxes, wf_message, wf_left, wf_taken}
use Rattle.wellformed.specs.Clauses.{every_from, box_at, left_at, taken_at, channel_fits, shelf_allowed}

-- BOXES
module _ (k : Counts) where
  pub boxes_from : (i : ℕ) (l : List Box) → every_from (box_at k) i l ≡ wf_boxes k i l
  unfolding every_from box_at wf_boxes
  boxes_from i [] = refl
  boxes_from i (x ∷ l) = ap (λ (b : Bool). box_at k i x & b) (boxes_from (i + 1) l)

-- MESSAGES
pub message_is : (shelved : Bool) (cs : List ℕ) (k : Counts) (s : Status) (c : ℕ) (v : List ℕ) →
    wf_value k v & (held k c & channel_fits shelved cs s c) ≡ wf_message shelved cs k (record { status = s; chan = c; val = v })
unfolding wf_message channel_fits
message_is shelved cs k down c v = refl
message_is shelved cs k arrived c v = refl
message_is shelved cs k leaving c v = refl

-- A SHELF where there is one, and where there is none
module _ (k : Counts) (vs : List (List ℕ)) where
  pub shelf_held : (b r : Bool) → b ≡ true → r ≡ every (wf_value k) vs → r ≡ shelf_allowed b k vs
  unfolding shelf_allowed ◌&◌ ◌or◌
  shelf_held b r e p = rw e (p ∙ go (every (wf_value k) vs) (eqb (length vs) 0))
    where
      go : (a z : Bool) → a ≡ a & (z or true)
      go true true = refl
      go true false = refl
      go false z = refl

  pub shelf_empty : (b : Bool) → b ≡ false → eqb (length vs) 0 ≡ shelf_allowed b k vs
  unfolding shelf_allowed ◌&◌ ◌or◌
  shelf_empty b e = rw e (none vs)
    where
      go : (a : Bool) → false ≡ a & (false or false)
      go true = refl
      go false = refl

      none : (l : List (List ℕ)) → eqb (length l) 0 ≡ every (wf_value k) l & (eqb (length l) 0 or false)
      none [] = refl
      none (v ∷ l) = let z : eqb (length (v ∷ l)) 0 ≡ false = ne_eqb (length (v ∷ l)) 0 (λ q. omega arith) in rw z (go (every (wf_value k) (v ∷ l)))

-- MARKS of names that have left
module _ (k : Counts) where
  pub left_from : (i : ℕ) (l : List Bool) → every_from (left_at k) i l ≡ wf_left k i l
  unfolding every_from left_at wf_left
  left_from i [] = refl
  left_from i (x ∷ l) = ap (λ (b : Bool). left_at k i x & b) (left_from (i + 1) l)

-- MARKS of shelf places that are taken, by how many values each side has on its shelf
module _ (t : Bool) (h : Counts) where
  pub taken_from : (sh : ℕ → List (List ℕ)) → ((n : ℕ) → length (sh n) ≡ count_of h n) → (i : ℕ) (l : List Bool) → every_from (taken_at t h) i l ≡ wf_taken t sh i l
  unfolding every_from taken_at wf_taken
  taken_from sh e i [] = refl
  taken_from sh e i (x ∷ l) = rw (e (suc (i / 32))) (ap (λ (b : Bool). taken_at t h i x & b) (taken_from sh e (i + 1) l))

-- NO MARK is set
pub none_set : (l : List Bool) → not (list_any (λ y. beq y true) l) ≡ every not l
unfolding ◌&◌
none_set [] = refl
none_set (true ∷ l) = refl
none_set (false ∷ l) = none_set l
