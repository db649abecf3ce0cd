-- What each function that reads answers, as the definitions of specs/Layout.antt and specs/Environments.antt say it.
use Prim.Native.Nat.{ℕ, zero, suc, ◌+◌, ◌-◌, ◌*◌, ◌<◌, ◌≤◌, min}
use mathlib.Core.Path.{◌≡◌, refl, sym, ◌∙◌, ap}
use mathlib.Core.Bool.{Bool, true, false}
use mathlib.Core.List.{List, []}
use mathlib.Core.Logic.{◌≢◌}
use native.Mathlib.Nat.{add-sub_cancel_left}
use native.Mathlib.Omega.{arith}
use borrow.Author.Tests.{eq-eqb, ne_eqb, eqb-true, eqb-false, leb-true}
use lib.Dec.{leb, eqb}
use lib.ListN.{length, take, drop, get_or, length-drop}
use lib.Seq.{take_all, length-take-le, drop-drop}
use Rattle.model.specs.Basics.{◌&◌, every}
use Rattle.values.specs.declared.Value.{Value}
use Rattle.values.specs.Env.{Stores}
use Rattle.sides.specs.Layout.{parts, rows_of, row_at, places_of, view_place, fits_place, fits_row, boxes_of, shelf_of, ValueIs}
use Rattle.sides.specs.Environments.{last_of}
use Rattle.sides.proofs.Parts.{part_of_part, parts_length, parts_at, first_behind}

-- how many rows and places there are
pub rows_count : (l : List ℕ) → length (rows_of l) ≡ 32
rows_count l = parts_length 144 32 l

pub places_count : (r : List ℕ) → length (places_of r) ≡ 8
places_count r = parts_length 17 8 (drop 8 r)

pub boxes_count : (l : List ℕ) → length (boxes_of l) ≡ 16
boxes_count l = parts_length 2 16 (drop 4608 l)

pub shelf_count : (l : List ℕ) → length (shelf_of l) ≡ 32
shelf_count l = parts_length 17 32 (drop 4640 l)

-- A VALUE OUT OF ITS PLACE
pub place_short : (v : List ℕ) → fits_place v ≡ true → get_or v 0 0 ≤ 16
unfolding fits_place
place_short v e = leb-true (get_or v 0 0) 16 e

pub value_read : (v : List ℕ) (r : Value) → length v ≡ 17 → fits_place v ≡ true → Stores (take (get_or v 0 0 + 1 - 1) (drop 1 v)) r → ValueIs (view_place v) r
unfolding view_place
value_read v r h f s =
    let m = place_short v f in
    let x : List ℕ = take (get_or v 0 0) (drop 1 v) in
    let en : get_or v 0 0 + 1 - 1 ≡ get_or v 0 0 = omega arith in
    let same : take (get_or v 0 0 + 1 - 1) (drop 1 v) ≡ x = ap (λ (k : ℕ). take k (drop 1 v)) en in
    let xl : length x ≡ get_or v 0 0 = length-take-le (get_or v 0 0) (drop 1 v) (omega (arith, length-drop 1 v)) in
    let count : min 17 r.len ≡ min 17 (length x) = s.count ∙ ap (λ (y : List ℕ). min 17 (length y)) same in
    record { view = s.words ∙ ap (take 16) same ∙ take_all 16 x (omega arith); short = omega arith }

-- place k of row i, as the words that are lent
pub place_lent : (l : List ℕ) (i k : ℕ) → i < 32 → k < 8 → take (144 * i + 8 + 17 * k + 17 - (144 * i + 8 + 17 * k)) (drop (144 * i + 8 + 17 * k) l) ≡ get_or (places_of (row_at l i)) k []
place_lent l i k h m =
    let a : ℕ = 144 * i + 8 + 17 * k in
    let z : a ≡ 144 * i + (8 + 17 * k) = omega arith in
    ap (λ (n : ℕ). take n (drop a l)) (add-sub_cancel_left a 17) ∙ ap (λ (n : ℕ). take 17 (drop n l)) z ∙ ap (take 17) (sym (drop-drop (8 + 17 * k) (144 * i) l)) ∙
    sym (part_of_part 17 (8 + 17 * k) 144 (drop (144 * i) l) (omega arith)) ∙ ap (take 17) (sym (drop-drop (17 * k) 8 (take 144 (drop (144 * i) l)))) ∙
    ap (λ (r : List ℕ). take 17 (drop (17 * k) (drop 8 r))) (sym (parts_at 144 32 l i h)) ∙ sym (parts_at 17 8 (drop 8 (row_at l i)) k m)

-- AN OUTPUT OUT OF ITS ROW
pub first_place : (r : List ℕ) → get_or (places_of r) 0 [] ≡ take 17 (drop 8 r)
unfolding parts
first_place r = refl

pub first_fits : (r : List ℕ) → fits_row r ≡ true → get_or r 0 0 ≡ 1 → fits_place (take 17 (drop 8 r)) ≡ true
unfolding fits_row
first_fits r f e = ap fits_place (sym (first_place r)) ∙ (rw (eq-eqb (get_or r 0 0) 1 e) at f)

-- THE ARRAY TEST: a row's, by its kind
pub place_word : (r : List ℕ) (k : ℕ) → k < 8 → get_or (get_or (places_of r) k []) 0 0 ≡ get_or r (8 + 17 * k) 0
place_word r k h = first_behind 17 8 8 r k h (omega arith)

pub place_fits : (r : List ℕ) (k : ℕ) (b : Bool) → k < 8 → leb (get_or r (8 + 17 * k) 0) 16 ≡ b → fits_place (get_or (places_of r) k []) ≡ b
unfolding fits_place
place_fits r k b h e = rw (place_word r k h) e

pub shelf_fits : (l : List ℕ) (k : ℕ) (b : Bool) → k < 32 → leb (get_or l (4640 + 17 * k) 0) 16 ≡ b → fits_place (get_or (shelf_of l) k []) ≡ b
unfolding fits_place
shelf_fits l k b h e = rw (first_behind 17 32 4640 l k h (omega arith)) e

pub row_fits_output : (r : List ℕ) → get_or r 0 0 ≡ 1 → leb (get_or r 8 0) 16 ≡ fits_row r
unfolding fits_row
row_fits_output r e = rw (eq-eqb (get_or r 0 0) 1 e) (sym (place_fits r 0 _ (omega arith) refl))

pub row_fits_input : (r : List ℕ) (b : Bool) → (get_or r 0 0 ≡ 1 → ⊥) → b ≡ leb (get_or r 6 0) 8 & every fits_place (take (get_or r 6 0) (places_of r)) → b ≡ fits_row r
unfolding fits_row
row_fits_input r b m e = rw (ne_eqb (get_or r 0 0) 1 m) e

-- THE LAST PLACE OF A NAME
module _ (e : List ℕ) (w d : ℕ) where
  pub last_none : (n : ℕ) → ((j : ℕ) → j < n → get_or e j 0 ≢ w) → d ≡ last_of e n w d
  unfolding last_of
  last_none zero h = refl
  last_none (suc n) h = rw (ne_eqb (get_or e n 0) w (h n (omega arith))) (last_none n (λ j m. h j (omega arith)))

  pub last_is : (n k : ℕ) → k < n → get_or e k 0 ≡ w → ((j : ℕ) → k < j → j < n → get_or e j 0 ≢ w) → k ≡ last_of e n w d
  unfolding last_of
  last_is zero k m p h = absurd (omega arith)
  last_is (suc n) k m p h = go (eqb k n) refl (λ b. last_is n k b p (λ j a c. h j a (omega arith)))
    where
      go : (t : Bool) → eqb k n ≡ t → (k < n → k ≡ last_of e n w d) → k ≡ last_of e (suc n) w d
      go true z f =
          let same : k ≡ n = eqb-true k n z in
          rw (eq-eqb (get_or e n 0) w (ap (λ (j : ℕ). get_or e j 0) (sym same) ∙ p)) same
      go false z f =
          let other : k ≡ n → ⊥ = eqb-false k n z in
          let below : k < n = omega arith in
          rw (ne_eqb (get_or e n 0) w (h n below (omega arith))) (f below)
