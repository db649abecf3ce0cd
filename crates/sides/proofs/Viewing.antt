-- What words are as values, rows and particles: a value in its place, values taken, the held rows.
use Prim.Native.Nat.{ℕ, ◌*◌, ◌<◌, ◌≤◌}
use mathlib.Core.Path.{◌≡◌, refl, sym, ◌∙◌, ap}
use mathlib.Core.Logic.{◌≢◌}
use mathlib.Core.Bool.{true}
use mathlib.Core.List.{List, [], ◌∷◌, map}
use mathlib.Core.Option.{some}
use native.Mathlib.Omega.{arith}
use borrow.Author.Tests.{eq-eqb, ne_eqb, le-leb, leb-true}
use lib.Dec.{leb}
use lib.ListN.{length, take, drop, get_or, get_elem?, set, length-set, length-drop}
use lib.Seq.{sets, length-sets, length-take-le}
use Rattle.model.specs.Basics.{◌&◌, every}
use Rattle.model.specs.Side.{output, input}
use Rattle.model.proofs.Basics.Tests.{fst, snd}
use Rattle.sides.specs.declared.Tag.{Tag as d_tag}
use Rattle.sides.specs.declared.Tag.TheVariants.{Within, ToParent, FromParent, ToChild, FromChild}
use Rattle.sides.specs.Views.{view_tag}
use Rattle.sides.proofs.Lists.{view_length, view_at, every_at}
use Rattle.sides.specs.Layout.{parts, rows_of, row_at, places_of, tag_of, view_place, fits_place, view_row, fits_row, view_rows, fits_rows}
use Rattle.sides.specs.Stored.{kind_of, name_of, placed, values_put}
use Rattle.sides.specs.Environments.{env_of}
use Rattle.sides.proofs.Sets.{get_d_sets_at, take_sets_le, drop_sets_add, mid_sets}
use Rattle.sides.proofs.Parts.{parts_take, parts_cut}
use Rattle.sides.proofs.Reading.{rows_count, places_count}

-- HELD ROWS: how many, one of them, that it fits
pub view_count : (l : List ℕ) (n : ℕ) → n ≤ 32 → length (view_rows l n) ≡ n
view_count l n h = view_length view_row (rows_of l) n (rw (rows_count l) h)

pub view_row_lem : (l : List ℕ) (n i : ℕ) → i < n → n ≤ 32 → get_elem? (view_rows l n) i ≡ some (view_row (row_at l i))
view_row_lem l n i h m = view_at view_row (rows_of l) n i [] h (rw (rows_count l) m)

pub fits_row_lem : (l : List ℕ) (n i : ℕ) → i < n → n ≤ 32 → fits_rows l n ≡ true → fits_row (row_at l i) ≡ true
fits_row_lem l n i h m f = every_at fits_row (rows_of l) n i [] h (rw (rows_count l) m) (snd _ _ f)

-- A ROW BY ITS WORDS
pub output_view : (r : List ℕ) → get_or r 0 0 ≡ 1 → view_row r ≡ output (get_or r 1 0) (get_or r 2 0) (tag_of (get_or r 3 0) (get_or r 4 0)) (view_place (get_or (places_of r) 0 []))
unfolding view_row
output_view r e = rw (eq-eqb (get_or r 0 0) 1 e)

pub input_view : (r : List ℕ) → get_or r 0 0 ≢ 1 → view_row r ≡ input (get_or r 1 0) (get_or r 5 0) (map view_place (take (get_or r 6 0) (places_of r)))
unfolding view_row
input_view r m = rw (ne_eqb (get_or r 0 0) 1 m)

pub output_fits : (r : List ℕ) → get_or r 0 0 ≡ 1 → fits_place (get_or (places_of r) 0 []) ≡ true → fits_row r ≡ true
unfolding fits_row
output_fits r e f = rw (eq-eqb (get_or r 0 0) 1 e) f

pub input_fits : (r : List ℕ) → get_or r 0 0 ≢ 1 → leb (get_or r 6 0) 8 & every fits_place (take (get_or r 6 0) (places_of r)) ≡ true → fits_row r ≡ true
unfolding fits_row
input_fits r m f = rw (ne_eqb (get_or r 0 0) 1 m) f

-- what a waiting input that fits holds: at most eight values, each within its place
module _ (r : List ℕ) (m : get_or r 0 0 ≢ 1) (f : fits_row r ≡ true) where
  held_all : leb (get_or r 6 0) 8 & every fits_place (take (get_or r 6 0) (places_of r)) ≡ true
  unfolding fits_row
  held_all = rw (ne_eqb (get_or r 0 0) 1 m) at f

  pub held_count : get_or r 6 0 ≤ 8
  held_count = leb-true (get_or r 6 0) 8 (fst _ _ held_all)

  pub held_values : every fits_place (take (get_or r 6 0) (places_of r)) ≡ true
  held_values = snd _ _ held_all

  pub held_value : (k : ℕ) → k < get_or r 6 0 → fits_place (get_or (places_of r) k []) ≡ true
  held_value k h = every_at fits_place (places_of r) (get_or r 6 0) k [] h (rw (places_count r) held_count) held_values

-- the words of a tag give it back
pub tag_back : (t : d_tag) → tag_of (kind_of t) (name_of t) ≡ view_tag t
unfolding tag_of kind_of name_of
tag_back Within = refl
tag_back ToParent = refl
tag_back FromParent = refl
tag_back (ToChild n) = refl
tag_back (FromChild n) = refl

-- A VALUE IN ITS PLACE is read back, and fits
module _ (v x : List ℕ) (h : length x < length v) where
  placed_word : get_or (placed v 0 x) 0 0 ≡ length x
  unfolding placed
  placed_word = get_d_sets_at (length x ∷ x) v 0 0 0 (omega arith) (omega arith)

  pub placed_view : view_place (placed v 0 x) ≡ x
  unfolding placed view_place
  placed_view = ap (λ (k : ℕ). take k (drop 1 (placed v 0 x))) placed_word ∙ mid_sets x (set v 0 (length x)) 1 (rw (length-set v 0 (length x)) (omega arith))

  pub placed_fits : length x ≤ 16 → fits_place (placed v 0 x) ≡ true
  unfolding fits_place
  placed_fits m = ap (λ (k : ℕ). leb k 16) placed_word ∙ le-leb (length x) 16 m

-- VALUES TAKEN: the first n places are those of s, what stands before the places is as it was
module _ (d s : List ℕ) (n : ℕ) (hd : length d ≡ 144) (hs : length s ≡ 144) (h : n ≤ 8) where
  pub values_places : take n (places_of (values_put d 0 s n)) ≡ take n (places_of s)
  unfolding values_put
  values_places =
      let k : ℕ = 17 * n in
      let x : List ℕ = drop 8 s in
      let y : List ℕ = drop 8 d in
      let vs : List ℕ = take k x in
      let xl : length x ≡ 136 = length-drop 8 s ∙ omega arith in
      let yl : length y ≡ 136 = length-drop 8 d ∙ omega arith in
      let vl : length vs ≡ k = length-take-le k x (omega arith) in
      let moved : drop 8 (sets d 8 vs) ≡ sets y 0 vs = drop_sets_add 8 vs d 0 in
      let cut : take k (sets y 0 vs) ≡ take k x = ap (λ (j : ℕ). take j (sets y 0 vs)) (sym vl) ∙ mid_sets vs y 0 (omega arith) in
      ap (λ (z : List ℕ). take n (parts 17 8 z)) moved ∙ parts_take 17 8 n (sets y 0 vs) h ∙ parts_cut 17 n (sets y 0 vs) x (omega (arith, length-sets y 0 vs)) (omega arith) cut ∙
      sym (parts_take 17 8 n x h)

  pub values_front : (k : ℕ) → k ≤ 8 → take k (values_put d 0 s n) ≡ take k d
  unfolding values_put
  values_front k m = take_sets_le k (take (17 * n) (drop 8 s)) d 8 m

  -- as an environment: the names that stood there, with the values of the row s
  pub values_env : env_of (values_put d 0 s n) n ≡ record { names = take n d; vals = map view_place (take n (places_of s)) }
  values_env =
      ap (λ (x : List ℕ). record { names = x; vals = map view_place (take n (places_of (values_put d 0 s n))) }) (values_front n h) ∙
      ap (λ (x : List (List ℕ)). record { names = take n d; vals = map view_place x }) values_places

  pub values_fit_lem : every fits_place (take n (places_of s)) ≡ true → every fits_place (take n (places_of (values_put d 0 s n))) ≡ true
  values_fit_lem f = ap (every fits_place) values_places ∙ f
