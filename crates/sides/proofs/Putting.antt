-- A particle put at a row, a row removed: what the rows are then, and what they are as particles.
use Prim.Native.Nat.{ℕ, suc, ◌+◌, ◌-◌, ◌*◌, ◌<◌, ◌≤◌}
use mathlib.Core.Path.{◌≡◌, sym, ◌∙◌, ap}
use mathlib.Core.Logic.{◌≢◌}
use mathlib.Core.Bool.{true}
use mathlib.Core.List.{List, [], ◌∷◌, ◌++◌, map}
use native.Mathlib.Nat.{add-zero, zero-add}
use native.Mathlib.Omega.{arith}
use borrow.Author.Tests.{le-leb}
use lib.Dec.{leb}
use lib.ListN.{length, take, drop, get_or, set, length-set, length-take, length-drop}
use lib.Seq.{sets, length-sets, length-take-le, get_or-set_same, get_or-set_other, drop-set-lt}
use Rattle.model.specs.Basics.{◌&◌, every, remove}
use Rattle.model.specs.Side.{Tag, Particle, output, input}
use Rattle.model.proofs.Basics.Tests.{snd, both, every_remove}
use Rattle.values.specs.Env.{view_value}
use Rattle.sides.specs.declared.Tag.{Tag as d_tag}
use Rattle.sides.specs.Views.{view_tag}
use Rattle.sides.proofs.Lists.{view_push, view_set, map_remove, fits_with, fits_put}
use Rattle.sides.specs.declared.Output.{Output}
use Rattle.sides.specs.Layout.{parts, rows_of, row_at, places_of, tag_of, tag_in, view_place, fits_place, view_row, fits_row, view_rows, fits_rows, view_output}
use Rattle.sides.specs.Stored.{kind_of, name_of, placed, head_put, sent_put, output_put, moved_to, values_put, input_put, row_gone}
use Rattle.sides.proofs.Sets.{get_d_sets_below, get_d_sets_at, take_sets_lt, drop_sets_lt, drop_sets_add}
use Rattle.sides.proofs.Parts.{parts_sets, parts_more, parts_take, parts_gone, parts_gone_rest, part_length}
use Rattle.sides.proofs.Reading.{rows_count, first_place, first_fits}
use Rattle.sides.proofs.Viewing.{output_view, input_view, output_fits, input_fits, tag_back, placed_view, placed_fits, values_places}

-- m is l with the particle p at row i: the row is p and fits, and every other row has its very words
pub record RowPut (l : List ℕ) (i : ℕ) (p : Particle) (m : List ℕ) : Type 0 where
  pub row : List ℕ
  pub rows : rows_of m ≡ set (rows_of l) i row
  pub view : view_row row ≡ p
  pub fits : fits_row row ≡ true

-- AN OUTPUT PUT AT ROW i: its first words, and a value in the first place
module _ (r : List ℕ) (box channel : ℕ) (t : d_tag) (x : List ℕ) (hr : length r ≡ 144) (short : length x ≤ 16) where
  head_word : (k : ℕ) → k < 5 → get_or (placed (head_put r 0 box channel t) 8 x) k 0 ≡ get_or (1 ∷ box ∷ channel ∷ kind_of t ∷ name_of t ∷ []) k 0
  unfolding placed head_put
  head_word k h =
      let hs : List ℕ = 1 ∷ box ∷ channel ∷ kind_of t ∷ name_of t ∷ [] in
      get_d_sets_below (length x ∷ x) (sets r 0 hs) 8 k 0 (omega arith) ∙ ap (λ (j : ℕ). get_or (sets r 0 hs) j 0) (sym (zero-add k)) ∙ get_d_sets_at hs r 0 k 0 h (omega arith)

  output_place : get_or (places_of (placed (head_put r 0 box channel t) 8 x)) 0 [] ≡ placed (take 17 (drop 8 (head_put r 0 box channel t))) 0 x
  unfolding placed
  output_place =
      let s : List ℕ = head_put r 0 box channel t in
      first_place (sets s 8 (length x ∷ x)) ∙ ap (take 17) (drop_sets_add 8 (length x ∷ x) s 0) ∙ take_sets_lt 17 (length x ∷ x) (drop 8 s) 0 (omega arith)

  place_length : length (take 17 (drop 8 (head_put r 0 box channel t))) ≡ 17
  unfolding head_put
  place_length =
      let s : List ℕ = head_put r 0 box channel t in
      let sl : length s ≡ 144 = length-sets r 0 (1 ∷ box ∷ channel ∷ kind_of t ∷ name_of t ∷ []) ∙ hr in
      length-take-le 17 (drop 8 s) (omega (arith, length-drop 8 s))

  output_row_view : view_row (placed (head_put r 0 box channel t) 8 x) ≡ output box channel (view_tag t) x
  output_row_view =
      let m : List ℕ = placed (head_put r 0 box channel t) 8 x in
      let v : List ℕ = take 17 (drop 8 (head_put r 0 box channel t)) in
      let p : view_place (get_or (places_of m) 0 []) ≡ x = ap view_place output_place ∙ placed_view v x (omega (arith, place_length)) in
      output_view m (head_word 0 (omega arith)) ∙ ap (λ (b : ℕ). output b (get_or m 2 0) (tag_of (get_or m 3 0) (get_or m 4 0)) (view_place (get_or (places_of m) 0 []))) (head_word 1 (omega arith)) ∙
      ap (λ (c : ℕ). output box c (tag_of (get_or m 3 0) (get_or m 4 0)) (view_place (get_or (places_of m) 0 []))) (head_word 2 (omega arith)) ∙
      ap (λ (k : ℕ). output box channel (tag_of k (get_or m 4 0)) (view_place (get_or (places_of m) 0 []))) (head_word 3 (omega arith)) ∙
      ap (λ (k : ℕ). output box channel (tag_of (kind_of t) k) (view_place (get_or (places_of m) 0 []))) (head_word 4 (omega arith)) ∙
      ap (λ (g : Tag). output box channel g (view_place (get_or (places_of m) 0 []))) (tag_back t) ∙ ap (output box channel (view_tag t)) p

  output_row_fits : fits_row (placed (head_put r 0 box channel t) 8 x) ≡ true
  output_row_fits =
      let m : List ℕ = placed (head_put r 0 box channel t) 8 x in
      let v : List ℕ = take 17 (drop 8 (head_put r 0 box channel t)) in
      output_fits m (head_word 0 (omega arith)) (ap fits_place output_place ∙ placed_fits v x (omega (arith, place_length)) short)

-- every other row as it was
rows_output : (l : List ℕ) (i box channel : ℕ) (t : d_tag) (x : List ℕ) → i < 32 → length x ≤ 16 →
    rows_of (placed (head_put l (144 * i) box channel t) (144 * i + 8) x) ≡ set (rows_of l) i (placed (head_put (row_at l i) 0 box channel t) 8 x)
unfolding placed head_put
rows_output l i box channel t x h short =
    let hs : List ℕ = 1 ∷ box ∷ channel ∷ kind_of t ∷ name_of t ∷ [] in
    let first : rows_of (sets l (144 * i) hs) ≡ set (rows_of l) i (sets (row_at l i) 0 hs) = ap (λ (k : ℕ). rows_of (sets l k hs)) (sym (add-zero (144 * i))) ∙ parts_sets 144 32 l i 0 hs h (omega arith) in
    parts_more 144 32 l (sets l (144 * i) hs) i (sets (row_at l i) 0 hs) 8 (length x ∷ x) h (omega arith) first

pub sent_put_lem : (l : List ℕ) (i box channel : ℕ) (t : d_tag) (x : List ℕ) → length l ≡ 5184 → i < 32 → length x ≤ 16 →
    RowPut l i (output box channel (view_tag t) x) (sent_put l (144 * i) box channel t x)
unfolding sent_put
sent_put_lem l i box channel t x long h short =
    let r : List ℕ = row_at l i in
    let hr : length r ≡ 144 = part_length 144 32 l i h (omega arith) in
    record {
      row = placed (head_put r 0 box channel t) 8 x;
      rows = rows_output l i box channel t x h short;
      view = output_row_view r box channel t x hr short;
      fits = output_row_fits r box channel t x hr short;
    }

-- an output struct
pub output_put_lem : (l : List ℕ) (i : ℕ) (o : Output) → length l ≡ 5184 → i < 32 → o.value.len ≤ 16 → RowPut l i (view_output o) (output_put l (144 * i) o)
unfolding output_put
output_put_lem l i o long h m = sent_put_lem l i o.at o.channel o.tag (view_value o.value) long h (omega (arith, length-take o.value.len o.value.words))

-- AN OUTPUT MOVED: another box and another tag
module _ (r : List ℕ) (box : ℕ) (t : d_tag) (hr : length r ≡ 144) where
  moved_words : (get_or (moved_to r 0 box t) 0 0 ≡ get_or r 0 0) × (get_or (moved_to r 0 box t) 1 0 ≡ box) × (get_or (moved_to r 0 box t) 2 0 ≡ get_or r 2 0) × (tag_in (moved_to r 0 box t) ≡ view_tag t)
  unfolding moved_to
  moved_words =
      let s : List ℕ = set r 1 box in
      let vs : List ℕ = kind_of t ∷ name_of t ∷ [] in
      let sl : length s ≡ 144 = length-set r 1 box ∙ hr in
      let m : List ℕ = sets s 3 vs in
      let kind : get_or m 3 0 ≡ kind_of t = get_d_sets_at vs s 3 0 0 (omega arith) (omega arith) in
      let name : get_or m 4 0 ≡ name_of t = get_d_sets_at vs s 3 1 0 (omega arith) (omega arith) in (
        get_d_sets_below vs s 3 0 0 (omega arith) ∙ get_or-set_other r 1 0 box 0 (λ e. omega arith),
        get_d_sets_below vs s 3 1 0 (omega arith) ∙ get_or-set_same r 1 box 0 (omega arith),
        get_d_sets_below vs s 3 2 0 (omega arith) ∙ get_or-set_other r 1 2 box 0 (λ e. omega arith),
        ap (λ (k : ℕ). tag_of k (get_or m 4 0)) kind ∙ ap (tag_of (kind_of t)) name ∙ tag_back t,
      )

  moved_places : places_of (moved_to r 0 box t) ≡ places_of r
  unfolding moved_to
  moved_places = ap (parts 17 8) (drop_sets_lt 8 (kind_of t ∷ name_of t ∷ []) (set r 1 box) 3 (omega arith) ∙ drop-set-lt 8 r 1 box (omega arith))

  module _ (e : get_or r 0 0 ≡ 1) where
    moved_view : view_row (moved_to r 0 box t) ≡ output box (get_or r 2 0) (view_tag t) (view_place (get_or (places_of r) 0 []))
    moved_view =
        let m : List ℕ = moved_to r 0 box t in
        let w = moved_words in
        output_view m (w.0 ∙ e) ∙ ap (λ (b : ℕ). output b (get_or m 2 0) (tag_in m) (view_place (get_or (places_of m) 0 []))) w.1 ∙
        ap (λ (c : ℕ). output box c (tag_in m) (view_place (get_or (places_of m) 0 []))) w.2 ∙ ap (λ (g : Tag). output box (get_or r 2 0) g (view_place (get_or (places_of m) 0 []))) w.3 ∙
        ap (λ (y : List (List ℕ)). output box (get_or r 2 0) (view_tag t) (view_place (get_or y 0 []))) moved_places

    moved_fits : fits_row r ≡ true → fits_row (moved_to r 0 box t) ≡ true
    moved_fits f =
        let w = moved_words in
        output_fits (moved_to r 0 box t) (w.0 ∙ e) (ap (λ (y : List (List ℕ)). fits_place (get_or y 0 [])) moved_places ∙ ap fits_place (first_place r) ∙ first_fits r f e)

rows_moved : (l : List ℕ) (i box : ℕ) (t : d_tag) → i < 32 → rows_of (moved_to l (144 * i) box t) ≡ set (rows_of l) i (moved_to (row_at l i) 0 box t)
unfolding moved_to
rows_moved l i box t h =
    parts_more 144 32 l (set l (144 * i + 1) box) i (set (row_at l i) 1 box) 3 (kind_of t ∷ name_of t ∷ []) h (omega arith) (parts_sets 144 32 l i 1 (box ∷ []) h (omega arith))

pub moved_put : (l : List ℕ) (i box : ℕ) (t : d_tag) → length l ≡ 5184 → i < 32 → get_or (row_at l i) 0 0 ≡ 1 → fits_row (row_at l i) ≡ true →
    RowPut l i (output box (get_or (row_at l i) 2 0) (view_tag t) (view_place (get_or (places_of (row_at l i)) 0 []))) (moved_to l (144 * i) box t)
moved_put l i box t long h e f =
    let r : List ℕ = row_at l i in
    let hr : length r ≡ 144 = part_length 144 32 l i h (omega arith) in
    record { row = moved_to r 0 box t; rows = rows_moved l i box t h; view = moved_view r box t hr e; fits = moved_fits r box t hr e f }

-- A WAITING INPUT PUT AT ROW i
module _ (r : List ℕ) (box node : ℕ) (e : List ℕ) (n : ℕ) (hr : length r ≡ 144) (he : length e ≡ 144) (h : n ≤ 8) where
  input_words : (get_or (input_put r 0 box node e n) 0 0 ≡ 0) × (get_or (input_put r 0 box node e n) 1 0 ≡ box) × (get_or (input_put r 0 box node e n) 5 0 ≡ node) × (get_or (input_put r 0 box node e n) 6 0 ≡ n)
  unfolding values_put input_put
  input_words =
      let vs : List ℕ = take (17 * n) (drop 8 e) in
      let a : List ℕ = 0 ∷ box ∷ [] in
      let b : List ℕ = node ∷ n ∷ [] in
      let s : List ℕ = sets r 0 a in
      let sl : length s ≡ 144 = length-sets r 0 a ∙ hr in (
        get_d_sets_below vs (sets s 5 b) 8 0 0 (omega arith) ∙ get_d_sets_below b s 5 0 0 (omega arith) ∙ get_d_sets_at a r 0 0 0 (omega arith) (omega arith),
        get_d_sets_below vs (sets s 5 b) 8 1 0 (omega arith) ∙ get_d_sets_below b s 5 1 0 (omega arith) ∙ get_d_sets_at a r 0 1 0 (omega arith) (omega arith),
        get_d_sets_below vs (sets s 5 b) 8 5 0 (omega arith) ∙ get_d_sets_at b s 5 0 0 (omega arith) (omega arith),
        get_d_sets_below vs (sets s 5 b) 8 6 0 (omega arith) ∙ get_d_sets_at b s 5 1 0 (omega arith) (omega arith),
      )

  input_places : take n (places_of (input_put r 0 box node e n)) ≡ take n (places_of e)
  unfolding input_put
  input_places =
      let a : List ℕ = 0 ∷ box ∷ [] in
      let b : List ℕ = node ∷ n ∷ [] in
      values_places (sets (sets r 0 a) 5 b) e n (length-sets (sets r 0 a) 5 b ∙ length-sets r 0 a ∙ hr) he h

  input_row_view : view_row (input_put r 0 box node e n) ≡ input box node (map view_place (take n (places_of e)))
  input_row_view =
      let m : List ℕ = input_put r 0 box node e n in
      let w = input_words in
      input_view m (λ q. omega arith) ∙ ap (λ (k : ℕ). input k (get_or m 5 0) (map view_place (take (get_or m 6 0) (places_of m)))) w.1 ∙
      ap (λ (k : ℕ). input box k (map view_place (take (get_or m 6 0) (places_of m)))) w.2 ∙ ap (λ (k : ℕ). input box node (map view_place (take k (places_of m)))) w.3 ∙
      ap (λ (y : List (List ℕ)). input box node (map view_place y)) input_places

  input_row_fits : every fits_place (take n (places_of e)) ≡ true → fits_row (input_put r 0 box node e n) ≡ true
  input_row_fits f =
      let m : List ℕ = input_put r 0 box node e n in
      let w = input_words in
      input_fits m (λ q. omega arith) (ap (λ (k : ℕ). leb k 8 & every fits_place (take k (places_of m))) w.3 ∙ both _ _ (le-leb n 8 h) (ap (every fits_place) input_places ∙ f))

-- every other row as it was
rows_input : (l : List ℕ) (i box node : ℕ) (e : List ℕ) (n : ℕ) → i < 32 → n ≤ 8 → rows_of (input_put l (144 * i) box node e n) ≡ set (rows_of l) i (input_put (row_at l i) 0 box node e n)
unfolding values_put input_put
rows_input l i box node e n h m =
    let a : List ℕ = 0 ∷ box ∷ [] in
    let b : List ℕ = node ∷ n ∷ [] in
    let vs : List ℕ = take (17 * n) (drop 8 e) in
    let vl : length vs ≤ 136 = omega (arith, length-take (17 * n) (drop 8 e)) in
    let first : rows_of (sets l (144 * i) a) ≡ set (rows_of l) i (sets (row_at l i) 0 a) = ap (λ (k : ℕ). rows_of (sets l k a)) (sym (add-zero (144 * i))) ∙ parts_sets 144 32 l i 0 a h (omega arith) in
    let second : rows_of (sets (sets l (144 * i) a) (144 * i + 5) b) ≡ set (rows_of l) i (sets (sets (row_at l i) 0 a) 5 b) =
    parts_more 144 32 l (sets l (144 * i) a) i (sets (row_at l i) 0 a) 5 b h (omega arith) first in
    parts_more 144 32 l (sets (sets l (144 * i) a) (144 * i + 5) b) i (sets (sets (row_at l i) 0 a) 5 b) 8 vs h (omega arith) second

pub input_put_lem : (l : List ℕ) (i box node : ℕ) (e : List ℕ) (n : ℕ) → length l ≡ 5184 → i < 32 → length e ≡ 144 → n ≤ 8 → every fits_place (take n (places_of e)) ≡ true →
    RowPut l i (input box node (map view_place (take n (places_of e)))) (input_put l (144 * i) box node e n)
input_put_lem l i box node e n long h he m f =
    let r : List ℕ = row_at l i in
    let hr : length r ≡ 144 = part_length 144 32 l i h (omega arith) in
    record {
      row = input_put r 0 box node e n;
      rows = rows_input l i box node e n h m;
      view = input_row_view r box node e n hr he m;
      fits = input_row_fits r box node e n hr he m f;
    }

-- A ROW PUT: one of the held rows, or one more
module _ (l m : List ℕ) (i : ℕ) (p : Particle) (x : RowPut l i p m) where
  pub put_row : i < 32 → row_at m i ≡ x.row
  put_row h = ap (λ (y : List (List ℕ)). get_or y i []) x.rows ∙ get_or-set_same (rows_of l) i x.row [] (rw (rows_count l) h)

  pub put_other : (j : ℕ) → j ≢ i → row_at m j ≡ row_at l j
  put_other j h = ap (λ (y : List (List ℕ)). get_or y j []) x.rows ∙ get_or-set_other (rows_of l) i j x.row [] h

  pub put_view : (n : ℕ) → i < n → view_rows m n ≡ set (view_rows l n) i p
  put_view n h = ap (λ (y : List (List ℕ)). map view_row (take n y)) x.rows ∙ view_set view_row (rows_of l) n i x.row h ∙ ap (set (view_rows l n) i) x.view

  pub put_fits : (n : ℕ) → i < n → fits_rows l n ≡ true → fits_rows m n ≡ true
  put_fits n h f = ap (λ (y : List (List ℕ)). leb n 32 & every fits_row (take n y)) x.rows ∙ fits_put fits_row (rows_of l) 32 (rows_count l) n i x.row h (both _ _ f x.fits)

  pub add_view : i < 32 → view_rows m (i + 1) ≡ view_rows l i ++ (p ∷ [])
  add_view h =
      ap (λ (y : List (List ℕ)). map view_row (take (i + 1) y)) x.rows ∙ view_push view_row (rows_of l) i x.row (rw (rows_count l) h) ∙
      ap (λ (y : Particle). view_rows l i ++ (y ∷ [])) x.view

  pub add_fits : i < 32 → fits_rows l i ≡ true → fits_rows m (i + 1) ≡ true
  add_fits h f = ap (λ (y : List (List ℕ)). leb (i + 1) 32 & every fits_row (take (i + 1) y)) x.rows ∙ fits_with fits_row (rows_of l) 32 (rows_count l) i x.row h (both _ _ f x.fits)

-- A ROW REMOVED: the held rows are the others, the rows from the new end on have their very words
module _ (l : List ℕ) (i n : ℕ) (long : length l ≡ 5184) (h : i < n) (m : n ≤ 32) where
  gone_rows : take (n - 1) (rows_of (row_gone l i n)) ≡ remove (take n (rows_of l)) i
  unfolding row_gone
  gone_rows =
      let p : ℕ = n - 1 in
      let z : suc p ≡ n = omega arith in
      parts_take 144 32 p (row_gone l i n) (omega arith) ∙ parts_gone 144 p l i (omega arith) (omega arith) ∙ ap (λ (y : List (List ℕ)). remove y i) (sym (parts_take 144 32 (suc p) l (omega arith))) ∙
      ap (λ (k : ℕ). remove (take k (rows_of l)) i) z

  pub gone_rest : drop (n - 1) (rows_of (row_gone l i n)) ≡ drop (n - 1) (rows_of l)
  unfolding row_gone
  gone_rest =
      let p : ℕ = n - 1 in
      let a : p + (33 - n) ≡ 32 = omega arith in
      ap (λ (k : ℕ). drop p (parts 144 k (row_gone l i n))) (sym a) ∙ parts_gone_rest 144 p l i (33 - n) (omega arith) (omega arith) ∙ ap (λ (k : ℕ). drop p (parts 144 k l)) a

  pub gone_view : view_rows (row_gone l i n) (n - 1) ≡ remove (view_rows l n) i
  gone_view = ap (map view_row) gone_rows ∙ map_remove view_row (take n (rows_of l)) i

  pub gone_fits : fits_rows l n ≡ true → fits_rows (row_gone l i n) (n - 1) ≡ true
  gone_fits f = both _ _ (le-leb (n - 1) 32 (omega arith)) (ap (every fits_row) gone_rows ∙ every_remove fits_row (take n (rows_of l)) i (snd _ _ f))
