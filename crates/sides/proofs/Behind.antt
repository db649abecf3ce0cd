-- Boxes and shelf, behind the rows: a box and a value put there; what is written in one of the three leaves the others.
use Prim.Native.Nat.{ℕ, ◌+◌, ◌-◌, ◌*◌, ◌<◌, ◌≤◌}
use mathlib.Core.Path.{◌≡◌, refl, ◌∙◌, ap}
use mathlib.Core.Bool.{Bool, true, false}
use mathlib.Core.List.{List, [], ◌∷◌, ◌++◌, map}
use native.Mathlib.Omega.{arith}
use lib.Dec.{leb}
use lib.ListN.{length, take, drop, get_or, set, replicate, length-take, length-drop}
use lib.Seq.{sets, drop-set-lt}
use Rattle.model.specs.Basics.{◌&◌, every}
use Rattle.model.specs.Side.{Box}
use Rattle.model.specs.Wrapper.{all_sides}
use Rattle.model.proofs.Basics.Tests.{both}
use Rattle.values.specs.Env.{view_value}
use Rattle.sides.specs.declared.Tag.{Tag}
use Rattle.sides.specs.declared.Lobby.{Lobby}
use Rattle.sides.specs.Holding.{LobbyIs}
use Rattle.sides.proofs.Lists.{view_push, view_length, fits_with}
use Rattle.sides.specs.declared.Output.{Output}
use Rattle.sides.specs.Layout.{parts, rows_of, boxes_of, shelf_of, view_box, view_boxes, view_place, fits_place, view_shelf, fits_shelf}
use Rattle.sides.specs.Stored.{kind_of, name_of, placed, head_put, sent_put, output_put, moved_to, values_put, input_put, row_gone, box_put, shelf_put}
use Rattle.sides.specs.Sides.{Nothing}
use Rattle.sides.proofs.Sets.{drop_sets_lt, drop_sets_add, get_d_sets_at}
use Rattle.sides.proofs.Parts.{part_length, parts_past, sets_behind}
use Rattle.sides.proofs.Reading.{boxes_count, shelf_count}
use Rattle.sides.proofs.Viewing.{placed_view, placed_fits}

-- WHAT STANDS BEHIND THE ROWS stays where a row is written
pub behind_sent : (l : List ℕ) (i box channel : ℕ) (t : Tag) (x : List ℕ) → i < 32 → length x ≤ 16 → drop 4608 (sent_put l (144 * i) box channel t x) ≡ drop 4608 l
unfolding placed head_put sent_put
behind_sent l i box channel t x h m =
    let hs : List ℕ = 1 ∷ box ∷ channel ∷ kind_of t ∷ name_of t ∷ [] in
    drop_sets_lt 4608 (length x ∷ x) (sets l (144 * i) hs) (144 * i + 8) (omega arith) ∙ drop_sets_lt 4608 hs l (144 * i) (omega arith)

pub behind_output : (l : List ℕ) (i : ℕ) (o : Output) → i < 32 → o.value.len ≤ 16 → drop 4608 (output_put l (144 * i) o) ≡ drop 4608 l
unfolding output_put
behind_output l i o h m = behind_sent l i o.at o.channel o.tag (view_value o.value) h (omega (arith, length-take o.value.len o.value.words))

pub behind_moved : (l : List ℕ) (i box : ℕ) (t : Tag) → i < 32 → drop 4608 (moved_to l (144 * i) box t) ≡ drop 4608 l
unfolding moved_to
behind_moved l i box t h =
    drop_sets_lt 4608 (kind_of t ∷ name_of t ∷ []) (set l (144 * i + 1) box) (144 * i + 3) (omega arith) ∙ drop-set-lt 4608 l (144 * i + 1) box (omega arith)

pub behind_input : (l : List ℕ) (i box node : ℕ) (e : List ℕ) (n : ℕ) → i < 32 → n ≤ 8 → drop 4608 (input_put l (144 * i) box node e n) ≡ drop 4608 l
unfolding values_put input_put
behind_input l i box node e n h m =
    let a : List ℕ = 0 ∷ box ∷ [] in
    let b : List ℕ = node ∷ n ∷ [] in
    let vs : List ℕ = take (17 * n) (drop 8 e) in
    let vl : length vs ≤ 136 = omega (arith, length-take (17 * n) (drop 8 e)) in
    drop_sets_lt 4608 vs (sets (sets l (144 * i) a) (144 * i + 5) b) (144 * i + 8) (omega arith) ∙
    drop_sets_lt 4608 b (sets l (144 * i) a) (144 * i + 5) (omega arith) ∙ drop_sets_lt 4608 a l (144 * i) (omega arith)

pub behind_gone : (l : List ℕ) (i n : ℕ) → i < n → n ≤ 32 → drop 4608 (row_gone l i n) ≡ drop 4608 l
unfolding row_gone
behind_gone l i n h m =
    let vs : List ℕ = take (144 * (n - 1 - i)) (drop (144 * i + 144) l) in
    drop_sets_lt 4608 vs l (144 * i) (omega (arith, length-take (144 * (n - 1 - i)) (drop (144 * i + 144) l)))

-- A BOX PUT
module _ (l : List ℕ) (j name parent : ℕ) where
  pub box_rows_lem : rows_of (box_put l j name parent) ≡ rows_of l
  unfolding box_put
  box_rows_lem = parts_past 144 32 l (4608 + 2 * j) (name ∷ parent ∷ []) (omega arith)

  pub box_shelf : j < 16 → drop 4640 (box_put l j name parent) ≡ drop 4640 l
  unfolding box_put
  box_shelf h = drop_sets_lt 4640 (name ∷ parent ∷ []) l (4608 + 2 * j) (omega arith)

  module _ (long : length l ≡ 5184) (h : j < 16) where
    -- one box more
    pub box_view : view_boxes (box_put l j name parent) (j + 1) ≡ view_boxes l j ++ (record { name = name; parent = parent } ∷ [])
    unfolding box_put
    box_view =
        let p : List ℕ = get_or (boxes_of l) j [] in
        let vs : List ℕ = name ∷ parent ∷ [] in
        let pl : length p ≡ 2 = part_length 2 16 (drop 4608 l) j h (omega (arith, length-drop 4608 l)) in
        let one : view_box (sets p 0 vs) ≡ record { name = name; parent = parent } = the-box _ _ _ _ (get_d_sets_at vs p 0 0 0 (omega arith) (omega arith)) (get_d_sets_at vs p 0 1 0 (omega arith) (omega arith)) in
        ap (λ (y : List (List ℕ)). map view_box (take (j + 1) y)) (sets_behind 2 16 4608 l j vs h (omega arith)) ∙
        view_push view_box (boxes_of l) j (sets p 0 vs) (rw (boxes_count l) h) ∙ ap (λ (y : Box). view_boxes l j ++ (y ∷ [])) one
      where
        the-box : (a b c d : ℕ) → a ≡ c → b ≡ d → ◌≡◌ {A = Box} (record { name = a; parent = b }) (record { name = c; parent = d })
        the-box a b c d p q = cc

pub boxes_held : (l : List ℕ) (n : ℕ) → n ≤ 16 → length (view_boxes l n) ≡ n
boxes_held l n h = view_length view_box (boxes_of l) n (rw (boxes_count l) h)

-- A VALUE PUT ON THE SHELF
module _ (l : List ℕ) (i : ℕ) (x : List ℕ) where
  pub shelf_rows : rows_of (shelf_put l i x) ≡ rows_of l
  unfolding placed shelf_put
  shelf_rows = parts_past 144 32 l (4640 + 17 * i) (length x ∷ x) (omega arith)

  pub shelf_boxes : boxes_of (shelf_put l i x) ≡ boxes_of l
  unfolding placed shelf_put
  shelf_boxes =
      let e : 4640 + 17 * i ≡ 4608 + (32 + 17 * i) = omega arith in
      ap (λ (k : ℕ). parts 2 16 (drop 4608 (sets l k (length x ∷ x)))) e ∙ ap (parts 2 16) (drop_sets_add 4608 (length x ∷ x) l (32 + 17 * i)) ∙
      parts_past 2 16 (drop 4608 l) (32 + 17 * i) (length x ∷ x) (omega arith)

  module _ (long : length l ≡ 5184) (h : i < 32) (short : length x ≤ 16) where
    shelf_places : shelf_of (shelf_put l i x) ≡ set (shelf_of l) i (placed (get_or (shelf_of l) i []) 0 x)
    unfolding placed shelf_put
    shelf_places = sets_behind 17 32 4640 l i (length x ∷ x) h (omega arith)

    place_long : length (get_or (shelf_of l) i []) ≡ 17
    place_long = part_length 17 32 (drop 4640 l) i h (omega (arith, length-drop 4640 l))

    -- one value more
    pub shelf_view : view_shelf (shelf_put l i x) (i + 1) ≡ view_shelf l i ++ (x ∷ [])
    shelf_view =
        let p : List ℕ = get_or (shelf_of l) i [] in
        ap (λ (y : List (List ℕ)). map view_place (take (i + 1) y)) shelf_places ∙ view_push view_place (shelf_of l) i (placed p 0 x) (rw (shelf_count l) h) ∙
        ap (λ (y : List ℕ). view_shelf l i ++ (y ∷ [])) (placed_view p x (omega (arith, place_long)))

    pub shelf_more_fits : fits_shelf l i ≡ true → fits_shelf (shelf_put l i x) (i + 1) ≡ true
    shelf_more_fits f =
        let p : List ℕ = get_or (shelf_of l) i [] in
        ap (λ (y : List (List ℕ)). leb (i + 1) 32 & every fits_place (take (i + 1) y)) shelf_places ∙
        fits_with fits_place (shelf_of l) 32 (shelf_count l) i (placed p 0 x) h (both _ _ f (placed_fits p x (omega (arith, place_long)) short))

-- NOTHING: no rows, boxes and shelf values, and a lobby y without messages
pub nothing_is : (y : Lobby) (n : ℕ) (t : List Bool) → LobbyIs [] n true y → t ≡ replicate (32 * length all_sides) false → Nothing (record { particles = 0; boxes = 0; shelved = 0; minted = 0; lobby = y; taken = t })
nothing_is y n t ys te = record { core = λ l. rw (ys.view, te); fits = λ l. both _ _ (both _ _ refl refl) (both _ _ refl (both _ _ (ys.fits refl) (both _ _ refl refl))) }
