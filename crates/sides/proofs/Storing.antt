-- What each function that writes leaves, as the definitions of specs/Stored.antt say it.
use Prim.Native.Nat.{ℕ, suc, ◌+◌, ◌-◌, ◌*◌, ◌<◌, ◌≤◌}
use mathlib.Core.Path.{◌≡◌, sym, ◌∙◌, ap}
use mathlib.Core.List.{List, [], ◌∷◌}
use native.Mathlib.Nat.{add-zero, zero-add}
use native.Mathlib.Numerals.{add-one}
use native.Mathlib.Omega.{arith}
use borrow.Rule.Slice.PartMut.{mid_of, put_mid}
use lib.ListN.{length, take, drop, get_or, set, length-set, length-take, length-drop}
use lib.Seq.{sets, paste, length-sets, length-take-le, take_all, get_or-drop}
use Rattle.values.specs.declared.Value.{Value}
use Rattle.values.specs.Env.{view_value}
use Rattle.sides.specs.declared.Tag.{Tag}
use Rattle.sides.specs.declared.Output.{Output}
use Rattle.sides.specs.Layout.{row_at}
use Rattle.sides.specs.Stored.{kind_of, name_of, placed, head_put, sent_put, output_put, moved_to, box_put, shelf_put, values_put, input_put, row_gone}
use Rattle.sides.proofs.Sets.{set_sets, sets_turn, paste_sets, sets_lent, run_lent}
use Rattle.sides.proofs.Parts.{part_lent, part_behind, part_length}

-- a turn of a loop that copies from place j of s on
pub part_turn : (l s x : List ℕ) (i j k : ℕ) → j + k < length s → x ≡ sets l i (take k (drop j s)) → set x (i + k) (get_or s (j + k) 0) ≡ sets l i (take (k + 1) (drop j s))
part_turn l s x i j k h e = ap (set x (i + k)) (sym (get_or-drop j s k 0)) ∙ sets_turn l (drop j s) x i k 0 (omega (arith, length-drop j s)) e

-- words copied, when the loop ends
pub all_stored : (v s x : List ℕ) (i k : ℕ) → k ≡ length s → x ≡ sets v i (take k s) → x ≡ sets v i s
all_stored v s x i k z e = e ∙ ap (sets v i) (take_all k s (omega arith))

-- values copied, when the loop ends
pub values_stored : (d s x : List ℕ) (n k : ℕ) → k ≡ 17 * n → x ≡ sets d 8 (take k (drop 8 s)) → x ≡ values_put d 0 s n
unfolding values_put
values_stored d s x n k z e = e ∙ ap (λ (j : ℕ). sets d 8 (take j (drop 8 s))) z

-- the rows above row i, moved down a row
pub rows_down : (l : List ℕ) (i n : ℕ) → length l ≡ 5184 → i < n → n ≤ 32 → paste l (144 * i) (drop (144 * i + 144) l) (144 * n - (144 * i + 144)) ≡ row_gone l i n
unfolding row_gone
rows_down l i n long h m =
    let k : 144 * n - (144 * i + 144) ≡ 144 * (n - 1 - i) = omega arith in
    let s : List ℕ = drop (144 * i + 144) l in
    ap (paste l (144 * i) s) k ∙ paste_sets l s (144 * i) (144 * (n - 1 - i)) (omega (arith, length-drop (144 * i + 144) l)) (omega arith)

-- words put into a place after they are appended: the length comes last
pub words_stored : (v y s : List ℕ) (n : ℕ) → n ≡ 0 + length s → y ≡ sets v (1 + 0) s → set y 0 n ≡ placed v 0 s
unfolding placed
words_stored v y s n p q = ap (λ (x : List ℕ). set x 0 n) q ∙ ap (set (sets v 1 s) 0) (p ∙ zero-add (length s)) ∙ set_sets s v 0 1 (length s) (omega arith)

-- a box's two words
pub box_stored : (l : List ℕ) (j name parent : ℕ) → set (set l (4608 + 2 * j) name) (4608 + 2 * j + 1) parent ≡ box_put l j name parent
unfolding box_put
box_stored l j name parent = ap (λ (k : ℕ). set (set l (4608 + 2 * j) name) k parent) (add-one (4608 + 2 * j))

-- an output's first words
pub head_stored : (r : List ℕ) (box channel : ℕ) (t : Tag) (k n : ℕ) → k ≡ kind_of t → n ≡ name_of t → sets r 0 (1 ∷ box ∷ channel ∷ k ∷ n ∷ []) ≡ head_put r 0 box channel t
unfolding head_put
head_stored r box channel t k n p q = ap (λ (j : ℕ). sets r 0 (1 ∷ box ∷ channel ∷ j ∷ n ∷ [])) p ∙ ap (λ (j : ℕ). sets r 0 (1 ∷ box ∷ channel ∷ kind_of t ∷ j ∷ [])) q

-- an output's box and tag
pub move_stored : (l : List ℕ) (a box : ℕ) (t : Tag) (k n : ℕ) → k ≡ kind_of t → n ≡ name_of t → set (set (set l (a + 1) box) (a + 3) k) (a + 4) n ≡ moved_to l a box t
unfolding moved_to
move_stored l a box t k n p q =
    let e : a + 4 ≡ suc (a + 3) = omega arith in
    ap (λ (j : ℕ). set (set (set l (a + 1) box) (a + 3) k) j n) e ∙ ap (λ (j : ℕ). set (set (set l (a + 1) box) (a + 3) j) (suc (a + 3)) n) p ∙
    ap (set (set (set l (a + 1) box) (a + 3) (kind_of t)) (suc (a + 3))) q

-- how long a value that fits is
pub value_length : (x : Value) → x.len ≤ 16 → length (view_value x) ≤ 16
value_length x h = omega (arith, length-take x.len x.words)

-- a place lent: a value put there is put at its place of the whole
pub place_back : (l : List ℕ) (a k : ℕ) (x : List ℕ) → a ≤ length l → 1 + length x ≤ length (mid_of a k l) → put_mid a k l (placed (mid_of a k l) 0 x) ≡ placed l a x
unfolding placed
place_back l a k x h m = run_lent a k l h (length x ∷ x) 0 (omega arith) ∙ ap (λ (j : ℕ). sets l j (length x ∷ x)) (add-zero a)

-- a place of the shelf lent
pub shelf_back : (l v : List ℕ) (i : ℕ) (x : Value) → length l ≡ 5184 → i < 32 → x.len ≤ 16 →
    v ≡ placed (mid_of (4640 + 17 * i) (4640 + 17 * i + 17 - (4640 + 17 * i)) l) 0 (view_value x) →
    put_mid (4640 + 17 * i) (4640 + 17 * i + 17 - (4640 + 17 * i)) l v ≡ shelf_put l i (view_value x)
unfolding shelf_put
shelf_back l v i x long h m e =
    let a : ℕ = 4640 + 17 * i in
    let k : ℕ = a + 17 - a in
    let mid : length (mid_of a k l) ≡ 17 = ap length (part_behind 17 32 4640 l i h) ∙ part_length 17 32 (drop 4640 l) i h (omega (arith, length-drop 4640 l)) in
    ap (put_mid a k l) e ∙ place_back l a k (view_value x) (omega arith) (omega (arith, value_length x m))

-- A ROW LENT: what is written there is written at its place of the whole
module _ (l : List ℕ) (i : ℕ) (long : length l ≡ 5184) (h : i < 32) where
  -- the row at a place, as the words that are lent
  pub row_lent : take (144 * i + 144 - 144 * i) (drop (144 * i) l) ≡ row_at l i
  row_lent = part_lent 144 32 l i h

  pub row_length : length (row_at l i) ≡ 144
  row_length = part_length 144 32 l i h (omega arith)

  mid_length : length (mid_of (144 * i) (144 * i + 144 - 144 * i) l) ≡ 144
  mid_length = ap length row_lent ∙ row_length

  -- the first words and the first place, lent one after the other
  pub sent_back : (b v : List ℕ) (box channel : ℕ) (t : Tag) (x : List ℕ) → length x ≤ 16 →
      b ≡ head_put (mid_of (144 * i) (144 * i + 8 - 144 * i) l) 0 box channel t →
      v ≡ placed (mid_of (144 * i + 8) (144 * i + 8 + 17 - (144 * i + 8)) (put_mid (144 * i) (144 * i + 8 - 144 * i) l b)) 0 x →
      put_mid (144 * i + 8) (144 * i + 8 + 17 - (144 * i + 8)) (put_mid (144 * i) (144 * i + 8 - 144 * i) l b) v ≡ sent_put l (144 * i) box channel t x
  unfolding head_put sent_put
  sent_back b v box channel t x short p q =
      let a : ℕ = 144 * i in
      let k : ℕ = a + 8 - a in
      let hs : List ℕ = 1 ∷ box ∷ channel ∷ kind_of t ∷ name_of t ∷ [] in
      let k8 : k ≡ 8 = omega arith in
      let ml : length (mid_of a k l) ≡ 8 = ap (λ (n : ℕ). length (take n (drop a l))) k8 ∙ length-take-le 8 (drop a l) (omega (arith, length-drop a l)) in
      let s : List ℕ = put_mid a k l b in
      let first : s ≡ sets l a hs = ap (put_mid a k l) p ∙ run_lent a k l (omega arith) hs 0 (omega arith) ∙ ap (λ (n : ℕ). sets l n hs) (add-zero a) in
      let sl : length s ≡ 5184 = ap length first ∙ length-sets l a hs ∙ long in
      let c : ℕ = a + 8 in
      let m : ℕ = c + 17 - c in
      let m17 : m ≡ 17 = omega arith in
      let cl : length (mid_of c m s) ≡ 17 = ap (λ (n : ℕ). length (take n (drop c s))) m17 ∙ length-take-le 17 (drop c s) (omega (arith, length-drop c s)) in
      ap (put_mid c m s) q ∙ place_back s c m x (omega arith) (omega arith) ∙ ap (λ (y : List ℕ). placed y c x) first

  pub input_back : (b : List ℕ) (box node : ℕ) (e : List ℕ) (n : ℕ) → n ≤ 8 → b ≡ input_put (mid_of (144 * i) (144 * i + 144 - 144 * i) l) 0 box node e n →
      put_mid (144 * i) (144 * i + 144 - 144 * i) l b ≡ input_put l (144 * i) box node e n
  unfolding values_put input_put
  input_back b box node e n m q =
      let a : ℕ = 144 * i in
      let w : ℕ = a + 144 - a in
      let r : List ℕ = mid_of a w l in
      let vs : List ℕ = take (17 * n) (drop 8 e) in
      let s : List ℕ = sets r 0 (0 ∷ box ∷ []) in
      let t : List ℕ = sets s 5 (node ∷ n ∷ []) in
      let ml : length r ≡ 144 = mid_length in
      let sl : length s ≡ 144 = length-sets r 0 (0 ∷ box ∷ []) ∙ ml in
      let tl : length t ≡ 144 = length-sets s 5 (node ∷ n ∷ []) ∙ sl in
      let vl : length vs ≤ 136 = omega (arith, length-take (17 * n) (drop 8 e)) in
      let start : a ≤ length l = omega arith in
      ap (put_mid a w l) q ∙ sets_lent a w l start vs t 8 (omega arith) ∙
      ap (λ (y : List ℕ). sets y (a + 8) vs) (sets_lent a w l start (node ∷ n ∷ []) s 5 (omega arith)) ∙
      ap (λ (y : List ℕ). sets (sets y (a + 5) (node ∷ n ∷ [])) (a + 8) vs) (run_lent a w l start (0 ∷ box ∷ []) 0 (omega arith) ∙ ap (λ (j : ℕ). sets l j (0 ∷ box ∷ [])) (add-zero a))

-- EACH KEEPS THE LENGTH
module _ (l : List ℕ) (a : ℕ) where
  pub placed_length : (x : List ℕ) → length (placed l a x) ≡ length l
  unfolding placed
  placed_length x = length-sets l a (length x ∷ x)

  pub head_length : (box channel : ℕ) (t : Tag) → length (head_put l a box channel t) ≡ length l
  unfolding head_put
  head_length box channel t = length-sets l a (1 ∷ box ∷ channel ∷ kind_of t ∷ name_of t ∷ [])

  pub sent_length : (box channel : ℕ) (t : Tag) (x : List ℕ) → length (sent_put l a box channel t x) ≡ length l
  unfolding placed head_put sent_put
  sent_length box channel t x = simp length-sets

  pub values_length : (r : List ℕ) (n : ℕ) → length (values_put l a r n) ≡ length l
  unfolding values_put
  values_length r n = length-sets l (a + 8) (take (17 * n) (drop 8 r))

  pub input_length : (box node : ℕ) (e : List ℕ) (n : ℕ) → length (input_put l a box node e n) ≡ length l
  unfolding values_put input_put
  input_length box node e n = simp length-sets

pub output_length : (l : List ℕ) (a : ℕ) (o : Output) → length (output_put l a o) ≡ length l
unfolding output_put
output_length l a o = sent_length l a o.at o.channel o.tag (view_value o.value)

pub moved_length : (l : List ℕ) (a box : ℕ) (t : Tag) → length (moved_to l a box t) ≡ length l
unfolding moved_to
moved_length l a box t = length-sets (set l (a + 1) box) (a + 3) (kind_of t ∷ name_of t ∷ []) ∙ length-set l (a + 1) box

pub box_length : (l : List ℕ) (j name parent : ℕ) → length (box_put l j name parent) ≡ length l
unfolding box_put
box_length l j name parent = length-sets l (4608 + 2 * j) (name ∷ parent ∷ [])

pub shelf_length : (l : List ℕ) (i : ℕ) (x : List ℕ) → length (shelf_put l i x) ≡ length l
unfolding shelf_put
shelf_length l i x = placed_length l (4640 + 17 * i) x

pub gone_length : (l : List ℕ) (i n : ℕ) → length (row_gone l i n) ≡ length l
unfolding row_gone
gone_length l i n = length-sets l (144 * i) (take (144 * (n - 1 - i)) (drop (144 * i + 144) l))
