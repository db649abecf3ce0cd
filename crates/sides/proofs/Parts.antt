-- Words as parts of one width: a part by its place, a part put anew, words stored in a part, a part gone.
use Prim.Native.Nat.{ℕ, zero, suc, ◌+◌, ◌-◌, ◌*◌, ◌<◌, ◌≤◌}
use mathlib.Core.Path.{◌≡◌, refl, sym, ◌∙◌, ap}
use mathlib.Core.List.{List, [], ◌∷◌, ◌++◌, append_assoc}
use native.Mathlib.Nat.{add-zero, mul-zero, mul-suc, mul-add, sub-zero, add_comm, add_assoc, zero-add, suc-add, add-sub_cancel_left, add-sub_of_le}
use native.Mathlib.Omega.{arith}
use borrow.Rule.Slice.PartMut.{mid_of, put_mid, Post-is}
use lib.ListN.{length, take, drop, get_or, set, length-take, length-drop, take-append-drop}
use lib.Seq.{sets, sets-eq, length-sets, take_at, drop_at, take-add, take-take, drop-drop, length-take-le, get_or-take, get_or-drop, get_or-set_same, set-set}
use Rattle.model.specs.Basics.{remove}
use Rattle.sides.specs.Layout.{parts}
use Rattle.sides.proofs.Sets.{take_sets_le, take_sets_lt, drop_sets_lt, drop_sets_add}

-- w * (i + 1), with the w first
mul_next : (w i : ℕ) → w * suc i ≡ w + w * i
mul_next w i = mul-suc w i ∙ add_comm (w * i) w

-- a part of a part
pub part_of_part : (m j w : ℕ) (x : List ℕ) → j + m ≤ w → take m (drop j (take w x)) ≡ take m (drop j x)
part_of_part m zero w x h = take-take m w x (omega arith)
part_of_part m (suc j) zero x h = absurd (omega arith)
part_of_part m (suc j) (suc w) [] h = refl
part_of_part m (suc j) (suc w) (a ∷ x) h = part_of_part m j w x (omega arith)

pub parts_length : (w n : ℕ) (l : List ℕ) → length (parts w n l) ≡ n
unfolding parts
parts_length w zero l = refl
parts_length w (suc n) l = ap suc (parts_length w n (drop w l))

-- the part at a place
pub parts_at : (w n : ℕ) (l : List ℕ) (i : ℕ) → i < n → get_or (parts w n l) i [] ≡ take w (drop (w * i) l)
unfolding parts
parts_at w zero l i h = absurd (omega arith)
parts_at w (suc n) l zero h = rw (mul-zero w)
parts_at w (suc n) l (suc i) h = parts_at w n (drop w l) i (omega arith) ∙ rw (mul_next w i, drop-drop)

-- a word of it
pub parts_word : (w n : ℕ) (l : List ℕ) (i k : ℕ) → i < n → k < w → get_or (get_or (parts w n l) i []) k 0 ≡ get_or l (w * i + k) 0
parts_word w n l i k h m = ap (λ (r : List ℕ). get_or r k 0) (parts_at w n l i h) ∙ get_or-take w (drop (w * i) l) k 0 m ∙ get_or-drop (w * i) l k 0

pub part_length : (w n : ℕ) (l : List ℕ) (i : ℕ) → i < n → w * i + w ≤ length l → length (get_or (parts w n l) i []) ≡ w
part_length w n l i h m = ap length (parts_at w n l i h) ∙ length-take-le w (drop (w * i) l) (omega (arith, length-drop (w * i) l))

-- a word of a part of what stands behind the first a words
pub word_behind : (w n a : ℕ) (l : List ℕ) (i k : ℕ) → i < n → k < w → get_or (get_or (parts w n (drop a l)) i []) k 0 ≡ get_or l (a + w * i + k) 0
word_behind w n a l i k h m = parts_word w n (drop a l) i k h m ∙ get_or-drop a l (w * i + k) 0 ∙ ap (λ (j : ℕ). get_or l j 0) (sym (add_assoc a (w * i) k))

pub first_behind : (w n a : ℕ) (l : List ℕ) (i : ℕ) → i < n → 0 < w → get_or (get_or (parts w n (drop a l)) i []) 0 0 ≡ get_or l (a + w * i) 0
first_behind w n a l i h m = word_behind w n a l i 0 h m ∙ ap (λ (j : ℕ). get_or l j 0) (add-zero (a + w * i))

-- such a part, as the words that are lent
pub part_behind : (w n a : ℕ) (l : List ℕ) (i : ℕ) → i < n → take (a + w * i + w - (a + w * i)) (drop (a + w * i) l) ≡ get_or (parts w n (drop a l)) i []
part_behind w n a l i h = ap (λ (k : ℕ). take k (drop (a + w * i) l)) (add-sub_cancel_left (a + w * i) w) ∙ ap (take w) (sym (drop-drop (w * i) a l)) ∙ sym (parts_at w n (drop a l) i h)

-- a first part and what follows it
cons_part : (w n : ℕ) (a b : List ℕ) → length a ≡ w → parts w (suc n) (a ++ b) ≡ a ∷ parts w n b
unfolding parts
cons_part w n a b e = rw (take_at a b w e, drop_at a b w e)

first_length : (w i : ℕ) (l : List ℕ) → w * suc i ≤ length l → length (take w l) ≡ w
first_length w i l m = let e = mul_next w i in length-take-le w l (omega arith)

-- the words from one part on, past the first part
past : (w i : ℕ) (l : List ℕ) → drop (w * suc i + w) l ≡ drop (w * i + w) (drop w l)
past w i l = ap (λ (k : ℕ). drop (k + w) l) (mul_next w i) ∙ ap (λ (k : ℕ). drop k l) (add_assoc w (w * i) w) ∙ sym (drop-drop (w * i + w) w l)

before : (w i : ℕ) (l : List ℕ) → take (w * suc i) l ≡ take w l ++ take (w * i) (drop w l)
before w i l = ap (λ (k : ℕ). take k l) (mul_next w i) ∙ take-add w (w * i) l

rest_long : (w i : ℕ) (l : List ℕ) → w * suc i + w ≤ length l → w * i + w ≤ length (drop w l)
rest_long w i l m = let e = mul_next w i in omega (arith, length-drop w l)

-- PART i PUT ANEW: every other part as it was
pub parts_put : (w n : ℕ) (l : List ℕ) (i : ℕ) (r : List ℕ) → i < n → length r ≡ w → w * i + w ≤ length l →
    parts w n (take (w * i) l ++ (r ++ drop (w * i + w) l)) ≡ set (parts w n l) i r
unfolding parts
parts_put w zero l i r h e m = absurd (omega arith)
parts_put w (suc n) l zero r h e m =
    ap (parts w (suc n)) (rw (mul-zero w, zero-add w)) ∙ cons_part w n r (drop w l) e
parts_put w (suc n) l (suc i) r h e m =
    let x : List ℕ = take (w * i) (drop w l) ++ (r ++ drop (w * i + w) (drop w l)) in
    let f : length (take w l) ≡ w = first_length w i l (omega arith) in
    ap (parts w (suc n)) (rw (before w i l, past w i l, append_assoc)) ∙ cons_part w n (take w l) x f ∙
    ap (λ (y : List (List ℕ)). take w l ∷ y) (parts_put w n (drop w l) i r (omega arith) e (rest_long w i l m))

-- PART i LENT: what is lent is part i, and what comes back stands in its place
pub part_lent : (w n : ℕ) (l : List ℕ) (i : ℕ) → i < n → take (w * i + w - w * i) (drop (w * i) l) ≡ get_or (parts w n l) i []
part_lent w n l i h = ap (λ (k : ℕ). take k (drop (w * i) l)) (add-sub_cancel_left (w * i) w) ∙ sym (parts_at w n l i h)

module _ (w n : ℕ) (l : List ℕ) (i : ℕ) (r : List ℕ) (h : i < n) (m : w * i + w ≤ length l) (e : length r ≡ length (mid_of (w * i) (w * i + w - w * i) l)) where
  pub back_parts : parts w n (put_mid (w * i) (w * i + w - w * i) l r) ≡ set (parts w n l) i r
  back_parts =
      ap (λ (z : List ℕ). parts w n (take (w * i) l ++ (r ++ z))) (Post-is (w * i) (w * i + w) l (omega arith)) ∙
      parts_put w n l i r h (e ∙ ap length (part_lent w n l i h) ∙ part_length w n l i h m) m

  pub back_part : get_or (parts w n (put_mid (w * i) (w * i + w - w * i) l r)) i [] ≡ r
  back_part = ap (λ (y : List (List ℕ)). get_or y i []) back_parts ∙ get_or-set_same (parts w n l) i r [] (rw (parts_length w n l) h)

-- the first parts, the parts from one on
pub parts_take : (w n m : ℕ) (l : List ℕ) → m ≤ n → take m (parts w n l) ≡ parts w m l
unfolding parts
parts_take w n zero l h = refl
parts_take w zero (suc m) l h = absurd (omega arith)
parts_take w (suc n) (suc m) l h = ap (λ (y : List (List ℕ)). take w l ∷ y) (parts_take w n m (drop w l) (omega arith))

pub parts_drop : (w n m : ℕ) (l : List ℕ) → drop m (parts w (m + n) l) ≡ parts w n (drop (w * m) l)
unfolding parts
parts_drop w n zero l = rw (zero-add n, mul-zero w)
parts_drop w n (suc m) l = rw (suc-add m n, mul_next w m, ← drop-drop) (parts_drop w n m (drop w l))

-- they are made of the words before their end
pub parts_cut : (w n : ℕ) (l m : List ℕ) → w * n ≤ length l → w * n ≤ length m → take (w * n) l ≡ take (w * n) m → parts w n l ≡ parts w n m
unfolding parts
parts_cut w zero l m hl hm e = refl
parts_cut w (suc n) l m hl hm e =
    let a : take w l ++ take (w * n) (drop w l) ≡ take w m ++ take (w * n) (drop w m) = sym (before w n l) ∙ e ∙ before w n m in
    let f : length (take w l) ≡ w = first_length w n l hl in
    let g : length (take w m) ≡ w = first_length w n m hm in
    let x : List ℕ = take (w * n) (drop w l) in
    let y : List ℕ = take (w * n) (drop w m) in
    let one : take w l ≡ take w m = sym (take_at (take w l) x w f) ∙ ap (take w) a ∙ take_at (take w m) y w g in
    let two : x ≡ y = sym (drop_at (take w l) x w f) ∙ ap (drop w) a ∙ drop_at (take w m) y w g in
    let z = mul_next w n in
    ap (λ (y : List ℕ). y ∷ parts w n (drop w l)) one ∙
    ap (λ (y : List (List ℕ)). take w m ∷ y) (parts_cut w n (drop w l) (drop w m) (omega (arith, length-drop w l)) (omega (arith, length-drop w m)) two)

-- the parts are all that the words are
pub parts_all : (w n : ℕ) (l m : List ℕ) → length l ≡ w * n → length m ≡ w * n → parts w n l ≡ parts w n m → l ≡ m
unfolding parts
parts_all w zero l m hl hm e = nothing l (hl ∙ mul-zero w) ∙ sym (nothing m (hm ∙ mul-zero w))
  where
    nothing : (x : List ℕ) → length x ≡ 0 → x ≡ []
    nothing [] h = refl
    nothing (a ∷ x) h = absurd (omega arith)
parts_all w (suc n) l m hl hm e =
    let one : take w l ≡ take w m = cc in
    let two : parts w n (drop w l) ≡ parts w n (drop w m) = cc in
    let z = mul_next w n in
    let rest : drop w l ≡ drop w m = parts_all w n (drop w l) (drop w m) (omega (arith, length-drop w l)) (omega (arith, length-drop w m)) two in
    sym (take-append-drop w l) ∙ ap (λ (x : List ℕ). x ++ drop w l) one ∙ ap (λ (x : List ℕ). take w m ++ x) rest ∙ take-append-drop w m

-- WORDS STORED IN PART i: every other part as it was
pub parts_sets : (w n : ℕ) (l : List ℕ) (i j : ℕ) (vs : List ℕ) → i < n → j + length vs ≤ w →
    parts w n (sets l (w * i + j) vs) ≡ set (parts w n l) i (sets (get_or (parts w n l) i []) j vs)
unfolding parts
parts_sets w zero l i j vs h m = absurd (omega arith)
parts_sets w (suc n) l zero j vs h m = rw (mul-zero w, zero-add j, take_sets_lt w vs l j m, drop_sets_lt w vs l j m)
parts_sets w (suc n) l (suc i) j vs h m =
    let e : w * suc i + j ≡ w + (w * i + j) = let z = mul_next w i in omega arith in
    ap (λ (k : ℕ). parts w (suc n) (sets l k vs)) e ∙ rw (take_sets_le w vs l (w + (w * i + j)) (omega arith), drop_sets_add w vs l (w * i + j))
    (ap (λ (y : List (List ℕ)). take w l ∷ y) (parts_sets w n (drop w l) i j vs (omega arith) m))

-- words stored behind all parts
pub parts_past : (w n : ℕ) (l : List ℕ) (a : ℕ) (vs : List ℕ) → w * n ≤ a → parts w n (sets l a vs) ≡ parts w n l
unfolding parts
parts_past w zero l a vs h = refl
parts_past w (suc n) l a vs h =
    let z = mul_next w n in
    let e : a ≡ w + (a - w) = omega arith in
    ap (λ (y : List ℕ). y ∷ parts w n (drop w (sets l a vs))) (take_sets_le w vs l a (omega arith)) ∙
    ap (λ (y : List ℕ). take w l ∷ parts w n y) (ap (λ (k : ℕ). drop w (sets l k vs)) e ∙ drop_sets_add w vs l (a - w)) ∙
    ap (λ (y : List (List ℕ)). take w l ∷ y) (parts_past w n (drop w l) (a - w) vs (omega arith))

-- words stored in part i of what stands behind the first a words
pub sets_behind : (w n a : ℕ) (l : List ℕ) (i : ℕ) (vs : List ℕ) → i < n → length vs ≤ w →
    parts w n (drop a (sets l (a + w * i) vs)) ≡ set (parts w n (drop a l)) i (sets (get_or (parts w n (drop a l)) i []) 0 vs)
sets_behind w n a l i vs h m =
    ap (parts w n) (drop_sets_add a vs l (w * i)) ∙ ap (λ (k : ℕ). parts w n (sets (drop a l) k vs)) (sym (add-zero (w * i))) ∙ parts_sets w n (drop a l) i 0 vs h (omega arith)

-- words stored in a part that was put anew
pub parts_more : (w n : ℕ) (l m : List ℕ) (i : ℕ) (r : List ℕ) (j : ℕ) (vs : List ℕ) → i < n → j + length vs ≤ w → parts w n m ≡ set (parts w n l) i r →
    parts w n (sets m (w * i + j) vs) ≡ set (parts w n l) i (sets r j vs)
parts_more w n l m i r j vs h b e =
    let p : List (List ℕ) = parts w n l in
    parts_sets w n m i j vs h b ∙ ap (λ (y : List (List ℕ)). set y i (sets (get_or y i []) j vs)) e ∙ set-set p i r (sets (get_or (set p i r) i []) j vs) ∙
    ap (λ (y : List ℕ). set p i (sets y j vs)) (get_or-set_same p i r [] (rw (parts_length w n l) h))

-- PART i OF n + 1 GONE: the words of the parts above it, stored a part further down
pub parts_gone : (w n : ℕ) (l : List ℕ) (i : ℕ) → i ≤ n → w * suc n ≤ length l →
    parts w n (sets l (w * i) (take (w * (n - i)) (drop (w * i + w) l))) ≡ remove (parts w (suc n) l) i
unfolding parts
parts_gone w n l zero h m =
    let x : List ℕ = drop w l in
    let vs : List ℕ = take (w * n) x in
    let z = mul_next w n in
    let xl : w * n ≤ length x = omega (arith, length-drop w l) in
    let vl : length vs ≡ w * n = length-take-le (w * n) x xl in
    let back : List ℕ = drop (0 + length vs) l in
    let same : sets l 0 vs ≡ vs ++ back = sets-eq vs l 0 (omega arith) in
    let cut : take (w * n) (sets l 0 vs) ≡ take (w * n) x = ap (take (w * n)) same ∙ take_at vs back (w * n) vl in
    rw (mul-zero w, zero-add w, sub-zero n) (parts_cut w n (sets l 0 vs) x (omega (arith, length-sets l 0 vs)) xl cut)
parts_gone w zero l (suc i) h m = absurd (omega arith)
parts_gone w (suc n) l (suc i) h m =
    let e : suc n - suc i ≡ n - i = omega arith in
    let vs : List ℕ = take (w * (n - i)) (drop (w * i + w) (drop w l)) in
    let same : take (w * (suc n - suc i)) (drop (w * suc i + w) l) ≡ vs = ap (λ (k : ℕ). take (w * k) (drop (w * suc i + w) l)) e ∙ ap (take (w * (n - i))) (past w i l) in
    let z = mul_next w (suc n) in
    ap (λ (x : List ℕ). parts w (suc n) (sets l (w * suc i) x)) same ∙ ap (λ (k : ℕ). parts w (suc n) (sets l k vs)) (mul_next w i) ∙
    rw (take_sets_le w vs l (w + w * i) (omega arith), drop_sets_add w vs l (w * i))
    (ap (λ (y : List (List ℕ)). take w l ∷ y) (parts_gone w n (drop w l) i (omega arith) (omega (arith, length-drop w l))))

-- and the parts from the new end on as they were
pub parts_gone_rest : (w n : ℕ) (l : List ℕ) (i k : ℕ) → i ≤ n → w * suc n ≤ length l →
    drop n (parts w (n + k) (sets l (w * i) (take (w * (n - i)) (drop (w * i + w) l)))) ≡ drop n (parts w (n + k) l)
parts_gone_rest w n l i k h m =
    let vs : List ℕ = take (w * (n - i)) (drop (w * i + w) l) in
    let small : length vs ≤ w * (n - i) = omega (arith, length-take (w * (n - i)) (drop (w * i + w) l)) in
    let split : w * i + w * (n - i) ≡ w * n = sym (mul-add w i (n - i)) ∙ ap (λ (j : ℕ). w * j) (add-sub_of_le h) in
    parts_drop w k n (sets l (w * i) vs) ∙ ap (parts w k) (drop_sets_lt (w * n) vs l (w * i) (omega arith)) ∙ sym (parts_drop w k n l)
