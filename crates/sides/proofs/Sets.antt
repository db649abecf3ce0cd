-- Runs of stores: one after another, in a part that is lent, beside a part that is read.
use Prim.Native.Nat.{ℕ, zero, suc, ◌+◌, ◌<◌, ◌≤◌}
use mathlib.Core.Path.{◌≡◌, refl, sym, ◌∙◌, ap}
use mathlib.Core.List.{List, [], ◌∷◌, ◌++◌, append_assoc}
use native.Mathlib.Nat.{add-zero, add-suc, suc-add, zero-add}
use native.Mathlib.Numerals.{add-one}
use native.Mathlib.Omega.{arith}
use borrow.Rule.Slice.PartMut.{mid_of, post_of, put_mid, put_same}
use lib.ListN.{length, take, drop, get_or, set, length-set}
use lib.Seq.{sets, sets-eq, paste, take_at, drop_at, take-suc, length-take-le, set-append_left, set_comm, take-set-le, take-set-lt, drop-set-lt, drop-set-add, get_or-set_same, get_or-set_other}

-- where a run's second store stands
next : (i : ℕ) (n : ℕ) → i + suc n ≡ suc i + n
next i n = add-suc i n ∙ sym (suc-add i n)

-- a run after a run is one run
pub sets_append : (x y l : List ℕ) (i : ℕ) → sets (sets l i x) (i + length x) y ≡ sets l i (x ++ y)
sets_append [] y l i = ap (λ (k : ℕ). sets l k y) (add-zero i)
sets_append (a ∷ x) y l i = ap (λ (k : ℕ). sets (sets (set l i a) (suc i) x) k y) (next i (length x)) ∙ sets_append x y (set l i a) (suc i)

-- a turn of a loop that copies
pub sets_turn : (l s x : List ℕ) (i k z : ℕ) → k < length s → x ≡ sets l i (take k s) → set x (i + k) (get_or s k z) ≡ sets l i (take (k + 1) s)
sets_turn l s x i k z h q =
    let e : length (take k s) ≡ k = length-take-le k s (omega arith) in
    ap (λ (y : List ℕ). set y (i + k) (get_or s k z)) q ∙ ap (λ (j : ℕ). set (sets l i (take k s)) (i + j) (get_or s k z)) (sym e) ∙
    sets_append (take k s) (get_or s k z ∷ []) l i ∙ ap (sets l i) (sym (take-suc s k z h) ∙ ap (λ (n : ℕ). take n s) (sym (add-one k)))

-- words written over a part in one go
pub paste_sets : (l s : List ℕ) (a n : ℕ) → n ≤ length s → a + n ≤ length l → paste l a s n ≡ sets l a (take n s)
paste_sets l s a n h m =
    let e : length (take n s) ≡ n = length-take-le n s h in
    sym (sets-eq (take n s) l a (rw e m) ∙ ap (λ (k : ℕ). take a l ++ take n s ++ drop (a + k) l) e)

-- a store below a run may come first
pub set_sets : (vs l : List ℕ) (i j a : ℕ) → i < j → set (sets l j vs) i a ≡ sets (set l i a) j vs
set_sets [] l i j a h = refl
set_sets (v ∷ vs) l i j a h = set_sets vs (set l j v) i (suc j) a (omega arith) ∙ ap (λ (x : List ℕ). sets x (suc j) vs) (set_comm l j i v a (λ e. omega arith))

-- what lies below a run and what lies above it
pub take_sets_le : (n : ℕ) (vs l : List ℕ) (i : ℕ) → n ≤ i → take n (sets l i vs) ≡ take n l
take_sets_le n [] l i h = refl
take_sets_le n (v ∷ vs) l i h = take_sets_le n vs (set l i v) (suc i) (omega arith) ∙ take-set-le n l i v h

pub drop_sets_lt : (n : ℕ) (vs l : List ℕ) (i : ℕ) → i + length vs ≤ n → drop n (sets l i vs) ≡ drop n l
drop_sets_lt n [] l i h = refl
drop_sets_lt n (v ∷ vs) l i h = drop_sets_lt n vs (set l i v) (suc i) (omega arith) ∙ drop-set-lt n l i v (omega arith)

pub get_d_sets_below : (vs l : List ℕ) (i j d : ℕ) → j < i → get_or (sets l i vs) j d ≡ get_or l j d
get_d_sets_below [] l i j d h = refl
get_d_sets_below (v ∷ vs) l i j d h = get_d_sets_below vs (set l i v) (suc i) j d (omega arith) ∙ get_or-set_other l i j v d (λ e. omega arith)

pub get_d_sets_above : (vs l : List ℕ) (i j d : ℕ) → i + length vs ≤ j → get_or (sets l i vs) j d ≡ get_or l j d
get_d_sets_above [] l i j d h = refl
get_d_sets_above (v ∷ vs) l i j d h = get_d_sets_above vs (set l i v) (suc i) j d (omega arith) ∙ get_or-set_other l i j v d (λ e. omega arith)

-- what a run stored, word by word
pub get_d_sets_at : (vs l : List ℕ) (i k d : ℕ) → k < length vs → i + length vs ≤ length l → get_or (sets l i vs) (i + k) d ≡ get_or vs k d
get_d_sets_at [] l i k d h m = absurd (omega arith)
get_d_sets_at (v ∷ vs) l i zero d h m =
    ap (λ (n : ℕ). get_or (sets (set l i v) (suc i) vs) n d) (add-zero i) ∙ get_d_sets_below vs (set l i v) (suc i) i d (omega arith) ∙ get_or-set_same l i v d (omega arith)
get_d_sets_at (v ∷ vs) l i (suc k) d h m =
    ap (λ (n : ℕ). get_or (sets (set l i v) (suc i) vs) n d) (next i k) ∙ get_d_sets_at vs (set l i v) (suc i) k d (omega arith) (rw (length-set l i v) (omega arith))

-- a run in the front of a list, and a run in what is left of it
pub take_sets_lt : (n : ℕ) (vs l : List ℕ) (i : ℕ) → i + length vs ≤ n → take n (sets l i vs) ≡ sets (take n l) i vs
take_sets_lt n [] l i h = refl
take_sets_lt n (v ∷ vs) l i h = take_sets_lt n vs (set l i v) (suc i) (omega arith) ∙ ap (λ (x : List ℕ). sets x (suc i) vs) (take-set-lt n l i v (omega arith))

pub drop_sets_add : (n : ℕ) (vs l : List ℕ) (i : ℕ) → drop n (sets l (n + i) vs) ≡ sets (drop n l) i vs
drop_sets_add n [] l i = refl
drop_sets_add n (v ∷ vs) l i =
    ap (λ (k : ℕ). drop n (sets (set l (n + i) v) k vs)) (sym (add-suc n i)) ∙ drop_sets_add n vs (set l (n + i) v) (suc i) ∙ ap (λ (x : List ℕ). sets x (suc i) vs) (drop-set-add n l i v)

-- and as a part
pub mid_sets : (vs l : List ℕ) (i : ℕ) → i + length vs ≤ length l → take (length vs) (drop i (sets l i vs)) ≡ vs
mid_sets vs l i h =
    let back : List ℕ = drop (i + length vs) l in
    ap (λ (x : List ℕ). take (length vs) (drop i x)) (sets-eq vs l i h ∙ append_assoc (take i l) vs back) ∙
    ap (take (length vs)) (drop_at (take i l) (vs ++ back) i (length-take-le i l (omega arith))) ∙ take_at vs back (length vs) refl

-- A RUN IN A PART THAT IS LENT: when the part is back it is a run in the whole
set_past : (p q : List ℕ) (j v : ℕ) → set (p ++ q) (length p + j) v ≡ p ++ set q j v
set_past [] q j v = ap (λ (k : ℕ). set q k v) (zero-add j)
set_past (a ∷ p) q j v = ap (λ (k : ℕ). set (a ∷ (p ++ q)) k v) (suc-add (length p) j) ∙ ap (λ (x : List ℕ). a ∷ x) (set_past p q j v)

module _ (a k : ℕ) (l : List ℕ) (h : a ≤ length l) where
  set_lent : (r : List ℕ) (j v : ℕ) → j < length r → put_mid a k l (set r j v) ≡ set (put_mid a k l r) (a + j) v
  set_lent r j v m =
      ap (λ (x : List ℕ). take a l ++ x) (sym (set-append_left r (post_of a k l) j v m)) ∙ sym (set_past (take a l) (r ++ post_of a k l) j v) ∙
      ap (λ (n : ℕ). set (put_mid a k l r) (n + j) v) (length-take-le a l h)

  pub sets_lent : (vs r : List ℕ) (j : ℕ) → j + length vs ≤ length r → put_mid a k l (sets r j vs) ≡ sets (put_mid a k l r) (a + j) vs
  sets_lent [] r j m = refl
  sets_lent (v ∷ vs) r j m =
      sets_lent vs (set r j v) (suc j) (rw (length-set r j v) (omega arith)) ∙ ap (λ (x : List ℕ). sets x (a + suc j) vs) (set_lent r j v (omega arith)) ∙
      ap (λ (n : ℕ). sets (set (put_mid a k l r) (a + j) v) n vs) (add-suc a j)

  -- one run in the part as it was lent
  pub run_lent : (vs : List ℕ) (j : ℕ) → j + length vs ≤ length (mid_of a k l) → put_mid a k l (sets (mid_of a k l) j vs) ≡ sets l (a + j) vs
  run_lent vs j m = sets_lent vs (mid_of a k l) j m ∙ ap (λ (x : List ℕ). sets x (a + j) vs) (put_same a k l)
