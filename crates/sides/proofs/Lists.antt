-- Laws on lists that are stored in an array and a length: adding last, closing the gap, an element put anew, a test of every element. For every element type.
use Prim.Native.Nat.{ℕ, zero, suc, ◌+◌, ◌-◌, ◌<◌, ◌≤◌}
use mathlib.Core.Path.{◌≡◌, refl, sym, ◌∙◌, ap}
use mathlib.Core.Bool.{Bool, true, false, ◌&&◌}
use mathlib.Core.List.{List, [], ◌∷◌, ◌++◌, map, map-append}
use mathlib.Core.Option.{some}
use native.Mathlib.Numerals.{add-one}
use native.Mathlib.Omega.{arith}
use borrow.Author.Tests.{le-leb}
use lib.Dec.{leb}
use lib.ListN.{length, take, drop, get_or, get_elem?, set, length-map, length-drop}
use lib.Seq.{drop-cons, take-suc-set, take-suc, take-set-lt, take-take, paste, take-paste, length-take-le}
use Rattle.std.proofs.lemmas.List.{drop-take}
use Rattle.std.specs.List.{list_all, range_with_len}
use Rattle.model.specs.Basics.{◌&◌, every, remove}
use Rattle.model.proofs.Basics.Tests.{fst, snd, both, every_append, every_one, every_remove, every_set}

-- a list without its place i, in two parts
split_suc : {A : Type 0} (l : List A) (i : ℕ) → take i l ++ drop (suc i) l ≡ remove l i
split_suc [] zero = refl
split_suc [] (suc i) = refl
split_suc (x ∷ l) zero = refl
split_suc (x ∷ l) (suc i) = ap (λ (r : List _). x ∷ r) (split_suc l i)

pub remove_split : {A : Type 0} (l : List A) (i : ℕ) → take i l ++ drop (i + 1) l ≡ remove l i
remove_split l i = rw add-one (split_suc l i)

module _ {A B : Type 0} (f : A → B) where
  pub map_remove : (l : List A) (i : ℕ) → map f (remove l i) ≡ remove (map f l) i
  map_remove [] i = refl
  map_remove (x ∷ l) zero = refl
  map_remove (x ∷ l) (suc i) = ap (λ (r : List B). f x ∷ r) (map_remove l i)

  pub map_set : (l : List A) (i : ℕ) (a : A) → map f (set l i a) ≡ set (map f l) i (f a)
  map_set [] i a = refl
  map_set (x ∷ l) zero a = refl
  map_set (x ∷ l) (suc i) a = ap (λ (r : List B). f x ∷ r) (map_set l i a)

  -- one more element, written at the length
  pub view_push : (l : List A) (n : ℕ) (a : A) → n < length l → map f (take (n + 1) (set l n a)) ≡ map f (take n l) ++ (f a ∷ [])
  view_push l n a h = rw (add-one, take-suc-set l n a, map-append)

  -- an element put anew
  pub view_set : (l : List A) (n i : ℕ) (a : A) → i < n → map f (take n (set l i a)) ≡ set (map f (take n l)) i (f a)
  view_set l n i a h = rw (take-set-lt n l i a h, map_set)

  -- how many are held
  pub view_length : (l : List A) (n : ℕ) → n ≤ length l → length (map f (take n l)) ≡ n
  view_length l n h = length-map (take n l) f ∙ length-take-le n l h

  -- the element at a held place
  pub view_at : (l : List A) (n i : ℕ) (d : A) → i < n → n ≤ length l → get_elem? (map f (take n l)) i ≡ some (f (get_or l i d))
  view_at l (suc n) i d h m = go l (suc n) i h m
    where
      go : (l : List A) (n i : ℕ) → i < n → n ≤ length l → get_elem? (map f (take n l)) i ≡ some (f (get_or l i d))
      go l zero i h m = absurd (omega arith)
      go [] (suc n) i h m = absurd (omega arith)
      go (x ∷ l) (suc n) zero h m = refl
      go (x ∷ l) (suc n) (suc i) h m = go l n i (omega arith) (omega arith)
  view_at l zero i d h m = absurd (omega arith)

-- a test of every held element
module _ {A : Type 0} (f : A → Bool) (l : List A) where
  pub every_push : (n : ℕ) (a : A) → n < length l → every f (take n l) ≡ true → f a ≡ true → every f (take (n + 1) (set l n a)) ≡ true
  every_push n a h p q = rw (add-one, take-suc-set l n a) (every_append f (take n l) (a ∷ []) p (every_one f a q))

  pub every_put : (n i : ℕ) (a : A) → i < n → every f (take n l) ≡ true → f a ≡ true → every f (take n (set l i a)) ≡ true
  every_put n i a h p q = rw (take-set-lt n l i a h) (every_set f (take n l) i a p q)

  -- one further
  pub every_more : (k : ℕ) (d : A) → k < length l → f (get_or l k d) ≡ true → every f (take k l) ≡ true → every f (take (k + 1) l) ≡ true
  every_more k d h e p = rw (add-one, take-suc l k d) (every_append f (take k l) (get_or l k d ∷ []) p (every_one f _ e))

-- a held element passes
pub every_at : {A : Type 0} (f : A → Bool) (l : List A) (n i : ℕ) (d : A) → i < n → n ≤ length l → every f (take n l) ≡ true → f (get_or l i d) ≡ true
every_at f l zero i d h m p = absurd (omega arith)
every_at f [] (suc n) i d h m p = absurd (omega arith)
every_at f (x ∷ l) (suc n) zero d h m p = fst _ _ p
every_at f (x ∷ l) (suc n) (suc i) d h m p = every_at f l n i d (omega arith) (omega arith) (snd _ _ p)

-- one that fails makes the whole fail
pub every_fails : {A : Type 0} (f : A → Bool) (l : List A) (k n : ℕ) (d : A) → k < n → n ≤ length l → f (get_or l k d) ≡ false → every f (take n l) ≡ false
unfolding ◌&◌
every_fails f l k zero d h m e = absurd (omega arith)
every_fails f [] k (suc n) d h m e = absurd (omega arith)
every_fails f (x ∷ l) zero (suc n) d h m e = rw e
every_fails f (x ∷ l) (suc k) (suc n) d h m e = go (f x) (every_fails f l k n d (omega arith) (omega arith) e)
  where
    go : (b : Bool) {c : Bool} → c ≡ false → b & c ≡ false
    go true q = q
    go false q = refl

-- place i gone: the elements above it, copied a place down
pub gap_closed : {A : Type 0} (l : List A) (i n : ℕ) → i < n → n ≤ length l → take (n - 1) (paste l i (drop (i + 1) l) (n - (i + 1))) ≡ remove (take n l) i
gap_closed l i n h m =
    let k : i + (n - (i + 1)) ≡ n - 1 = omega arith in
    let j : i + 1 + (n - (i + 1)) ≡ n = omega arith in
    let s = drop (i + 1) l in
    ap (λ (y : ℕ). take y (paste l i s (n - (i + 1)))) (sym k) ∙ take-paste l i s (n - (i + 1)) (omega arith) (omega (arith, length-drop (i + 1) l)) ∙
    ap (λ (y : List _). y ++ take (n - (i + 1)) s) (sym (take-take i n l (omega arith))) ∙
    ap (λ (y : List _). take i (take n l) ++ y) (sym (drop-take (i + 1) (n - (i + 1)) l) ∙ ap (λ (y : ℕ). drop (i + 1) (take y l)) j) ∙ remove_split (take n l) i

module _ {A : Type 0} (l s : List A) (i n : ℕ) (h : i < n) (m : n ≤ length l) (e : s ≡ paste l i (drop (i + 1) l) (n - (i + 1))) where
  gap_done : take (n - 1) s ≡ remove (take n l) i
  gap_done = ap (take (n - 1)) e ∙ gap_closed l i n h m

  pub gap_view : {B : Type 0} (f : A → B) → map f (take (n - 1) s) ≡ remove (map f (take n l)) i
  gap_view f = rw gap_done (map_remove f (take n l) i)

  pub gap_every : (f : A → Bool) → every f (take n l) ≡ true → every f (take (n - 1) s) ≡ true
  gap_every f p = rw gap_done (every_remove f (take n l) i p)

-- a conjunction, test by test
pub stops : (a b : Bool) → a ≡ false → false ≡ a & b
unfolding ◌&◌
stops a b e = rw e

pub goes_on : (a b r : Bool) → a ≡ true → r ≡ b → r ≡ a & b
unfolding ◌&◌
goes_on a b r e p = rw e p

-- the code's `&&`: the test t of the first passes, and r is what the second says; it fails
pub and_then : (a b : Bool) {t r : Bool} → t ≡ a → t ≡ true → r ≡ b → r ≡ a & b
and_then a b e p q = goes_on a b _ (sym e ∙ p) q

pub and_else : (a b : Bool) {t : Bool} → t ≡ a → t ≡ false → t ≡ a & b
and_else a b e p = p ∙ stops a b (sym e ∙ p)

-- the library's `all` of a list, and of the places of a list
and_same : (b : Bool) {x y : Bool} → x ≡ y → b && x ≡ b & y
unfolding ◌&◌
and_same true e = e
and_same false e = refl

pub all_every : {A : Type 0} (f : A → Bool) (l : List A) → list_all f l ≡ every f l
all_every f [] = refl
all_every f (x ∷ l) = and_same (f x) (all_every f l)

module _ {A : Type 0} (f : A → Bool) (g : ℕ → Bool) (l : List A) (d : A) where
  all_from : (a n : ℕ) → a + n ≤ length l → ((k : ℕ) → k < a + n → g k ≡ f (get_or l k d)) → list_all g (range_with_len a n) ≡ every f (take n (drop a l))
  all_from a zero h e = refl
  all_from a (suc n) h e =
      let rest = all_from (a + 1) n (omega arith) (λ k m. e k (omega arith)) in
      rw (drop-cons l a d (omega arith), ← add-one a, e a (omega arith)) (and_same (f (get_or l a d)) rest)

  pub all_places : (n : ℕ) → n ≤ length l → ((k : ℕ) → k < n → g k ≡ f (get_or l k d)) → list_all g (range_with_len 0 n) ≡ every f (take n l)
  all_places n h e = all_from 0 n (omega arith) (λ k m. e k (omega arith))

-- THE LAWS OF A COUNT WITHIN ITS ARRAY, with a test of every held element
module _ {A : Type 0} (g : A → Bool) (l : List A) (cap : ℕ) (full : length l ≡ cap) where
  pub fits_with : (n : ℕ) (a : A) → n < cap → (leb n cap & every g (take n l)) & g a ≡ true → leb (n + 1) cap & every g (take (n + 1) (set l n a)) ≡ true
  fits_with n a h p =
      let m : n < length l = omega arith in
      both _ _ (le-leb (n + 1) cap (omega arith)) (every_push g l n a m (snd _ _ (fst _ _ p)) (snd _ _ p))

  pub fits_put : (n i : ℕ) (a : A) → i < n → (leb n cap & every g (take n l)) & g a ≡ true → leb n cap & every g (take n (set l i a)) ≡ true
  fits_put n i a h p = both _ _ (fst _ _ (fst _ _ p)) (every_put g l n i a h (snd _ _ (fst _ _ p)) (snd _ _ p))

  pub fits_gap : (s : List A) (i n : ℕ) → i < n → n ≤ cap → s ≡ paste l i (drop (i + 1) l) (n - (i + 1)) → leb n cap & every g (take n l) ≡ true → leb (n - 1) cap & every g (take (n - 1) s) ≡ true
  fits_gap s i n h m e p = both _ _ (le-leb (n - 1) cap (omega arith)) (gap_every l s i n h (omega arith) e g (snd _ _ p))
