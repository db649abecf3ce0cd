-- A test of every element of a list, by its place: what a loop over the places keeps, and what it ends with. For every element type.
use mathlib.Core.Path.{◌≡◌, refl, sym, ap, ap₂, subst, ◌∙◌}
use mathlib.Core.Logic.{◌↔◌}
use mathlib.Core.Bool.{Bool, true, false}
use mathlib.Core.List.{List, [], ◌∷◌, map}
use Prim.Native.Nat.{ℕ, zero, suc, ◌+◌, ◌<◌, ◌≤◌}
use native.Mathlib.Numerals.{add-one}
use native.Mathlib.Omega.{arith}
use borrow.Author.Tests.{leb-true, ne_eqb}
use lib.Dec.{leb, eqb}
use lib.ListN.{length, take, drop, get_or, drop_of_length-le}
use lib.Seq.{drop-cons}
use Rattle.std.specs.Prelude.{◌&&◌}
use Rattle.std.specs.List.{list_all, range_with_len}
use Rattle.model.specs.Basics.{◌&◌, every}
use Rattle.model.proofs.Basics.Tests.{fst, snd, both}
use Rattle.sides.proofs.Lists.{every_at}
use Rattle.wellformed.specs.Clauses.{every_from}

-- a test that does not ask for the place
pub from_every : {A : Type 0} (f : A → Bool) (i : ℕ) (l : List A) → every_from (λ j x. f x) i l ≡ every f l
unfolding every_from
from_every f i [] = refl
from_every f i (x ∷ l) = ap (λ (b : Bool). f x & b) (from_every f (i + 1) l)

-- the element at a place, seen through v, whatever stands past the end
pub map_at : {A B : Type 0} (v : A → B) (l : List A) (k : ℕ) (d : A) (e : B) → k < length l → get_or (map v l) k e ≡ v (get_or l k d)
map_at v [] k d e h = absurd (omega arith)
map_at v (x ∷ l) zero d e h = refl
map_at v (x ∷ l) (suc k) d e h = map_at v l k d e (omega arith)

-- a bool by what it is true of
by_truth : (r b : Bool) → (r ≡ true → b ≡ true) → (b ≡ true → r ≡ true) → r ≡ b
by_truth true b p q = sym (p refl)
by_truth false true p q = q refl
by_truth false false p q = refl

and_is : (a b : Bool) → (a && b) ≡ a & b
unfolding ◌&◌
and_is true b = refl
and_is false b = refl

module _ {A : Type 0} (f : ℕ → A → Bool) where
  -- every element passes, place by place from i on
  abbrev EachFrom : ℕ → List A → Type 0
  EachFrom i l = (k : ℕ) (d : A) → k < length l → f (i + k) (get_or l k d) ≡ true

  from_each : (i : ℕ) (l : List A) → EachFrom i l → every_from f i l ≡ true
  unfolding every_from
  from_each i [] h = refl
  from_each i (x ∷ l) h =
      let first = subst (λ (j : ℕ). f j x ≡ true) (omega arith) (h zero x (omega arith)) in
      both _ _ first (from_each (i + 1) l (λ k d p. subst (λ (j : ℕ). f j (get_or l k d) ≡ true) (omega arith) (h (suc k) d (omega arith))))

  to_each : (i : ℕ) (l : List A) → every_from f i l ≡ true → EachFrom i l
  unfolding every_from
  to_each i [] e k d h = absurd (omega arith)
  to_each i (x ∷ l) e zero d h = subst (λ (j : ℕ). f j x ≡ true) (omega arith) (fst _ _ e)
  to_each i (x ∷ l) e (suc k) d h = subst (λ (j : ℕ). f j (get_or l k d) ≡ true) (omega arith) (to_each (i + 1) l (snd _ _ e) k d (omega arith))

  -- r says whether each element passes
  pub each_place : (l : List A) (r : Bool) → (r ≡ true) ↔ ((k : ℕ) (d : A) → k < length l → f k (get_or l k d) ≡ true) → r ≡ every_from f 0 l
  each_place l r h =
      let zero_add : (k : ℕ) → 0 + k ≡ k = λ k. omega arith in
      by_truth r (every_from f 0 l)
      (λ e. from_each 0 l (λ k d p. rw zero_add (h.0 e k d p)))
      (λ e. h.1 (λ k d p. rw zero_add at (to_each 0 l e k d p)))

  -- the first n elements, seen through v, by a test p of their numbers
  rows_from : {B : Type 0} (v : B → A) (d : B) (p : ℕ → Bool) (i : ℕ) (l : List B) (n : ℕ) → n ≤ length l →
      ((k : ℕ) → k < n → p (i + k) ≡ f (i + k) (v (get_or l k d))) → list_all p (range_with_len i n) ≡ every_from f i (map v (take n l))
  unfolding every_from
  rows_from v d p i l zero m h = refl
  rows_from v d p i [] (suc n) m h = absurd (omega arith)
  rows_from v d p i (x ∷ l) (suc n) m h =
      let first = subst (λ (j : ℕ). p j ≡ f j (v x)) (omega arith) (h zero (omega arith)) in
      let rest =
      rows_from v d p (i + 1) l n (omega arith) (λ k q. subst (λ (j : ℕ). p j ≡ f j (v (get_or l k d))) (omega arith) (h (suc k) (omega arith))) in
      and_is (p i) _ ∙ ap₂ (λ (a b : Bool). a & b) first rest

  pub each_row : {B : Type 0} (v : B → A) (l : List B) (n : ℕ) (d : B) → n ≤ length l → (r : Bool) →
      r ≡ list_all (λ k. f k (v (get_or l k d))) (range_with_len 0 n) → r ≡ every_from f 0 (map v (take n l))
  each_row v l n d m r e =
      let zero_add : (k : ℕ) → 0 + k ≡ k = λ k. omega arith in
      e ∙ rows_from v d (λ k. f k (v (get_or l k d))) 0 l n m (λ k h. ap (λ (j : ℕ). f (0 + k) (v (get_or l j d))) (zero_add k))

-- WHAT A LOOP over the places keeps, and what it ends with
module _ {A : Type 0} (f : ℕ → A → Bool) (l : List A) where
  -- the elements before k pass, so that those from k on answer for all
  abbrev pub Passed : ℕ → Type 0
  Passed k = every_from f 0 l ≡ every_from f k (drop k l)

  opened : (k : ℕ) (d : A) → k < length l → every_from f k (drop k l) ≡ f k (get_or l k d) & every_from f (k + 1) (drop (k + 1) l)
  unfolding every_from
  opened k d h =
      let e : drop k l ≡ get_or l k d ∷ drop (k + 1) l = rw (add-one, drop-cons l k d) in
      ap (λ (s : List A). every_from f k s) e

  module _ (k : ℕ) (d : A) (h : k < length l) where
    pub passed_more : f k (get_or l k d) ≡ true → Passed k → Passed (k + 1)
    unfolding ◌&◌
    passed_more e p = p ∙ opened k d h ∙ ap (λ (b : Bool). b & every_from f (k + 1) (drop (k + 1) l)) e

    pub passed_not : f k (get_or l k d) ≡ false → Passed k → false ≡ every_from f 0 l
    unfolding ◌&◌
    passed_not e p = sym (p ∙ opened k d h ∙ ap (λ (b : Bool). b & every_from f (k + 1) (drop (k + 1) l)) e)

  pub passed_all : (k : ℕ) → length l ≤ k → Passed k → true ≡ every_from f 0 l
  unfolding every_from
  passed_all k h p = sym (p ∙ ap (λ (s : List A). every_from f k s) (drop_of_length-le l h))

-- the same of a test that does not ask for the place
module _ {A : Type 0} (f : A → Bool) where
  pub each : (l : List A) (r : Bool) → (r ≡ true) ↔ ((k : ℕ) (d : A) → k < length l → f (get_or l k d) ≡ true) → r ≡ every f l
  each l r h = each_place (λ j x. f x) l r h ∙ from_every f 0 l

  pub each_at : (l : List A) → every f l ≡ true → (k : ℕ) (d : A) → k < length l → f (get_or l k d) ≡ true
  each_at l e k d h = to_each (λ j x. f x) 0 l (from_every f 0 l ∙ e) k d h

  pub every_map : {B : Type 0} (v : B → A) (l : List B) → every (λ x. f (v x)) l ≡ every f (map v l)
  every_map v [] = refl
  every_map v (x ∷ l) = ap (λ (b : Bool). f (v x) & b) (every_map v l)

  pub each_seen : {B : Type 0} (v : B → A) (l : List B) (n : ℕ) (d : B) → n ≤ length l → (r : Bool) →
      r ≡ list_all (λ k. f (v (get_or l k d))) (range_with_len 0 n) → r ≡ every f (map v (take n l))
  each_seen v l n d m r e = each_row (λ j x. f x) v l n d m r e ∙ from_every f 0 _

-- a count within its array, with a test of every held element
module _ {A : Type 0} (g : A → Bool) (l : List A) (n cap : ℕ) (full : length l ≡ cap) (f : leb n cap & every g (take n l) ≡ true) where
  pub fits_count : n ≤ length l
  fits_count = omega (arith, leb-true n cap (fst _ _ f))

  pub fits_at_lem : (i : ℕ) (d : A) → i < n → g (get_or l i d) ≡ true
  fits_at_lem i d h = every_at g l n i d h fits_count (snd _ _ f)

-- no elements, by the list or by the count
pub no_rows : {A B : Type 0} (v : A → B) (l : List A) (n : ℕ) → 0 < length l → eqb (length (map v (take n l))) 0 ≡ eqb n 0
no_rows v l zero h = refl
no_rows v [] (suc n) h = absurd (omega arith)
no_rows v (x ∷ l) (suc n) h =
    let some = ne_eqb (suc (length (map v (take n l)))) 0 (λ q. omega arith) in
    some ∙ sym (ne_eqb (suc n) 0 (λ q. omega arith))

-- a conjunction in another order
pub swap : (a b c : Bool) → a & (b & c) ≡ b & (a & c)
unfolding ◌&◌
swap true b c = refl
swap false true c = refl
swap false false c = refl
