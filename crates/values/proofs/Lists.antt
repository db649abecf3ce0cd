-- Laws on lists that are stored in an array and a length, for every element type.
use Prim.Native.Nat.{ℕ, zero, suc, ◌+◌, ◌<◌}
use mathlib.Core.Path.{◌≡◌, refl, sym, ◌∙◌, ap}
use mathlib.Core.List.{List, [], ◌∷◌, ◌++◌, map, map-append}
use native.Mathlib.Numerals.{add-one}
use native.Mathlib.Omega.{arith}
use lib.ListN.{length, take, drop, get_or, set, length-map, length-append}
use lib.Seq.{take-suc-set, take_all, take-append-le, drop-cons}

pub unmap : (X Y : Type 0) (f : X → Y) (l : List X) (n : ℕ) → length (map f l) ≡ n → length l ≡ n
unmap X Y f l n p = sym (length-map l f) ∙ p

-- one more element, written at the length
pub view_push : {A B : Type 0} (f : A → B) (l : List A) (n : ℕ) (a : A) → n < length l → map f (take (n + 1) (set l n a)) ≡ map f (take n l) ++ (f a ∷ [])
view_push f l n a h = rw (add-one, take-suc-set l n a, map-append)

pub at_i : (s : List ℕ) (i : ℕ) → i < length s → drop i s ≡ get_or s i 0 ∷ drop (i + 1) s
at_i s i h = rw (add-one, drop-cons s i 0 h)

pub take_count : {A : Type 0} (n : ℕ) (l : List A) → take (length (take n l)) l ≡ take n l
take_count zero l = refl
take_count (suc n) [] = refl
take_count (suc n) (x ∷ l) = ap (λ (r : List _). x ∷ r) (take_count n l)

-- the first n of a list whose beginning was cut to n before
pub take_again : {A : Type 0} (n : ℕ) (l m : List A) → take n (take n l ++ m) ≡ take n (l ++ m)
take_again zero l m = refl
take_again (suc n) [] m = refl
take_again (suc n) (x ∷ l) m = ap (λ (r : List _). x ∷ r) (take_again n l m)

-- an element added where the array is full, or to what fits
pub push_full : {A : Type 0} (n : ℕ) (l m : List A) → length l ≡ n → l ≡ take n (l ++ m)
push_full n l m e = sym (take-append-le n l m (omega arith) ∙ take_all n l (omega arith))

pub push_fits : {A : Type 0} (n : ℕ) (l : List A) (a : A) → length l < n → l ++ (a ∷ []) ≡ take n (l ++ (a ∷ []))
push_fits n l a h = sym (take_all n (l ++ (a ∷ [])) (omega (arith, length-append l (a ∷ []))))
