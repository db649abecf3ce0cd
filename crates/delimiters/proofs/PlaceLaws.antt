-- The definition of the next tab or newline, place by place.
use mathlib.Core.Path.{◌≡◌, refl, sym, ◌∙◌}
use mathlib.Core.Bool.{Bool, true, false, false≢true}
use mathlib.Core.List.{List, [], ◌∷◌}
use Prim.Native.Nat.{ℕ, zero, suc, ◌<◌, ◌≤◌}
use native.Mathlib.Nat.{le_of_suc-le-suc}
use native.Mathlib.Omega.{arith}
use lib.ListN.{get_or}
use Rattle.model.specs.Basics.{choose}
use Rattle.delimiters.specs.Delimiters.{is_delimiter, delimiter_from, FirstFrom, FirstPlace}

-- a list with a byte before it
step : (start r : ℕ) (b : ℕ) (bs : List ℕ) → FirstFrom start bs r → FirstFrom (suc start) (b ∷ bs) (suc r)
step start r b bs f = record { inside = omega (arith, f.inside); none_before = before; one_there = λ h. let x = f.one_there (le_of_suc-le-suc h) in (omega (arith, x.0), x.1) }
  where
    before : (p : ℕ) → suc start ≤ p → p < suc r → is_delimiter (get_or (b ∷ bs) p 0) ≡ false
    before zero h k = absurd (omega arith)
    before (suc p) h k = f.none_before p (le_of_suc-le-suc h) (le_of_suc-le-suc k)

-- the first byte counts too
now_or_later : (b : ℕ) (bs : List ℕ) (t : Bool) → is_delimiter b ≡ t → (r : ℕ) → FirstFrom 0 bs r → FirstFrom 0 (b ∷ bs) (choose t 0 (suc r))
unfolding choose
now_or_later b bs true e r f = record { inside = omega arith; none_before = λ p h k. absurd (omega arith); one_there = λ h. (omega arith, e) }
now_or_later b bs false e r f = record { inside = omega (arith, f.inside); none_before = before; one_there = λ h. let x = f.one_there (le_of_suc-le-suc h) in (omega arith, x.1) }
  where
    before : (p : ℕ) → 0 ≤ p → p < suc r → is_delimiter (get_or (b ∷ bs) p 0) ≡ false
    before zero h k = e
    before (suc p) h k = f.none_before p (omega arith) (le_of_suc-le-suc k)

first_from : (start : ℕ) (s : List ℕ) → FirstFrom start s (delimiter_from start s)
unfolding delimiter_from
first_from start [] = record { inside = omega arith; none_before = λ p h k. absurd (omega arith); one_there = λ h. absurd (omega arith) }
first_from zero (b ∷ bs) = now_or_later b bs (is_delimiter b) refl (delimiter_from 0 bs) (first_from 0 bs)
first_from (suc n) (b ∷ bs) = step n (delimiter_from n bs) b bs (first_from n bs)

-- of two such places neither stands before the other
not_before : (start : ℕ) (s : List ℕ) (q r : ℕ) → FirstFrom start s q → FirstFrom start s r → q < r → ⊥
not_before start s q r f g h =
    let x = f.one_there (omega (arith, g.inside)) in
    false≢true (sym (g.none_before q x.0 h) ∙ x.1)

pub first_place : FirstPlace
first_place start s = (first_from start s, only)
  where
    only : (r : ℕ) → FirstFrom start s r → r ≡ delimiter_from start s
    only r f =
        let g = first_from start s in
        let a = not_before start s r (delimiter_from start s) f g in
        let b = not_before start s (delimiter_from start s) r g f in
        omega (arith, a, b)
