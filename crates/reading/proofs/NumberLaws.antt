-- A number, digit by digit.
use mathlib.Core.Path.{◌≡◌, refl, sym, ap, ◌∙◌}
use mathlib.Core.Bool.{Bool, true, false}
use mathlib.Core.List.{List, [], ◌∷◌}
use mathlib.Core.Option.{Option, none, some}
use Prim.Native.Nat.{ℕ, ◌+◌, ◌-◌, ◌*◌, ◌<◌, ◌≤◌}
use native.Mathlib.Omega.{arith}
use borrow.Author.Tests.{lt-ltb, le-leb, lt-leb}
use lib.Dec.{leb}
use lib.ListN.{length, get_or, drop}
use Rattle.std.specs.Prelude.{◌&&◌}
use Rattle.std.specs.Char.{is_ascii_digit}
use Rattle.std.proofs.lemmas.List.{drop_more, drop_all}
use Rattle.model.specs.Basics.{◌&◌, choose, every}
use Rattle.format.specs.Lines.{is_digit, decimal_value, number}
use Rattle.reading.proofs.TestLaws.{second_fails}

-- the number that some digits and then others make, where the first make v
unfoldable pub number_from : ℕ → List ℕ → Option ℕ
number_from v l = choose (every is_digit l & leb (decimal_value v l) 4294967295) (some (decimal_value v l)) none

-- further digits make a number no smaller
grows : (v : ℕ) (l : List ℕ) → v ≤ decimal_value v l
grows v [] = omega arith
grows v (b ∷ bs) = omega (arith, grows (10 * v + (b - 48)) bs)

next_digit : (v b : ℕ) (bs : List ℕ) → is_digit b ≡ true → number_from v (b ∷ bs) ≡ number_from (10 * v + (b - 48)) bs
unfolding number_from ◌&◌
next_digit v b bs e = rw e

no_digit : (v b : ℕ) (bs : List ℕ) → is_digit b ≡ false → number_from v (b ∷ bs) ≡ none
unfolding number_from ◌&◌ choose
no_digit v b bs e = rw e

too_large : (v : ℕ) (bs : List ℕ) → 4294967295 < v → number_from v bs ≡ none
unfolding number_from choose
too_large v bs h = rw (second_fails (every is_digit bs) _ (lt-leb (decimal_value v bs) 4294967295 (omega (arith, grows v bs))))

no_more : (v : ℕ) → v ≤ 4294967295 → number_from v [] ≡ some v
unfolding number_from ◌&◌ choose
no_more v h = rw (le-leb v 4294967295 h)

-- an empty field, and one that is not empty, before its first digit
pub empty : (f : List ℕ) → length f ≡ 0 → number f ≡ none
unfolding number ◌&◌ choose
empty f e = rw e

pub first : (f : List ℕ) → 0 < length f → number f ≡ number_from 0 f
unfolding number number_from ◌&◌
first f h = rw (lt-ltb 0 (length f) h)

-- the library's test of a digit is the definition's
digit_is : (b : ℕ) → is_ascii_digit b ≡ is_digit b
unfolding ◌&◌
digit_is b = go (leb 48 b) (leb b 57)
  where
    go : (x y : Bool) → x && y ≡ x & y
    go true y = refl
    go false y = refl

-- the byte at a place of a field, behind digits that make v
module _ (f : List ℕ) (v k : ℕ) (inside : k < length f) (so_far : number f ≡ number_from v (drop k f)) where
  abbrev b : ℕ
  b = get_or f k 0

  bytes : drop k f ≡ b ∷ drop (k + 1) f
  bytes = drop_more f k 0 inside

  pub no_digit_at : is_ascii_digit b ≡ false → number f ≡ none
  no_digit_at e = so_far ∙ ap (number_from v) bytes ∙ no_digit v b _ (sym (digit_is b) ∙ e)

  -- where it is a digit, it makes d of the number
  module _ (d : ℕ) (is : d ≡ b - 48) (e : is_ascii_digit b ≡ true) where
    pub digit_at : number f ≡ number_from (10 * v + d) (drop (k + 1) f)
    digit_at = so_far ∙ ap (number_from v) bytes ∙ next_digit v b _ (sym (digit_is b) ∙ e) ∙ ap (λ (n : ℕ). number_from (10 * v + n) (drop (k + 1) f)) (sym is)

    pub large_at : 4294967295 < 10 * v + d → number f ≡ none
    large_at m = digit_at ∙ too_large _ _ m

pub all_digits : (f : List ℕ) (v k : ℕ) → number f ≡ number_from v (drop k f) → length f ≤ k → v ≤ 4294967295 → some v ≡ number f
all_digits f v k e h m = sym (e ∙ ap (number_from v) (drop_all k f h) ∙ no_more v m)
