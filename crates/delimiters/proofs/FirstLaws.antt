-- The first flagged byte of a word, by the zeros below its flag.
use mathlib.Core.Path.{◌≡◌, refl, sym, ap, ap₂, ◌∙◌}
use mathlib.Core.Bool.{Bool, true, false}
use mathlib.Core.List.{List, [], ◌∷◌}
use Prim.Native.Nat.{ℕ, zero, suc, ◌+◌, ◌*◌, ◌/◌, ◌%◌, ◌^◌, ◌<◌}
use native.Mathlib.Nat.{zero-add, suc-add, mul-one, add-zero}
use native.Mathlib.Omega.{arith}
use lib.Arith.{digits_div, digits_mod}
use lib.Bits.{shifted_half, shifted_even}
use lib.Count.{count_trailing_zeros, under}
use lib.ListN.{length}
use Rattle.model.specs.Basics.{choose}
use Rattle.delimiters.specs.Delimiters.{is_delimiter, delimiter_from, word, flag, flagged}
use Rattle.delimiters.proofs.WordLaws.{Bytes}

-- j zeros more
zeros_below : (j k a : ℕ) → count_trailing_zeros (j + k) (a * 2 ^ j) ≡ j + count_trailing_zeros k a
unfolding count_trailing_zeros
zeros_below zero k a = ap₂ count_trailing_zeros (zero-add k) (mul-one a) ∙ sym (zero-add _)
zeros_below (suc j) k a =
    ap (λ (n : ℕ). count_trailing_zeros n (a * 2 ^ suc j)) (suc-add j k)
    ∙ ap₂ under (shifted_even a j) (ap (count_trailing_zeros (j + k)) (shifted_half a j))
    ∙ ap suc (zeros_below j k a) ∙ sym (suc-add j _)

-- a byte without its flag, and one with it
clear_byte : (k a : ℕ) → count_trailing_zeros (8 + k) (a * 256 + 0) ≡ 8 + count_trailing_zeros k a
clear_byte k a = ap (count_trailing_zeros (8 + k)) (add-zero (a * 256)) ∙ zeros_below 8 k a

set_byte : (k a : ℕ) → count_trailing_zeros (8 + k) (a * 256 + 128) ≡ 7
unfolding count_trailing_zeros
set_byte k a =
    let bits : 8 + k ≡ 7 + suc k = omega arith in
    let odd : (a * 2 + 1) % 2 ≡ 1 = digits_mod a (omega arith) in
    let value : a * 256 + 128 ≡ (a * 2 + 1) * 2 ^ 7 = omega arith in
    ap₂ count_trailing_zeros bits value ∙ zeros_below 7 (suc k) (a * 2 + 1) ∙ ap (λ (d : ℕ). 7 + under d (count_trailing_zeros k ((a * 2 + 1) / 2))) odd

-- a word of n + 1 bytes, the lowest of them b, with its flags
flagged_suc : (n a b : ℕ) → b < 256 → flagged (suc n) (a * 256 + b) ≡ flagged n a * 256 + flag b
unfolding flagged
flagged_suc n a b h = ap₂ (λ (x y : ℕ). flagged n x * 256 + flag y) (digits_div a h) (digits_mod a h)

first_step : (n a b d : ℕ) → count_trailing_zeros (8 * n) (flagged n a) / 8 ≡ d → count_trailing_zeros (8 * suc n) (flagged n a * 256 + flag b) / 8 ≡ choose (is_delimiter b) 0 (suc d)
unfolding flag choose
first_step n a b d e = go (is_delimiter b)
  where
    bits : 8 * suc n ≡ 8 + 8 * n
    bits = omega arith

    go : (t : Bool) → count_trailing_zeros (8 * suc n) (flagged n a * 256 + choose t 128 0) / 8 ≡ choose t 0 (suc d)
    go true = ap (λ (k : ℕ). k / 8) (ap (λ (k : ℕ). count_trailing_zeros k (flagged n a * 256 + 128)) bits ∙ set_byte (8 * n) (flagged n a))
    go false =
        let z = ap (λ (k : ℕ). count_trailing_zeros k (flagged n a * 256 + 0)) bits ∙ clear_byte (8 * n) (flagged n a) in
        let f : (8 + count_trailing_zeros (8 * n) (flagged n a)) / 8 ≡ suc (count_trailing_zeros (8 * n) (flagged n a) / 8) = omega arith in
        ap (λ (k : ℕ). k / 8) z ∙ f ∙ ap suc e

-- the law, over the width: so many bytes stand before the first tab or newline
pub first_flag : (bs : List ℕ) → Bytes bs → count_trailing_zeros (8 * length bs) (flagged (length bs) (word bs)) / 8 ≡ delimiter_from 0 bs
unfolding word delimiter_from count_trailing_zeros
first_flag [] bytes = refl
first_flag (b ∷ bs) bytes =
    let n = length bs in
    ap (λ (x : ℕ). count_trailing_zeros (8 * suc n) x / 8) (flagged_suc n (word bs) b (bytes 0 (omega arith)))
    ∙ first_step n (word bs) b (delimiter_from 0 bs) (first_flag bs (λ k q. bytes (suc k) (omega arith)))

-- bytes without a tab and a newline have no flag
pub no_flag : (bs : List ℕ) → Bytes bs → delimiter_from 0 bs ≡ length bs → flagged (length bs) (word bs) ≡ 0
unfolding word delimiter_from flagged choose flag
no_flag [] bytes e = refl
no_flag (b ∷ bs) bytes e = flagged_suc (length bs) (word bs) b (bytes 0 (omega arith)) ∙ go (is_delimiter b) refl e (no_flag bs (λ k q. bytes (suc k) (omega arith)))
  where
    go : (t : Bool) → is_delimiter b ≡ t → choose t 0 (suc (delimiter_from 0 bs)) ≡ suc (length bs) → (delimiter_from 0 bs ≡ length bs → flagged (length bs) (word bs) ≡ 0) →
        flagged (length bs) (word bs) * 256 + flag b ≡ 0
    go true q e h = let z : zero ≡ suc (length bs) = e in absurd (omega arith)
    go false q e h = let z : suc (delimiter_from 0 bs) ≡ suc (length bs) = e in rw (h (omega arith), q)
