-- The digits of a number, as the library io has them and as the format has them.
use mathlib.Core.Path.{◌≡◌, sym, ◌∙◌, ap}
use mathlib.Core.List.{[], ◌∷◌, ◌++◌}
use Prim.Native.Nat.{ℕ, zero, suc, ◌+◌, ◌-◌, ◌*◌, ◌/◌, ◌%◌, ◌^◌, ◌≤◌, ◌<◌}
use native.Mathlib.Omega.{arith}
use native.Mathlib.Nat.{pow-le-pow_right, pow-suc, one-le-pow, mod-eq_of_lt}
use native.Mathlib.Decide.{dec_le}
use borrow.Author.Tests.{lt-ltb, le-ltb}
use Rattle.io.specs.Digits.{last_digits, hex_digit_ascii, IsDigitCount}
use Rattle.format.specs.Output.{decimal_digits}

-- the glyph of a decimal digit
decimal_glyph : (d : ℕ) → d < 10 → hex_digit_ascii d ≡ 48 + d
decimal_glyph d h = simp (lt-ltb d 10 h)

-- a number under 10
one_digit : (m n : ℕ) → n < 10 → decimal_digits (suc m) n ≡ (48 + n) ∷ []
unfolding decimal_digits
one_digit m n h = simp (lt-ltb n 10 h)

-- a number from 10 on
more_digits : (m n : ℕ) → 10 ≤ n → decimal_digits (suc m) n ≡ decimal_digits m (n / 10) ++ ((48 + n % 10) ∷ [])
unfolding decimal_digits
more_digits m n h = simp (le-ltb n 10 h)

-- the least number with k digits, where k is above 1
least : (k n : ℕ) → IsDigitCount 10 1 n (suc (suc k)) → 10 ^ suc k ≤ n
least k n f = rw (pred-two k) at (f.2 (omega arith))
  where
    pred-two : (j : ℕ) → suc (suc j) - 1 ≡ suc j
    pred-two j = omega arith

-- the fewest digits of a number are its decimal digits
pub same_digits : (m k n : ℕ) → IsDigitCount 10 1 n k → k ≤ m → last_digits 10 k n ≡ decimal_digits m n
same_digits m zero n f h = absurd (omega arith)
same_digits zero (suc k) n f h = absurd (omega arith)
same_digits (suc m) (suc zero) n f h =
    let b : n < 10 = f.1 in
    let e : hex_digit_ascii (n % 10) ≡ 48 + n = decimal_glyph (n % 10) (omega arith) ∙ ap (λ (d : ℕ). 48 + d) (mod-eq_of_lt b) in
    ap (λ (d : ℕ). d ∷ []) e ∙ sym (one_digit m n b)
same_digits (suc m) (suc (suc k)) n f h =
    let e : 10 ^ suc k ≡ 10 ^ k * 10 = pow-suc 10 k in
    let g : 10 ^ suc (suc k) ≡ 10 ^ suc k * 10 = pow-suc 10 (suc k) in
    let i : 1 ≤ 10 ^ k = one-le-pow k 10 (omega arith) in
    let l : 10 ^ suc k ≤ n = least k n f in
    let b : hex_digit_ascii (n % 10) ≡ 48 + n % 10 = decimal_glyph (n % 10) (omega arith) in
    let rest : IsDigitCount 10 1 (n / 10) (suc k) = (omega arith, omega arith, λ p. rw (pred-suc k) (omega arith)) in
    let r : last_digits 10 (suc k) (n / 10) ≡ decimal_digits m (n / 10) = same_digits m (suc k) (n / 10) rest (omega arith) in
    cc (more_digits m n (omega arith))
  where
    pred-suc : (j : ℕ) → suc j - 1 ≡ j
    pred-suc j = omega arith

-- how many digits a number under a power of 10 has at most
pub at_most : (m k n : ℕ) → 1 ≤ m → n < 10 ^ m → IsDigitCount 10 1 n k → k ≤ m
at_most m k n h b f = elim (dec_le k m) [
  | yes p ↦ p
  | no q ↦
      let l : 10 ^ (k - 1) ≤ n = f.2 (omega (arith, q)) in
      let p : 10 ^ m ≤ 10 ^ (k - 1) = pow-le-pow_right (omega arith) (omega (arith, q)) in
      absurd (omega arith)
]
