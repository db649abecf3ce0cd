-- What the test on a word makes of one byte, and that its sums stay within the byte.
use mathlib.Core.Path.{◌≡◌, refl}
use mathlib.Core.Bool.{Bool, true}
use Prim.Native.Nat.{ℕ, zero, suc, ◌+◌, ◌<◌, ◌≤◌}
use native.Mathlib.Omega.{arith}
use borrow.Author.Tests.{eqb-true}
use lib.Dec.{eqb}
use lib.Bits.{bit_and, bit_xor, and_le_r}
use Rattle.model.specs.Basics.{◌&◌, choose, ◌or◌}
use Rattle.model.proofs.Basics.Tests.{fst, snd}
use Rattle.delimiters.specs.Delimiters.{is_delimiter, flag}

-- the test on a byte: `low` is the byte without its bit 7
abbrev pub byte_test : ℕ → ℕ
byte_test b = let low = bit_and b 127 in bit_and (bit_and (bit_xor (low + 119) (low + 117)) (bit_xor b 128)) 128

-- the sums that the test makes stay below 256
pub sum_below : (b c : ℕ) → c ≤ 128 → bit_and b 127 + c < 256
sum_below b c h = omega (arith, and_le_r b 127)

-- a test that each number below n passes
all_below : (ℕ → Bool) → ℕ → Bool
all_below p zero = true
all_below p (suc n) = p zero & all_below (λ k. p (suc k)) n

below : (p : ℕ → Bool) (n k : ℕ) → all_below p n ≡ true → k < n → p k ≡ true
unfolding all_below
below p zero k e h = absurd (omega arith)
below p (suc n) zero e h = fst _ _ e
below p (suc n) (suc k) e h = below (λ m. p (suc m)) n k (snd _ _ e) (omega arith)

-- all 256 bytes, one by one
pub byte_test_lem : (b : ℕ) → b < 256 → byte_test b ≡ flag b
unfolding all_below ◌&◌ flag is_delimiter choose ◌or◌
byte_test_lem b h = eqb-true _ _ (below (λ (n : ℕ). eqb (byte_test n) (flag n)) 256 b refl h)
