-- The test on a word of n bytes: byte by byte, it is the test on a byte.
use mathlib.Core.Path.{◌≡◌, sym, ap, ap₂, ◌∙◌}
use Prim.Native.Nat.{ℕ, zero, suc, ◌+◌, ◌*◌, ◌/◌, ◌%◌, ◌<◌}
use native.Mathlib.Nat.{mod-lt, div-add-mod'}
use native.Mathlib.Omega.{arith}
use lib.Bits.{bit_and, bit_xor, and_block, xor_block, and_zero_r, and_lt, xor_lt}
use Rattle.delimiters.specs.Delimiters.{flagged}
use Rattle.delimiters.proofs.ByteLaws.{byte_test, byte_test_lem, sum_below}

-- n bytes that are all c
unfoldable pub filled : (n c : ℕ) → ℕ
filled zero c = 0
filled (suc n) c = filled n c * 256 + c

-- the test that the program makes, on n bytes
abbrev low : (n x : ℕ) → ℕ
low n x = bit_and x (filled n 127)

abbrev sum : (n c x : ℕ) → ℕ
sum n c x = low n x + filled n c

unfoldable pub test : (n x : ℕ) → ℕ
test n x = bit_and (bit_and (bit_xor (sum n 119 x) (sum n 117 x)) (bit_xor x (filled n 128))) (filled n 128)

-- a word of n + 1 bytes: the low byte b, and the others, which make a
module _ (n a b : ℕ) (h : b < 256) where
  low_suc : low (suc n) (a * 256 + b) ≡ low n a * 256 + bit_and b 127
  unfolding filled
  low_suc = and_block 8 a (filled n 127) b 127 h (omega arith)

  sum_suc : (c : ℕ) → sum (suc n) c (a * 256 + b) ≡ sum n c a * 256 + (bit_and b 127 + c)
  unfolding filled
  sum_suc c = omega (arith, low_suc)

  -- each operation works on the low byte and on the others apart
  pub test_suc : test (suc n) (a * 256 + b) ≡ test n a * 256 + byte_test b
  unfolding filled test
  test_suc =
      let between = bit_xor (sum n 119 a) (sum n 117 a) in
      let between-low = bit_xor (bit_and b 127 + 119) (bit_and b 127 + 117) in
      let top = bit_xor a (filled n 128) in
      let top-low = bit_xor b 128 in
      let s₁ = sum_below b 119 (omega arith) in
      let s₂ = sum_below b 117 (omega arith) in
      let h₁ : between-low < 256 = xor_lt 8 _ _ s₁ s₂ in
      let h₂ : top-low < 256 = xor_lt 8 _ _ h (omega arith) in
      let e₁ = ap₂ bit_xor (sum_suc 119) (sum_suc 117) ∙ xor_block 8 (sum n 119 a) (sum n 117 a) (bit_and b 127 + 119) (bit_and b 127 + 117) s₁ s₂ in
      let e₂ = xor_block 8 a (filled n 128) b 128 h (omega arith) in
      let e₃ = and_block 8 between top between-low top-low h₁ h₂ in
      let e₄ = and_block 8 (bit_and between top) (filled n 128) (bit_and between-low top-low) 128 (and_lt 8 _ _ h₁ h₂) (omega arith) in
      ap (λ (u : ℕ). bit_and u (filled n 128 * 256 + 128)) (ap₂ bit_and e₁ e₂ ∙ e₃) ∙ e₄

-- the law, over the width: the test gives each byte's flag
pub test_is : (n x : ℕ) → test n x ≡ flagged n x
unfolding test filled flagged
test_is zero x = and_zero_r (bit_and (bit_xor (sum 0 119 x) (sum 0 117 x)) (bit_xor x 0))
test_is (suc n) x =
    let a = x / 256 in
    let b = x % 256 in
    let h : b < 256 = mod-lt x (omega arith) in
    ap (test (suc n)) (sym (div-add-mod' x 256)) ∙ test_suc n a b h ∙ ap₂ (λ (u v : ℕ). u * 256 + v) (test_is n a) (byte_test_lem b h)
