-- Bytes as one number, byte by byte.
use mathlib.Core.Path.{◌≡◌, sym, ap, subst, ◌∙◌}
use mathlib.Core.List.{List}
use Prim.Native.Nat.{ℕ, suc, ◌+◌, ◌-◌, ◌*◌, ◌^◌, ◌<◌, ◌≤◌}
use native.Mathlib.Nat.{pow-suc, pow-le-pow_right, lt_of_lt_of_le}
use native.Mathlib.Omega.{arith}
use lib.Arith.{digits_lt}
use lib.ListN.{length, get_or}
use lib.Seq.{slice_empty, slice-cons}
use Rattle.format.specs.Bytes.{slice}
use Rattle.delimiters.specs.Delimiters.{word}

-- each element is a byte
abbrev pub Bytes : List ℕ → Type 0
Bytes bs = (k : ℕ) → k < length bs → get_or bs k 0 < 256

-- the word of no byte, and with the byte before it
pub no_bytes : (to : ℕ) (l : List ℕ) → word (slice to to l) ≡ 0
unfolding slice word
no_bytes to l = ap word (slice_empty to l)

pub byte_before : (from to : ℕ) (l : List ℕ) → from < to → to ≤ length l → word (slice from to l) ≡ word (slice (suc from) to l) * 256 + get_or l from 0
unfolding slice word
byte_before from to l h k = ap word (slice-cons from to l 0 h k)

-- a word of 8 - k bytes, and with a byte more; where there is room for one, the product with 256 fits
pub byte_more : (k w b : ℕ) → 0 < k → k ≤ 8 → w < 256 ^ (8 - k) → b < 256 → w * 256 + b < 256 ^ (8 - (k - 1))
byte_more k w b h m q r =
    let more : 256 ^ (8 - (k - 1)) ≡ 256 ^ (8 - k) * 256 = ap (λ (n : ℕ). 256 ^ n) (omega arith) ∙ pow-suc 256 (8 - k) in
    subst (λ (n : ℕ). w * 256 + b < n) (sym more) (digits_lt q r)

pub room : (k w : ℕ) → 0 < k → w < 256 ^ (8 - k) → w < 256 ^ 7
room k w h q =
    let few : 8 - k ≤ 7 = omega arith in
    lt_of_lt_of_le q (pow-le-pow_right (omega arith) few)
