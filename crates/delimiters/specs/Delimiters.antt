-- Where the next tab or newline stands, and the bytes of a word by which it is found.
use Rattle.std.specs.Prelude.{◌≡◌, Bool, true, false, List, [], ◌∷◌, ℕ, zero, suc, ◌+◌, ◌*◌, ◌/◌, ◌%◌, ◌<◌, ◌≤◌, eqb, length, get_or}
use Rattle.model.specs.Basics.{◌or◌, choose}
use Rattle.format.specs.Lines.{tab, newline}

-- a byte that ends a field or a line
unfoldable pub is_delimiter : ℕ → Bool
is_delimiter b = eqb b tab or eqb b newline

-- the first place from `start` on with a tab or a newline, or the length where there is none
unfoldable pub delimiter_from : (start : ℕ) → List ℕ → ℕ
delimiter_from start [] = 0
delimiter_from zero (b ∷ bs) = choose (is_delimiter b) 0 (suc (delimiter_from zero bs))
delimiter_from (suc n) (b ∷ bs) = suc (delimiter_from n bs)

-- r is the first place from `start` on with a tab or a newline, or the length where there is none, said place by place
pub record FirstFrom (start : ℕ) (s : List ℕ) (r : ℕ) : Type 0 where
  pub inside : r ≤ length s
  pub none_before : (p : ℕ) → start ≤ p → p < r → is_delimiter (get_or s p 0) ≡ false
  pub one_there : r < length s → (start ≤ r) × (is_delimiter (get_or s r 0) ≡ true)

-- for every start and list the definition gives such a place, and there is no other
abbrev pub FirstPlace : Type 0
FirstPlace = (start : ℕ) (s : List ℕ) → FirstFrom start s (delimiter_from start s) × ((r : ℕ) → FirstFrom start s r → r ≡ delimiter_from start s)

-- bytes as one number, the first of them lowest
unfoldable pub word : List ℕ → ℕ
word [] = 0
word (b ∷ bs) = word bs * 256 + b

-- a byte's flag: bit 7, where it ends a field or a line
unfoldable pub flag : ℕ → ℕ
flag b = choose (is_delimiter b) 128 0

-- the n low bytes of a word, each replaced by its flag
unfoldable pub flagged : (n x : ℕ) → ℕ
flagged zero x = 0
flagged (suc n) x = flagged n (x / 256) * 256 + flag (x % 256)
