-- Values as the struct holds them.
use Rattle.std.specs.Prelude.{◌≡◌, Bool, not, List, ℕ, min, ltb, length, get_or, take}
use Rattle.values.specs.declared.Value.{Value}

-- a value's words
abbrev pub view_value : Value → List ℕ
view_value v = take v.len v.words

-- the struct r stores the list l: its first sixteen words, and its length counted as far as 17, which is over 16 words
pub record Stores (l : List ℕ) (r : Value) : Type 0 where
  pub count : min 17 r.len ≡ min 17 (length l)
  pub words : view_value r ≡ take 16 l

-- whether a value is a tuple, by its first word
unfoldable pub tuple_of : List ℕ → Bool
tuple_of v = not (ltb (get_or v 0 0) 4000000)
