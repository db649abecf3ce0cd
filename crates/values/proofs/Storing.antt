-- A law of lists of words that a Value stores.
use mathlib.Core.Path.{◌≡◌, ◌∙◌}
use mathlib.Core.List.{List}
use Prim.Native.Nat.{ℕ, ◌≤◌}
use lib.ListN.{length}
use lib.Seq.{take_all}
use Rattle.values.specs.declared.Value.{Value}
use Rattle.values.specs.Env.{view_value, Stores}

-- what is short is stored whole
pub stores_short : (l : List ℕ) (r : Value) → Stores l r → length l ≤ 16 → view_value r ≡ l
stores_short l r s h = s.words ∙ take_all 16 l h
