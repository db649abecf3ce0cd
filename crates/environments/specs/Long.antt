-- 16: whether an output that unfolds from a term has a value over 16 words. By the environment, and by a table of sizes.
use Rattle.std.specs.Prelude.{Bool, false, cond, List, [], ◌∷◌, ℕ, ◌+◌, ltb, length, get_or, set}
use Rattle.model.specs.Basics.{◌or◌}
use Rattle.model.specs.Values.{Env, is_public, extend, substitute}
use Rattle.model.specs.Table.{Term, nil, par, box, new, out, inp}

-- a new name has one word, whichever it is; what is under an input does not unfold
unfoldable pub long_in : Term → Env → Bool
long_in (nil n) ρ = false
long_in (par n l r) ρ = long_in l ρ or long_in r ρ
long_in (box n x a) ρ = long_in a ρ
long_in (new n x a) ρ = long_in a (extend ρ (x ∷ []) ((0 ∷ []) ∷ []))
long_in (out n c g v) ρ = ltb 16 (length (substitute ρ v))
long_in (inp n r c g p a) ρ = false

-- how many words a word of a table's value stands for: a name's entry, or one
abbrev pub size_for : List ℕ → ℕ → ℕ
size_for ts w = cond (is_public w) (get_or ts w 0) 1

-- how many words a table's value stands for
unfoldable pub size_by : List ℕ → List ℕ → ℕ
size_by ts [] = 0
size_by ts (w ∷ ws) = size_for ts w + size_by ts ws

-- `long_in` with the sizes of what the names stand for in the environment's stead
unfoldable pub long_by : Term → List ℕ → Bool
long_by (nil n) ts = false
long_by (par n l r) ts = long_by l ts or long_by r ts
long_by (box n x a) ts = long_by a ts
long_by (new n x a) ts = long_by a (set ts x 1)
long_by (out n c g v) ts = ltb 16 (size_by ts v)
long_by (inp n r c g p a) ts = false
