-- An environment in lent words: eight names, then eight places for values, as a row's.
use Rattle.std.specs.Prelude.{cond, List, [], ◌∷◌, map, ℕ, zero, suc, ◌+◌, ◌*◌, ltb, eqb, get_or, take, set}
use Rattle.model.specs.Values.{Env}
use Rattle.sides.specs.Layout.{places_of, view_place}
use Rattle.sides.specs.Stored.{placed}

-- the first n names and their values
abbrev pub env_of : List ℕ → ℕ → Env
env_of e n = record { names = take n e; vals = map view_place (take n (places_of e)) }

-- the last place below n where the word w stands; d where it stands at none
unfoldable pub last_of : List ℕ → (n w d : ℕ) → ℕ
last_of e zero w d = d
last_of e (suc k) w d = cond (eqb (get_or e k 0) w) k (last_of e k w d)

-- what the slot k says that w stands for: its value, or w itself where k is none of the n
unfoldable pub slot_value : List ℕ → (n w k : ℕ) → List ℕ
slot_value e n w k = cond (ltb k n) (view_place (get_or (places_of e) k [])) (w ∷ [])

-- all words of an environment once its name n is `name`, with the value x
unfoldable pub bound : List ℕ → (n name : ℕ) → List ℕ → List ℕ
bound e n name x = placed (set e n name) (8 + 17 * n) x
