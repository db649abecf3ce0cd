-- The tables of all sides as they are lent: one list of words, in parts, and a list of the parts' lengths. The parts are side 1's nodes, side 1's
-- pool, side 2's nodes, and so on. Every two lists say something: no length is wrong.
use Rattle.std.specs.Prelude.{List, [], ◌∷◌, map, ℕ, ◌+◌, ◌-◌, ◌*◌, get_or, take, drop}
use Rattle.model.specs.Wrapper.{all_sides}
use Rattle.model.specs.Load.{Composition}
use Rattle.wrappers.specs.Compositions.{composition}

-- the sum of some lengths
unfoldable pub total : List ℕ → ℕ
total [] = 0
total (n ∷ ns) = n + total ns

-- part k, counted from 0: behind the parts before it, as many words as its length says, or as there are; a length that is missing is 0
abbrev pub part_at : (words lengths : List ℕ) → (k : ℕ) → List ℕ
part_at ws ls k = take (get_or ls k 0) (drop (total (take k ls)) ws)

-- a part of each side, from side 1 on: every second part, from a first one on
abbrev pub parts_from : (first : ℕ) → (words lengths : List ℕ) → List (List ℕ)
parts_from first ws ls = map (λ n. part_at ws ls (2 * (n - 1) + first)) all_sides

-- each side's nodes
abbrev pub nodes_in : (words lengths : List ℕ) → List (List ℕ)
nodes_in = parts_from 0

-- each side's pool
abbrev pub pools_in : (words lengths : List ℕ) → List (List ℕ)
pools_in = parts_from 1

-- what is lent, to the model
abbrev pub lent_composition : (wrapper : ℕ) → (words lengths : List ℕ) → Composition
lent_composition w ws ls = composition w (nodes_in ws ls) (pools_in ws ls)
