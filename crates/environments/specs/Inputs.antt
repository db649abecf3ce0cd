-- The environment of a waiting input, made in lent words.
use Rattle.std.specs.Prelude.{◌≡◌, ◌≢◌, true, List, map, ℕ, ◌<◌, length, take, get_or}
use Rattle.std.proofs.lemmas.List.Edits.{sets}
use Rattle.model.specs.Table.{Table, count, scope}
use Rattle.tables.specs.Checks.{Passes}
use Rattle.sides.specs.Layout.{row_at, places_of, view_place, fits_row}
use Rattle.sides.specs.Stored.{values_put}

-- the node of a waiting input's row, and its values
abbrev pub node_of : List ℕ → ℕ
node_of r = get_or r 5 0

abbrev pub values_of : List ℕ → List (List ℕ)
values_of r = map view_place (take (get_or r 6 0) (places_of r))

-- row j of a side is a waiting input within its places, at a node of a table that passes checks 1 to 6, with a value for every
-- name in force there
pub record Waits (t : Table) (rows : List ℕ) (j : ℕ) : Type 0 where
  pub passes : Passes t
  pub long : length rows ≡ 5184
  pub row : j < 32
  pub input : get_or (row_at rows j) 0 0 ≢ 1
  pub fits : fits_row (row_at rows j) ≡ true
  pub inside : node_of (row_at rows j) < count t
  pub each : length (values_of (row_at rows j)) ≡ length (scope t (node_of (row_at rows j)))

-- all words of the environment e with the names ns from its first word on, and as many values of the row r
unfoldable pub names_put : List ℕ → (ns r : List ℕ) → List ℕ
names_put e ns r = values_put (sets e 0 ns) 0 r (length ns)

-- n names are in force, and e' is e with them and the values of row j
pub record InputEnvIs (t : Table) (rows : List ℕ) (j : ℕ) (e e' : List ℕ) (n : ℕ) : Type 0 where
  pub count : n ≡ length (scope t (node_of (row_at rows j)))
  pub words : e' ≡ names_put e (scope t (node_of (row_at rows j))) (row_at rows j)
