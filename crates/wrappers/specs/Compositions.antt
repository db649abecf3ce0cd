-- What load is lent as slices: the wrapper's number, and for each side, from side 1 on, its nodes and its pool.
use Rattle.std.specs.Prelude.{List, [], ◌∷◌, ℕ}
use Rattle.model.specs.Table.{Table}
use Rattle.model.specs.Load.{Composition}
use Rattle.tables.specs.Nodes as slices

-- the tables of the sides
unfoldable pub tables_of : (nodes pools : List (List ℕ)) → List Table
tables_of [] ps = []
tables_of (n ∷ ns) [] = []
tables_of (n ∷ ns) (p ∷ ps) = slices.table n p ∷ tables_of ns ps

-- what the slices are to the model
abbrev pub composition : ℕ → (nodes pools : List (List ℕ)) → Composition
composition w ns ps = record { wrapper = w; tables = tables_of ns ps }
