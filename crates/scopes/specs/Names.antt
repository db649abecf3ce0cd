-- The names in force as the struct holds them, and the search for a node's parent.
use Rattle.std.specs.Prelude.{Bool, not, ◌&&◌, List, ℕ, ◌-◌, eqb, length, drop}
use Rattle.tables.specs.Fields.{child_of}
use Rattle.tables.specs.declared.nodes.Node.{Node}
use Rattle.scopes.specs.declared.names.Names.{Names}

-- the names that the struct holds, outermost first
abbrev pub view_names : Names → List ℕ
view_names n = drop n.top n.rows

-- the last eight of a list; all of it, where it has no more. At most 8 bound names are in force at a node
unfoldable pub last_eight : List ℕ → List ℕ
last_eight l = drop (length l - 8) l

-- a field of use u, a word w, is the child m
abbrev pub is_child : (u w m : ℕ) → Bool
is_child u w m = eqb u 1 && eqb w m

-- m is a child of a node
unfoldable pub is_parent : Node → ℕ → Bool
is_parent x m = not (eqb (child_of x m) 0)
