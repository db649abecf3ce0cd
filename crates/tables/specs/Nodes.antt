-- A table and its nodes, as the slices and structs of the code hold them.
use Rattle.std.specs.Prelude.{◌≡◌, ◌≢◌, List, [], ℕ, ◌+◌, ◌*◌, ◌≤◌, get_or}
use Rattle.model.specs.Basics.{or_else}
use Rattle.model.specs.Values.{at, is_pattern_leaf, binders}
use Rattle.model.specs.Table.{Table}
use Rattle.tables.specs.declared.nodes.Node.{Node}
use Rattle.tables.specs.declared.nodes.Kind.{Kind}
use Rattle.tables.specs.declared.nodes.Kind.TheVariants as is

-- the table of two lent slices
abbrev pub table : List ℕ → List ℕ → Table
table n p = record { nodes = n; pool = p }

-- x holds node n: its kind, then its four fields
pub record NodeIs (ns : List ℕ) (n : ℕ) (x : Node) : Type 0 where
  pub k : x.word ≡ get_or ns (5 * n + 0) 0
  pub f1 : x.a ≡ get_or ns (5 * n + 1) 0
  pub f2 : x.b ≡ get_or ns (5 * n + 2) 0
  pub f3 : x.c ≡ get_or ns (5 * n + 3) 0
  pub f4 : x.d ≡ get_or ns (5 * n + 4) 0

-- the kind of a node by its word: model reads every word from 5 on as an input, and 6 as a replicated one
abbrev pub KindIs : ℕ → Kind → Type 0
KindIs w is.Nil = w ≡ 0
KindIs w is.Par = w ≡ 1
KindIs w is.Box = w ≡ 2
KindIs w is.New = w ≡ 3
KindIs w is.Out = w ≡ 4
KindIs w is.In = (5 ≤ w) × (w ≢ 6)
KindIs w is.Rep = w ≡ 6

-- the names of the pattern at a place, in order; none where there is no pattern
abbrev pub pattern_names : List ℕ → ℕ → List ℕ
pattern_names pool p = binders (or_else (at is_pattern_leaf pool p) [])
