-- Check 6, for a walk over node numbers.
use Rattle.std.specs.Prelude.{cond, ℕ, ◌<◌, min, leb, ltb, Option, Some, None}
use Rattle.model.specs.Table.{Table, count, term}
use Rattle.model.specs.Checks.{over}
use Rattle.model.proofs.Basics.Terms.{Tree}

-- what a walk from node n is given: children are above their parents and in the table, and so is n
pub record Walks (t : Table) (n : ℕ) : Type 0 where
  pub tree : Tree t
  pub inside : n < count t

-- node n where k names in force are too many, else 256
unfoldable pub node_if_over : (k n : ℕ) → ℕ
node_if_over k n = cond (leb k 8) 256 n

-- the lowest node of the term at node n with more than 8 names in force, k of them at n; 256 for none
unfoldable pub over_at : Table → (n k : ℕ) → ℕ
over_at t n k = over k (term t n)

-- a node, of the model's number for it; none at 256
unfoldable pub node_of : ℕ → Option ℕ
node_of m = cond (ltb m 256) (Some m) None

-- the lower of two nodes, where there are both
abbrev pub lower : Option ℕ → Option ℕ → Option ℕ
lower (Some m) (Some n) = Some (min m n)
lower (Some m) None = Some m
lower None b = b
