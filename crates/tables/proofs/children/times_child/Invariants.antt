use Rattle.std.proofs.Common.{◌≡◌, List, ℕ, ◌<◌, length, get_or}
use Prim.Native.Nat.{min}
use Rattle.model.specs.Checks.{times_child}
use Rattle.tables.specs.Nodes.{table}
use Rattle.tables.proofs.children.times_child.Given as goal

-- the nodes below n are counted
abbrev pub invariant-loop-n : goal.invariant-loop-n
invariant-loop-n l = (length l.of ≡ 256) × ((pool : List ℕ) (m : ℕ) → m < 256 → get_or l.of m 0 ≡ min 2 (times_child (table l.nodes pool) m l.n))
