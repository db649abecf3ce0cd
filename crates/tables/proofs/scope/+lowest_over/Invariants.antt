-- `tables::scope::lowest_over` meets its contract.
use Rattle.tables.specs.Nodes.{table}
use Prim.Native.Nat.{◌-◌}
use Rattle.model.specs.Table.{count}
use Rattle.tables.proofs.scope.+lowest_over.Given as goal

abbrev pub decreases-lowest_over : goal.decreases-lowest_over
decreases-lowest_over l = count (table l.nodes.now l.pool.now) - l.n
