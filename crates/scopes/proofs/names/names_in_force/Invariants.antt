-- `scopes::names::names_in_force` meets its contract.
use mathlib.Core.Path.{◌≡◌}
use Prim.Native.Nat.{◌≤◌}
use lib.ListN.{length}
use Rattle.model.specs.Table.{scope, scope_up}
use Rattle.tables.specs.Nodes.{table}
use Rattle.scopes.specs.Names.{view_names, last_eight}
use Rattle.scopes.proofs.names.names_in_force.Given as goal

abbrev pub invariant-loop-m : goal.invariant-loop-m
invariant-loop-m l = (last_eight (scope (table l.nodes l.pool) l.n) ≡ last_eight (scope_up (table l.nodes l.pool) l.m l.cur (view_names l.r))) × (length (view_names l.r) ≤ 8)
