-- `test_schedules::lists::nested` meets its contract. The loop's invariant: the nodes that are left, stored from here on, make the whole.
use Rattle.std.proofs.Common.{◌≡◌, ◌-◌, ◌*◌}
use lib.Seq.{sets}
use Rattle.test_schedules.specs.Lists.{nodes_from, nested_node}
use Rattle.test_schedules.proofs.lists.nested.Given as goal

abbrev pub invariant-loop-k : goal.invariant-loop-k
invariant-loop-k l = sets l.nodes (5 * l.k) (nodes_from (nested_node l.kind) l.k (l.b - l.k)) ≡ sets l.initial.nodes (5 * l.a) (nodes_from (nested_node l.kind) l.a (l.b - l.a))
