-- `test_schedules::lists::inputs` meets its contract. The loop's invariant: the nodes that are left, stored from here on, make the whole.
use Rattle.std.proofs.Common.{◌≡◌, ◌-◌, ◌*◌}
use lib.Seq.{sets}
use Rattle.test_schedules.specs.Lists.{nodes_from, input_node}
use Rattle.test_schedules.proofs.lists.inputs.Given as goal

abbrev pub invariant-loop-k : goal.invariant-loop-k
invariant-loop-k l = sets l.nodes (5 * l.k) (nodes_from (input_node l.kind) l.k (l.b - l.k)) ≡ sets l.initial.nodes (5 * l.a) (nodes_from (input_node l.kind) l.a (l.b - l.a))
