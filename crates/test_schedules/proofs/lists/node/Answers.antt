-- `test_schedules::lists::node` meets its contract: a node that the list has no place for is past its end.
use Rattle.std.proofs.Common.{◌*◌, ◌∷◌, [], sym, arith}
use Rattle.test_schedules.proofs.ListLaws.{past}
use Rattle.test_schedules.proofs.lists.node.Goals as goal

pub returns-else-k-nodes : goal.returns-else-k-nodes
returns-else-k-nodes c =
    let x = c.args in
    sym (past (x.kind ∷ x.a ∷ x.b ∷ x.c ∷ x.d ∷ []) x.nodes.now (5 * x.k) (omega arith))
