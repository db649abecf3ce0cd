use Rattle.meeting.proofs.Removing.{output_gone, gone_pair}
use Rattle.meeting.proofs.bodies.remove_pair.Goals as goal

pub returns-then-replicated : goal.returns-then-replicated
returns-then-replicated c =
    output_gone c.requires c.if-replicated.true c.remove_row.ensures.1

pub returns-else-replicated : goal.returns-else-replicated
returns-else-replicated c =
    gone_pair c.requires c.if-replicated.false c.max.ensures c.min.ensures c.remove_row-k.ensures c.remove_row-else-replicated.ensures.1
