use Rattle.meeting.proofs.Removing.{left_is}
use Rattle.meeting.proofs.bodies.rows_left.Goals as goal

pub returns-then-replicated : goal.returns-then-replicated
returns-then-replicated c =
    left_is c.args.n c.if-replicated.true

pub returns-else-replicated : goal.returns-else-replicated
returns-else-replicated c =
    left_is c.args.n c.if-replicated.false
