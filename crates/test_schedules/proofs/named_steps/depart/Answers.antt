-- `test_schedules::steps::depart` meets its contract.
use Rattle.test_schedules.proofs.ListLaws.{joined}
use Rattle.test_schedules.proofs.named_steps.depart.Goals as goal

pub returns : goal.returns
returns c = joined (joined c.up-end.ensures c.pass-end.ensures) c.leave.ensures
