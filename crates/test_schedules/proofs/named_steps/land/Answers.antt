-- `test_schedules::steps::land` meets its contract.
use Rattle.test_schedules.proofs.ListLaws.{joined}
use Rattle.test_schedules.proofs.named_steps.land.Goals as goal

pub returns : goal.returns
returns c = joined c.down-end.ensures c.meet.ensures
