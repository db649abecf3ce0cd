-- `test_schedules::steps::arrive` meets its contract.
use Rattle.test_schedules.proofs.ListLaws.{joined}
use Rattle.test_schedules.proofs.named_steps.arrive.Goals as goal

pub returns : goal.returns
returns c = joined c.enter_word-end.ensures c.land.ensures
