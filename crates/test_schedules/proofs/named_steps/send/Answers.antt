-- `test_schedules::steps::send` meets its contract.
use Rattle.test_schedules.proofs.ListLaws.{joined}
use Rattle.test_schedules.proofs.named_steps.send.Goals as goal

pub returns : goal.returns
returns c = joined c.enter_word-end.ensures c.down.ensures
