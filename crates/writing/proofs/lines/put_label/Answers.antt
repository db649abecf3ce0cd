-- `writing::lines::put_label` meets its contract.
use Rattle.writing.proofs.WrittenLaws.{joined}
use Rattle.writing.proofs.lines.put_label.Goals as goal

pub returns-clause-written : goal.returns-clause-written
returns-clause-written c = joined c.put-p.ensures c.put_value.ensures.written
