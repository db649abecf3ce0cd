-- `writing::lines::put_value` meets its contract.
use Rattle.writing.proofs.WrittenLaws.{joined, spelled}
use Rattle.writing.proofs.LineLaws.{value_in_lem}
use Rattle.writing.proofs.lines.put_value.Goals as goal

pub returns-clause-written : goal.returns-clause-written
returns-clause-written c =
    spelled (value_in_lem c.args.words.now _ _ c.from.ensures c.min-e.ensures) (joined c.put_number-p.ensures.written c.put_fields.ensures.written)
