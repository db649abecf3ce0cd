-- `writing::fault` meets its contract.
use Rattle.writing.proofs.WrittenLaws.{joined, paged}
use borrow.Author.Rules.{rules}
use Rattle.writing.proofs.fault.Goals as goal

pub returns : goal.returns
returns c = paged (joined (joined c.put-a.ensures c.put_field-b.ensures.written) c.put.ensures) (search rules) (search rules)
