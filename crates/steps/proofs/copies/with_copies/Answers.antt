use Rattle.steps.proofs.CopyLaws.{none_added}
use Rattle.steps.proofs.copies.with_copies.Goals as goal

pub returns-else-logging : goal.returns-else-logging
returns-else-logging c = let a = c.args in none_added a.l a.logging a.v c.if-logging.false
