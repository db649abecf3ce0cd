use Rattle.values.proofs.Words.{within_low, within_high}
use Rattle.values.proofs.is_tuple.Goals as goal

pub returns-then-w-ge4000000 : goal.returns-then-w-ge4000000
returns-then-w-ge4000000 c = within_high 4000000 4000015 c.args.w c.if-w-ge4000000.true

pub returns-else-w-ge4000000 : goal.returns-else-w-ge4000000
returns-else-w-ge4000000 c = within_low 4000000 4000015 c.args.w c.if-w-ge4000000.false
