use Rattle.values.proofs.Words.{within_low, within_high}
use Rattle.values.proofs.is_outside.Goals as goal

pub returns-then-w-ge196608 : goal.returns-then-w-ge196608
returns-then-w-ge196608 c = within_high 196608 196863 c.args.w c.if-w-ge196608.true

pub returns-else-w-ge196608 : goal.returns-else-w-ge196608
returns-else-w-ge196608 c = within_low 196608 196863 c.args.w c.if-w-ge196608.false
