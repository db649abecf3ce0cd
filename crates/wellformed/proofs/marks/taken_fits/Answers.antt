use Rattle.std.proofs.Common.{rules}
use Rattle.model.specs.Basics.{◌&◌}
use Rattle.wellformed.specs.Clauses.{taken_at}
use Rattle.wellformed.proofs.marks.taken_fits.Goals as goal

pub returns-then-not-marked : goal.returns-then-not-marked
unfolding taken_at ◌&◌
returns-then-not-marked c = search rules

pub returns-then-taker : goal.returns-then-taker
unfolding taken_at ◌&◌
returns-then-taker c = search rules

pub returns-else-taker : goal.returns-else-taker
unfolding taken_at ◌&◌
returns-else-taker c = search rules
