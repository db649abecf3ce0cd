use Rattle.std.proofs.Common.{rules}
use Rattle.model.specs.Basics.{◌&◌}
use Rattle.wellformed.specs.Clauses.{all_zero}
use Rattle.wellformed.proofs.side.all_zero.Goals as goal

pub returns-then-lobby-eq0 : goal.returns-then-lobby-eq0
unfolding all_zero ◌&◌
returns-then-lobby-eq0 c = search rules

pub returns-else-lobby-eq0 : goal.returns-else-lobby-eq0
unfolding all_zero ◌&◌
returns-else-lobby-eq0 c = search rules
