use Rattle.std.proofs.Common.{rules}
use Rattle.model.specs.Basics.{◌&◌}
use Rattle.wellformed.specs.Clauses.{input_waits}
use Rattle.wellformed.proofs.particles.input_ok.Goals as goal

pub returns-then-values_ok : goal.returns-then-values_ok
unfolding input_waits ◌&◌
returns-then-values_ok c = search rules

pub returns-else-values_ok : goal.returns-else-values_ok
unfolding input_waits ◌&◌
returns-else-values_ok c = search rules
