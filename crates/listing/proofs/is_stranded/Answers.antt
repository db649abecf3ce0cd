use Rattle.std.proofs.Common.{arith}
use Rattle.std.proofs.lemmas.Grind.{common_steps}
use Rattle.model.specs.Basics.{◌&◌}
use Rattle.listing.proofs.is_stranded.Goals as goal

pub returns-then-eq : goal.returns-then-eq
unfolding ◌&◌
returns-then-eq c = grind (arith, common_steps)

pub returns-else-eq : goal.returns-else-eq
unfolding ◌&◌
returns-else-eq c = grind (arith, common_steps)
