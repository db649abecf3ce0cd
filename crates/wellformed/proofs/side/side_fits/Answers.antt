use Rattle.std.proofs.Common.{rules}
use Rattle.model.specs.Basics.{◌&◌}
use Rattle.wellformed.proofs.side.side_fits.Goals as goal

pub returns-then-fits : goal.returns-then-fits
unfolding ◌&◌
returns-then-fits c = search rules

pub returns-else-fits : goal.returns-else-fits
unfolding ◌&◌
returns-else-fits c = search rules
