-- Public, from outside, or minted and below the count.
use Rattle.std.proofs.Common.{rules}
use Rattle.model.specs.Basics.{◌or◌, ◌&◌}
use Rattle.model.specs.WellFormed.{held}
use Rattle.wellformed.proofs.held.held.Goals as goal

pub returns-then-is_outside : goal.returns-then-is_outside
unfolding held ◌or◌ ◌&◌
returns-then-is_outside c = search rules

pub returns-then-is_minted : goal.returns-then-is_minted
unfolding held ◌or◌ ◌&◌
returns-then-is_minted c = search rules

pub returns-else-is_minted : goal.returns-else-is_minted
unfolding held ◌or◌ ◌&◌
returns-else-is_minted c = search rules
