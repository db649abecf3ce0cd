use Rattle.std.proofs.Common.{rules}
use Rattle.model.specs.Basics.{◌or◌}
use Rattle.model.specs.WellFormed.{held_word}
use Rattle.wellformed.proofs.held.held_word.Goals as goal

pub returns-then-w-ge4000000 : goal.returns-then-w-ge4000000
unfolding held_word ◌or◌
returns-then-w-ge4000000 c = search rules

pub returns-else-w-ge4000000 : goal.returns-else-w-ge4000000
unfolding held_word ◌or◌
returns-else-w-ge4000000 c = search rules
