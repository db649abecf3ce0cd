-- A value, and each word held.
use Rattle.std.proofs.Common.{rules}
use Rattle.model.specs.Basics.{◌&◌}
use Rattle.model.specs.WellFormed.{wf_value}
use Rattle.wellformed.proofs.held.value_held.Goals as goal

pub returns-then-is_value : goal.returns-then-is_value
unfolding wf_value ◌&◌
returns-then-is_value c = search rules

pub returns-else-is_value : goal.returns-else-is_value
unfolding wf_value ◌&◌
returns-else-is_value c = search rules
