-- Box 0, or an earlier parent and a held name.
use Rattle.std.proofs.Common.{rules}
use Rattle.model.specs.Basics.{◌or◌, ◌&◌}
use Rattle.wellformed.specs.Clauses.{box_at}
use Rattle.wellformed.proofs.boxes.box_ok.Goals as goal

pub returns-then-i-eq0 : goal.returns-then-i-eq0
unfolding box_at ◌or◌ ◌&◌
returns-then-i-eq0 c = search rules

pub returns-then-parent-i : goal.returns-then-parent-i
unfolding box_at ◌or◌ ◌&◌
returns-then-parent-i c = search rules

pub returns-else-parent-i : goal.returns-else-parent-i
unfolding box_at ◌or◌ ◌&◌
returns-else-parent-i c = search rules
