use native.Mathlib.Omega.{arith}
use Rattle.std.proofs.lemmas.Grind.{common_steps}
use Rattle.model.specs.Basics.{◌&◌, ◌or◌}
use Rattle.tables.specs.Fields.{kind_ok, tree_ok, four_fields}
use Rattle.tables.proofs.fields.child_ok.Goals as goal

pub returns-then-n-w : goal.returns-then-n-w
unfolding ◌&◌ ◌or◌ kind_ok tree_ok four_fields
returns-then-n-w c = grind (arith, common_steps)

pub returns-else-n-w : goal.returns-else-n-w
unfolding ◌&◌ ◌or◌ kind_ok tree_ok four_fields
returns-else-n-w c = grind (arith, common_steps)
