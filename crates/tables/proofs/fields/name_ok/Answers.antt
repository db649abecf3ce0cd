use native.Mathlib.Omega.{arith}
use Rattle.std.proofs.lemmas.Grind.{common_steps}
use Rattle.model.specs.Basics.{◌&◌, ◌or◌}
use Rattle.tables.specs.Fields.{kind_ok, tree_ok, four_fields}
use Rattle.tables.proofs.fields.name_ok.Goals as goal

pub returns-in-Name : goal.returns-in-Name
unfolding ◌&◌ ◌or◌ kind_ok tree_ok four_fields
returns-in-Name c = grind (arith, common_steps)

pub returns-in-Tag : goal.returns-in-Tag
unfolding ◌&◌ ◌or◌ kind_ok tree_ok four_fields
returns-in-Tag c = grind (arith, common_steps)

pub returns-in_default : goal.returns-in_default
unfolding ◌&◌ ◌or◌ kind_ok tree_ok four_fields
returns-in_default c = grind (arith, common_steps)
