use native.Mathlib.Omega.{arith}
use Rattle.std.proofs.lemmas.Grind.{common_steps}
use Rattle.model.specs.Basics.{◌&◌, ◌or◌}
use Rattle.tables.specs.Fields.{kind_ok, tree_ok, four_fields}
use Rattle.tables.proofs.fields.place_ok.Goals as goal

pub returns-in-Value : goal.returns-in-Value
unfolding ◌&◌ ◌or◌ kind_ok tree_ok four_fields
returns-in-Value c = grind (arith, common_steps)

pub returns-in-Pattern : goal.returns-in-Pattern
unfolding ◌&◌ ◌or◌ kind_ok tree_ok four_fields
returns-in-Pattern c = grind (arith, common_steps)

pub returns-in_default : goal.returns-in_default
unfolding ◌&◌ ◌or◌ kind_ok tree_ok four_fields
returns-in_default c = grind (arith, common_steps)
