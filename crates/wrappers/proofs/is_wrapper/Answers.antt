use native.Mathlib.Omega.{arith}
use Rattle.std.proofs.lemmas.Grind.{common_steps}
use Rattle.model.specs.Basics.{◌or◌}
use Rattle.wrappers.proofs.is_wrapper.Goals as goal

pub returns-in-1-to-3 : goal.returns-in-1-to-3
unfolding ◌or◌
returns-in-1-to-3 c = grind (arith, common_steps)

pub returns-in_default : goal.returns-in_default
unfolding ◌or◌
returns-in_default c = grind (arith, common_steps)

pub returns-in_default-2 : goal.returns-in_default-2
unfolding ◌or◌
returns-in_default-2 c = grind (arith, common_steps)
