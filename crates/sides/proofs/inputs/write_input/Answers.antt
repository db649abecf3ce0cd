use Rattle.sides.specs.Stored.{input_put}
use Rattle.sides.proofs.inputs.write_input.Goals as goal

pub returns : goal.returns
unfolding input_put
returns c = c.copy_values.ensures
