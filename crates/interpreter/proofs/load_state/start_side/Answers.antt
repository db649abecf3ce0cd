use mathlib.Core.Path.{refl}
use Rattle.interpreter.proofs.LoadLaws.{start_there}
use Rattle.interpreter.proofs.load_state.start_side.Goals as goal

pub returns : goal.returns
returns c = start_there _ _ c.start_of-rest.result _ _ c.start_of-rest.ensures refl
