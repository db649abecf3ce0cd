use Rattle.interpreter.proofs.LoadLaws.{all_nothing}
use Rattle.interpreter.proofs.load_state.empty_state.Goals as goal

pub returns : goal.returns
returns c = all_nothing c.empty-o.result c.empty-o.ensures
