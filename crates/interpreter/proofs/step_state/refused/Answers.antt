use Rattle.interpreter.proofs.StepLaws.{refused_ten}
use Rattle.interpreter.proofs.step_state.refused.Goals as goal

pub returns : goal.returns
returns c = refused_ten c.args.side c.args.s _ c.answered.result c.none.ensures.words c.answered.ensures
