use mathlib.Core.Path.{ap}
use Rattle.model.specs.Basics.{Res}
use Rattle.model.specs.Step.{Step, Moved}
use Rattle.format.specs.Words.{step_at}
use Rattle.dispatch.specs.Stepping.{setting_of}
use Rattle.dispatch.proofs.InState.{step_short}
use Rattle.execution.proofs.StepsMade.{move_of, asked_at, at_same}
use Rattle.execution.proofs.making.own_step.Goals as goal

pub mark_left-requires : goal.mark_left-requires
mark_left-requires c =
    (c.requires.0.1, c.requires.0.2, c.requires.0.3, step_short _ _ _ _ _ (c.side_step-d.ensures 0).step)

pub returns : goal.returns
returns c =
    let l = c.args.steps.now in
    let p = c.args.p in
    let b = setting_of c.args.wrapper c.args.side c.args.nodes.now c.args.pool.now in
    let y = c.asked_at-x.ensures in
    let same = asked_at l p _ _ _ _ y.0 y.1 y.2 c.value_at-words.ensures in
    let move : Step → Res Moved = move_of b c.args.o c.args.rows.now c.args.marks.now c.args.shelved in
    record { step = at_same (ap move same) (c.side_step-d.ensures (step_at l p).side); marked = c.mark_left.ensures }
