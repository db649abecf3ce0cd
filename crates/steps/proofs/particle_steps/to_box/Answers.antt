use Rattle.steps.proofs.Held.{rows_cap, boxes_cap}
use Rattle.steps.proofs.ParticleSteps.{box_did}
use native.Mathlib.Omega.{arith}
use Rattle.steps.proofs.particle_steps.to_box.Goals as goal

pub box_name-n-requires : goal.box_name-n-requires
box_name-n-requires c = (c.requires.0.long, omega (arith, c.requires.4, boxes_cap c.args.rows.now c.args.o c.requires.0))

pub box_parent-requires : goal.box_parent-requires
box_parent-requires c = (c.requires.0.long, omega (arith, c.requires.4, boxes_cap c.args.rows.now c.args.o c.requires.0))

pub move_output-requires : goal.move_output-requires
move_output-requires c = (c.requires.0.long, omega (arith, c.requires.1, rows_cap c.args.rows.now c.args.o c.requires.0), c.box_parent.ensures.1)

pub returns : goal.returns
returns c =
    λ s. box_did c.args.rows.now c.args.o c.args.i c.requires.0 c.requires.1 c.requires.2 _ s c.args.b _ _ _ c.requires.3 c.requires.4
    c.box_parent.ensures.0 c.box_name-n.ensures c.move_output.ensures c.plain.ensures
