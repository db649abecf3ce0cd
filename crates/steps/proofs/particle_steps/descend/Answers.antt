use Rattle.steps.proofs.Held.{rows_cap, boxes_cap, offer_refused}
use Rattle.steps.proofs.ParticleSteps.{descend_did}
use native.Mathlib.Omega.{arith}
use Rattle.steps.proofs.particle_steps.descend.Goals as goal

pub returns-in_default : goal.returns-in_default
returns-in_default c = offer_refused c.args.rows.now c.in_default.ensures c.in_default.is c.refused.ensures

pub move_output-requires : goal.move_output-requires
move_output-requires c =
    let l = c.args.rows.now in
    let o = c.args.o in
    let a = c.in-At.ensures.1 in
    (c.requires.long, omega (arith, a.held, rows_cap l o c.requires), omega (arith, a.box, boxes_cap l o c.requires))

pub returns : goal.returns
returns c =
    descend_did c.args.rows.now c.args.o c.args.i _ c.args.j c.in-At.ensures.0 c.requires _ _ c.in-At.ensures.1 c.move_output.ensures c.plain.ensures
