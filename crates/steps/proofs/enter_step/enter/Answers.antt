use mathlib.Core.Path.{refl}
use Rattle.steps.proofs.Held.{Full, offer_refused}
use Rattle.steps.proofs.EnterSteps.{enter_did}
use Rattle.steps.proofs.enter_step.enter.Goals as goal

pub returns-in_default : goal.returns-in_default
returns-in_default c = offer_refused c.args.rows.now c.in_default.ensures c.in_default.is c.refused.ensures

pub returns : goal.returns
returns c =
    let lobby = c.well_formed.1.0.1.1.1.1.1.1.0 in
    let full : Full c.args.o = record { msgs = search lobby } in
    let a = c.args in
    let w = c.in-At.ensures in
    enter_did a.rows.now a.o a.logging a.marks.now a.words.now c.requires.0 full _ _ c.of-value.result c.new-m.result c.with_copies.result
    c.with.result _ _
    w.0 w.1 c.of-value.ensures c.new-m.ensures c.with_copies.ensures c.with.ensures refl
