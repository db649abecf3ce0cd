use mathlib.Core.Path.{refl}
use Rattle.values.proofs.Lists.{unmap}
use Rattle.steps.proofs.Held.{Full, offer_refused}
use Rattle.steps.proofs.EnterSteps.{taken_in, shelf_in, shelf_fits_at, take_did}
use native.Mathlib.Omega.{arith}
use Rattle.steps.proofs.take_step.take.Goals as goal

pub returns-in_default : goal.returns-in_default
returns-in_default c = offer_refused c.args.rows.now c.in_default.ensures c.in_default.is c.refused.ensures

pub shelf_value-requires : goal.shelf_value-requires
shelf_value-requires c =
    let full : Full c.args.o = record { msgs = search unmap } in
    let a = c.args in
    let s = c.requires.1 in
    let held = c.in-At.ensures.1.held in
    let fits = shelf_fits_at a.rows.now a.o a.source a.shelf.now a.shelved _ c.requires.0 full s held in
    (s.long, shelf_in a.rows.now a.o a.source a.shelf.now a.shelved _ c.requires.0 full s held, fits)

pub taken_at-requires : goal.taken_at-requires
taken_at-requires c =
    let full : Full c.args.o = record { msgs = search unmap } in
    let a = c.args in
    let s = c.requires.1 in
    (s.first, omega (arith, s.last), shelf_in a.rows.now a.o a.source a.shelf.now a.shelved _ c.requires.0 full s c.in-At.ensures.1.held)

pub bounds-taken-taken_at : goal.bounds-taken-taken_at
bounds-taken-taken_at c =
    let lobby = c.well_formed.1.0.1.1.1.1.1.1.0 in
    let full : Full c.args.o = record { msgs = search lobby } in
    let a = c.args in
    omega (arith, c.taken_at.ensures, taken_in a.rows.now a.o a.source a.shelf.now a.shelved _ c.requires.0 full c.requires.1 c.in-At.ensures.1.held)

pub returns : goal.returns
returns c =
    let lobby = c.well_formed.1.0.1.1.1.1.1.1.0 in
    let full : Full c.args.o = record { msgs = search lobby } in
    let a = c.args in
    let w = c.in-At.ensures in
    take_did a.rows.now a.o a.source a.shelf.now a.shelved a.i _ w.0 c.requires.0 full c.requires.1 _ c.shelf_value.result
    c.new-m.result c.with.result _ c.taken_at.result _ w.1
    c.shelf_value.ensures c.new-m.ensures c.with.ensures c.taken_at.ensures refl
    c.plain.ensures
