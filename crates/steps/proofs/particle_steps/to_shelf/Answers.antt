use Rattle.steps.proofs.Held.{rows_cap, shelf_cap, value_in_place, said_refused}
use Rattle.steps.proofs.ParticleSteps.{shelf_did, shelf_full}
use native.Mathlib.Omega.{arith}
use borrow.Author.Rules.{rules}
use Rattle.steps.proofs.particle_steps.to_shelf.Goals as goal

pub returns-in_default : goal.returns-in_default
returns-in_default c =
    let no = c.in_default.ensures in
    λ s e. shelf_full c.args.rows.now c.args.o c.args.i c.requires.0 s _ _ no.0 (said_refused c.in_default.is c.refused.ensures) e no.1

pub shelf_offer-a-requires : goal.shelf_offer-a-requires
shelf_offer-a-requires c = shelf_cap c.args.rows.now c.args.o c.requires.0

pub value_at-requires : goal.value_at-requires
value_at-requires c =
    let l = c.args.rows.now in
    let o = c.args.o in
    (c.requires.0.long, omega (arith, c.requires.1, rows_cap l o c.requires.0), search rules, value_in_place l o c.requires.0 c.args.i c.requires.1 c.requires.2)

pub remove_row-n-requires : goal.remove_row-n-requires
remove_row-n-requires c = (search rules, c.requires.1, rows_cap c.args.rows.now c.args.o c.requires.0)

pub returns : goal.returns
returns c =
    λ s e. shelf_did c.args.rows.now c.args.o c.args.i c.requires.0 c.requires.1 c.requires.2 _ s c.value_at.result c.value_at.ensures _ c.remove_row-n.result
    _ _ e c.in-At.ensures.0 c.in-At.ensures.1 c.put_shelf.ensures c.remove_row-n.ensures
    c.plain.ensures
