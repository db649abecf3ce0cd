use mathlib.Core.Path.{refl}
use Rattle.values.proofs.Lists.{unmap}
use Rattle.steps.proofs.Held.{Full, lobby_cap, offer_refused}
use Rattle.steps.proofs.LobbySteps.{leave_did}
use native.Mathlib.Omega.{arith}
use Rattle.steps.proofs.lobby_steps.leave.Goals as goal

pub returns-in_default : goal.returns-in_default
returns-in_default c = offer_refused c.args.rows.now c.in_default.ensures c.in_default.is c.refused.ensures

pub offset_bounds-o-k : goal.offset_bounds-o-k
offset_bounds-o-k c = let a = c.in-At.ensures.1 in omega (arith, a.held, lobby_cap c.args.rows.now c.args.o c.requires)

pub bounds-o-k : goal.bounds-o-k
bounds-o-k c = let a = c.in-At.ensures.1 in omega (arith, a.held, lobby_cap c.args.rows.now c.args.o c.requires)

pub without-requires : goal.without-requires
without-requires c = (c.in-At.ensures.1.held, lobby_cap c.args.rows.now c.args.o c.requires)

pub returns : goal.returns
returns c =
    let full : Full c.args.o = record { msgs = search unmap } in
    leave_did c.args.rows.now c.args.o c.args.i _ c.in-At.ensures.0 c.requires full _ _ c.leaving_on.result c.without.result _
    c.in-At.ensures.1 c.leaving_on.ensures c.without.ensures refl
