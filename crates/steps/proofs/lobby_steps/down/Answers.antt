use Rattle.values.proofs.Lists.{unmap}
use Rattle.steps.proofs.Held.{Full, lobby_cap, message_short, offer_refused}
use Rattle.steps.proofs.LobbySteps.{down_did}
use native.Mathlib.Omega.{arith}
use borrow.Author.Rules.{rules}
use Rattle.steps.proofs.lobby_steps.down.Goals as goal

pub returns-in_default : goal.returns-in_default
returns-in_default c = offer_refused c.args.rows.now c.in_default.ensures c.in_default.is c.refused.ensures

pub offset_bounds-o-k : goal.offset_bounds-o-k
offset_bounds-o-k c = let a = c.in-At.ensures.1 in omega (arith, a.held, lobby_cap c.args.rows.now c.args.o c.requires)

pub bounds-o-k : goal.bounds-o-k
bounds-o-k c = let a = c.in-At.ensures.1 in omega (arith, a.held, lobby_cap c.args.rows.now c.args.o c.requires)

pub add_output-n-requires : goal.add_output-n-requires
add_output-n-requires c =
    let full : Full c.args.o = record { msgs = search unmap } in
    let a = c.in-At.ensures.1 in
    (c.requires.long, a.room, search rules, message_short c.args.rows.now c.args.o c.requires full _ _ a.held)

pub without-lobby-requires : goal.without-lobby-requires
without-lobby-requires c = (c.in-At.ensures.1.held, lobby_cap c.args.rows.now c.args.o c.requires)

pub returns : goal.returns
returns c =
    let lobby = c.well_formed.1.0.1.1.1.1.1.1.0 in
    let full : Full c.args.o = record { msgs = search lobby } in
    down_did c.args.rows.now c.args.o c.args.i _ c.in-At.ensures.0 c.requires full _ _ _ c.add_output-n.result _ c.without-lobby.result
    c.in-At.ensures.1 c.add_output-n.ensures c.without-lobby.ensures c.plain.ensures
