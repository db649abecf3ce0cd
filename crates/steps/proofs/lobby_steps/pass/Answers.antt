use Rattle.steps.proofs.Held.{Full, offer_refused}
use Rattle.steps.proofs.LobbySteps.{pass_did}
use Rattle.steps.proofs.lobby_steps.pass.Goals as goal

pub returns-in_default : goal.returns-in_default
returns-in_default c = offer_refused c.args.rows.now c.in_default.ensures c.in_default.is c.refused.ensures

pub returns : goal.returns
returns c =
    let lobby = c.well_formed.1.0.1.1.1.1.1.1.0 in
    let full : Full c.args.o = record { msgs = search lobby } in
    pass_did c.args.rows.now c.args.o c.args.i _ c.in-At.ensures.0 c.requires full _ _ c.args.logging c.new-n.result c.replaced.result
    c.with_copies-lobby.result _ _
    c.in-At.ensures.1 c.new-n.ensures c.replaced.ensures c.with_copies-lobby.ensures c.plain.ensures
