use mathlib.Core.Path.{refl, sym, ◌∙◌}
use mathlib.Core.Bool.{false≢true}
use Rattle.values.proofs.Lists.{unmap}
use Rattle.steps.proofs.Held.{Full, lobby_cap}
use Rattle.steps.proofs.LobbySteps.{leaving_is, not_leaving, leave_past, leave_not, leave_may}
use native.Mathlib.Omega.{arith}
use Rattle.steps.proofs.lobby_steps.leave_offer.Goals as goal
use Rattle.steps.proofs.lobby_steps.leave_offer.Goals.{in-Leaving, in_default}

pub returns-then-o-i : goal.returns-then-o-i
returns-then-o-i c =
    let full : Full c.args.o = record { msgs = search unmap } in
    leave_past c.args.rows.now c.args.o c.args.i c.requires full c.if-o-i.true

pub offset_bounds-o-i : goal.offset_bounds-o-i
offset_bounds-o-i c = omega (arith, lobby_cap c.args.rows.now c.args.o c.requires)

pub bounds : goal.bounds
bounds c = omega (arith, lobby_cap c.args.rows.now c.args.o c.requires)

pub returns-then-not-matches : goal.returns-then-not-matches
returns-then-not-matches c =
    let full : Full c.args.o = record { msgs = search unmap } in
    elim c.match-matches.branch [
      | in-Leaving w ↦ absurd (false≢true (sym c.if-not-matches.true ∙ w.matches-is))
      | in_default w ↦ leave_not c.args.rows.now c.args.o c.args.i c.requires full _ c.if-o-i.false (not_leaving _ w.in_default.not-Leaving)
    ]

pub returns : goal.returns
returns c =
    let full : Full c.args.o = record { msgs = search unmap } in
    elim c.match-matches.branch [
      | in-Leaving w ↦ (refl, leave_may c.args.rows.now c.args.o c.args.i c.requires full _ c.if-o-i.false (leaving_is _ w.in-Leaving.is))
      | in_default w ↦ absurd (false≢true (sym w.matches-is ∙ c.if-not-matches.false))
    ]
