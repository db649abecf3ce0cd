use mathlib.Core.Path.{sym, ◌∙◌}
use mathlib.Core.Bool.{false≢true}
use Rattle.values.proofs.Lists.{unmap}
use Rattle.steps.proofs.Held.{Full, lobby_cap}
use Rattle.steps.proofs.CopyLaws.{few_copies}
use Rattle.steps.proofs.LobbySteps.{arrived_is, not_arrived, pass_past, pass_not, pass_other, pass_last}
use native.Mathlib.Omega.{arith}
use Rattle.steps.proofs.lobby_steps.pass_offer.Goals as goal
use Rattle.steps.proofs.lobby_steps.pass_offer.Goals.{in-Arrived, in_default, then-not-matches-via-then-not-matches, then-not-matches-via-else-not-matches+then-m-ne1}

pub returns-then-o-i : goal.returns-then-o-i
returns-then-o-i c =
    let full : Full c.args.o = record { msgs = search unmap } in
    pass_past c.args.rows.now c.args.o c.args.i c.requires full c.args.logging c.if-o-i.true

pub offset_bounds-o-i : goal.offset_bounds-o-i
offset_bounds-o-i c = omega (arith, lobby_cap c.args.rows.now c.args.o c.requires)

pub bounds-o-i : goal.bounds-o-i
bounds-o-i c = omega (arith, lobby_cap c.args.rows.now c.args.o c.requires)

pub returns-then-not-matches : goal.returns-then-not-matches
returns-then-not-matches c =
    let full : Full c.args.o = record { msgs = search unmap } in
    elim c.then-not-matches.branch [
      | then-not-matches-via-then-not-matches v ↦ elim c.match-matches.branch [
        | in-Arrived w ↦ absurd (false≢true (sym v.if-not-matches.true ∙ w.matches-is))
        | in_default w ↦ pass_not c.args.rows.now c.args.o c.args.i c.requires full _ c.if-o-i.false c.args.logging (not_arrived _ w.in_default.not-Arrived)
      ]
      | then-not-matches-via-else-not-matches+then-m-ne1 v ↦
          pass_other c.args.rows.now c.args.o c.args.i c.requires full _ c.if-o-i.false c.args.logging v.if-m-ne1.true
    ]

pub lobby_offer-requires : goal.lobby_offer-requires
lobby_offer-requires c = (lobby_cap c.args.rows.now c.args.o c.requires, omega (arith, few_copies c.args.logging _ c.copies.ensures))

pub returns : goal.returns
returns c =
    let full : Full c.args.o = record { msgs = search unmap } in
    elim c.match-matches.branch [
      | in-Arrived w ↦ pass_last c.args.rows.now c.args.o c.args.i c.requires full _ c.if-o-i.false c.args.logging (arrived_is _ w.in-Arrived.is) c.if-m-ne1.false
          _ c.lobby_offer.result c.copies.ensures c.lobby_offer.ensures
      | in_default w ↦ absurd (false≢true (sym w.matches-is ∙ c.if-not-matches.false))
    ]
