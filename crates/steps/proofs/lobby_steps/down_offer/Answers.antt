use mathlib.Core.Path.{refl, sym, ◌∙◌}
use mathlib.Core.Bool.{false≢true}
use Rattle.values.proofs.Lists.{unmap}
use Rattle.steps.proofs.Held.{Full, none_more, one_more, rows_cap, lobby_cap}
use Rattle.steps.proofs.LobbySteps.{down_is, not_down, down_past, down_not, down_full, down_may}
use native.Mathlib.Omega.{arith}
use Rattle.steps.proofs.lobby_steps.down_offer.Goals as goal
use Rattle.steps.proofs.lobby_steps.down_offer.Goals.{in-Down, in_default}

pub returns-then-o-i : goal.returns-then-o-i
returns-then-o-i c =
    let full : Full c.args.o = record { msgs = search unmap } in
    down_past c.args.rows.now c.args.o c.args.i c.requires full c.if-o-i.true

pub offset_bounds-o-i : goal.offset_bounds-o-i
offset_bounds-o-i c = omega (arith, lobby_cap c.args.rows.now c.args.o c.requires)

pub bounds : goal.bounds
bounds c = omega (arith, lobby_cap c.args.rows.now c.args.o c.requires)

pub returns-then-not-matches : goal.returns-then-not-matches
returns-then-not-matches c =
    let full : Full c.args.o = record { msgs = search unmap } in
    elim c.match-matches.branch [
      | in-Down w ↦ absurd (false≢true (sym c.if-not-matches.true ∙ w.matches-is))
      | in_default w ↦ down_not c.args.rows.now c.args.o c.args.i c.requires full _ c.if-o-i.false (not_down _ w.in_default.not-Down)
    ]

pub overflow_add-o : goal.overflow_add-o
overflow_add-o c = omega (arith, rows_cap c.args.rows.now c.args.o c.requires)

pub returns-then-not-particles_within : goal.returns-then-not-particles_within
returns-then-not-particles_within c =
    let full : Full c.args.o = record { msgs = search unmap } in
    elim c.match-matches.branch [
      | in-Down w ↦ down_full c.args.rows.now c.args.o c.args.i c.requires full _ c.if-o-i.false (down_is _ w.in-Down.is)
          (none_more _ 32 _ c.particles_within.ensures c.if-not-particles_within.true)
      | in_default w ↦ absurd (false≢true (sym w.matches-is ∙ c.if-not-matches.false))
    ]

pub returns : goal.returns
returns c =
    let full : Full c.args.o = record { msgs = search unmap } in
    elim c.match-matches.branch [
      | in-Down w ↦ (
        refl,
        down_may c.args.rows.now c.args.o c.args.i c.requires full _ c.if-o-i.false (down_is _ w.in-Down.is)
            (one_more _ 32 _ c.particles_within.ensures c.if-not-particles_within.false),
      )
      | in_default w ↦ absurd (false≢true (sym w.matches-is ∙ c.if-not-matches.false))
    ]
