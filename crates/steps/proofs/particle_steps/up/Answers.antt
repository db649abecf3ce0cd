use mathlib.Core.Path.{◌≡◌, sym, ◌∙◌}
use mathlib.Core.Bool.{false}
use borrow.Author.Tests.{ne_eqb}
use Rattle.steps.specs.Asked.{with_shelf, channel_in, goes_to_shelf}
use Rattle.steps.proofs.Settling.{no_left, no_right}
use Rattle.steps.proofs.Settings.{shelf_is}
use Rattle.steps.proofs.Held.{rows_cap, output_home, offer_refused}
use Rattle.steps.proofs.ParticleSteps.{up_box, up_lobby, up_shelf}
use native.Mathlib.Omega.{arith}
use borrow.Author.Rules.{rules}
use Rattle.steps.proofs.particle_steps.up.Goals as goal
use Rattle.steps.proofs.particle_steps.up.Goals.{else-shelving-via-then-shelving+else-word_at-eq2, else-shelving-via-else-shelving}

pub returns-in_default : goal.returns-in_default
returns-in_default c = offer_refused c.args.rows.now (c.in_default.ensures (with_shelf c.args.shelving)) c.in_default.is c.refused.ensures

pub word_at-b-requires : goal.word_at-b-requires
word_at-b-requires c =
    let w = c.in-At.ensures (with_shelf false) in
    (c.requires.long, omega (arith, w.1.held, rows_cap c.args.rows.now c.args.o c.requires), search rules)

pub to_box-requires : goal.to_box-requires
to_box-requires c =
    let l = c.args.rows.now in
    let o = c.args.o in
    let w = c.in-At.ensures (with_shelf false) in
    let home = output_home l o c.requires _ w.1.held w.1.is in
    (c.requires, w.1.held, w.1.is, c.if-b-gt0.true, omega (arith, home, c.word_at-b.ensures))

pub returns-then-b-gt0 : goal.returns-then-b-gt0
returns-then-b-gt0 c =
    let s = with_shelf c.args.shelving in
    let w = c.in-At.ensures s in
    up_box c.args.rows.now c.args.o c.args.i _ w.0 c.requires s _ _ w.1 _ c.word_at-b.ensures (c.to_box.ensures s)

pub word_at-requires : goal.word_at-requires
word_at-requires c =
    let w = c.in-At.ensures (with_shelf false) in
    (c.requires.long, omega (arith, w.1.held, rows_cap c.args.rows.now c.args.o c.requires), search rules)

pub to_shelf-requires : goal.to_shelf-requires
to_shelf-requires c = let w = c.in-At.ensures (with_shelf false) in (c.requires, w.1.held, w.1.is)

pub returns-then-word_at-eq2 : goal.returns-then-word_at-eq2
returns-then-word_at-eq2 c =
    let s = with_shelf c.args.shelving in
    let w = c.in-At.ensures s in
    let on = shelf_is c.args.shelving ∙ c.if-shelving.true in
    up_shelf c.args.rows.now c.args.o c.args.i _ w.0 c.requires s _ _ w.1 _ c.word_at-b.ensures c.if-b-gt0.false
    (sym c.word_at.ensures ∙ c.if-word_at-eq2.true) (c.to_shelf.ensures s on)

pub to_lobby-requires : goal.to_lobby-requires
to_lobby-requires c = let w = c.in-At.ensures (with_shelf false) in (c.requires, w.1.held, w.1.is)

pub returns : goal.returns
returns c =
    let s = with_shelf c.args.shelving in
    let w = c.in-At.ensures s in
    let off : goes_to_shelf s (channel_in c.args.rows.now c.in-At.k) ≡ false =
    elim c.else-shelving.branch [
      | else-shelving-via-then-shelving+else-word_at-eq2 v ↦ no_right _ _ (ne_eqb _ _ (λ z. v.if-word_at-eq2.false (v.word_at.ensures ∙ z)))
      | else-shelving-via-else-shelving v ↦ no_left _ _ (shelf_is c.args.shelving ∙ v.if-shelving.false)
    ] in
    up_lobby c.args.rows.now c.args.o c.args.i _ w.0 c.requires s _ _ w.1 _ c.word_at-b.ensures c.if-b-gt0.false (c.to_lobby.ensures s off)
