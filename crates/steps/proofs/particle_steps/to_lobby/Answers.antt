use mathlib.Core.Path.{ap, ◌∙◌}
use Prim.Native.Nat.{ℕ, ◌<◌}
use lib.ListN.{get_or}
use Rattle.values.proofs.Lists.{unmap}
use Rattle.sides.specs.Layout.{row_at}
use Rattle.steps.specs.Asked.{channel_in}
use Rattle.steps.proofs.Held.{Full, rows_cap, lobby_cap, value_in_place, said_refused}
use Rattle.steps.proofs.ParticleSteps.{lobby_did, lobby_same, lobby_full}
use native.Mathlib.Omega.{arith}
use borrow.Author.Rules.{rules}
use Rattle.steps.proofs.particle_steps.to_lobby.Goals as goal

pub returns-in_default : goal.returns-in_default
returns-in_default c =
    let full : Full c.args.o = record { msgs = search unmap } in
    let no = c.in_default.ensures in
    let says = said_refused c.in_default.is c.refused.ensures in
    λ s e. lobby_full c.args.rows.now c.args.o c.args.i c.requires.0 s _ _ no.0 says (channel_in c.args.rows.now c.args.i) e full (λ room. no.1 (omega (arith, room)))

pub lobby_offer-a-requires : goal.lobby_offer-a-requires
lobby_offer-a-requires c = (lobby_cap c.args.rows.now c.args.o c.requires.0, omega arith)

pub word_at-ch-requires : goal.word_at-ch-requires
word_at-ch-requires c =
    let same = c.in-At.ensures.0 in
    (c.requires.0.long, omega (arith, same, c.requires.1, rows_cap c.args.rows.now c.args.o c.requires.0), search rules)

pub value_at-requires : goal.value_at-requires
value_at-requires c =
    let same = c.in-At.ensures.0 in
    let held : c.in-At.k < c.args.o.particles = omega (arith, same, c.requires.1) in
    let is = ap (λ (k : ℕ). get_or (row_at c.args.rows.now k) 0 0) same ∙ c.requires.2 in
    (c.requires.0.long, omega (arith, held, rows_cap c.args.rows.now c.args.o c.requires.0), search rules, value_in_place c.args.rows.now c.args.o c.requires.0 _ held is)

pub remove_row-n-requires : goal.remove_row-n-requires
remove_row-n-requires c =
    let same = c.in-At.ensures.0 in
    (c.requires.0.long, omega (arith, same, c.requires.1), rows_cap c.args.rows.now c.args.o c.requires.0)

pub returns : goal.returns
returns c =
    let lobby = c.well_formed.1.0.1.1.1.1.1.1.0 in
    let full : Full c.args.o = record { msgs = search lobby } in
    let same = c.in-At.ensures.0 in
    let room = c.in-At.ensures.1 in
    let held : c.in-At.k < c.args.o.particles = omega (arith, same, c.requires.1) in
    let is = ap (λ (k : ℕ). get_or (row_at c.args.rows.now k) 0 0) same ∙ c.requires.2 in
    λ s e.
    lobby_same c.args.rows.now c.args.o s _ _ c.args.i _ same
    (λ off. lobby_did c.args.rows.now c.args.o _ c.requires.0 held is _ s c.value_at.result c.value_at.ensures _ c.remove_row-n.result
    _ c.new-m.result c.with.result _ off full (omega (arith, room))
    c.word_at-ch.ensures c.new-m.ensures c.remove_row-n.ensures c.with.ensures
    c.plain.ensures) e
