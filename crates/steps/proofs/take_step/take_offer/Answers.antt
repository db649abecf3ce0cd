use mathlib.Core.Path.{ap, sym, ◌∙◌}
use mathlib.Core.Bool.{false}
use Prim.Native.Nat.{ℕ}
use lib.ListN.{get_or}
use Rattle.values.proofs.Lists.{unmap}
use Rattle.steps.proofs.Held.{Full, lobby_cap}
use Rattle.steps.proofs.EnterSteps.{take_past, taken_in, shelf_in, take_again, take_last}
use native.Mathlib.Omega.{arith}
use Rattle.steps.proofs.take_step.take_offer.Goals as goal

pub returns-then-shelved-i : goal.returns-then-shelved-i
returns-then-shelved-i c =
    let full : Full c.args.o = record { msgs = search unmap } in
    let a = c.args in
    take_past a.rows.now a.o a.source a.shelf.now a.shelved a.i c.requires.0 full c.requires.1 c.if-shelved-i.true

pub taken_at-requires : goal.taken_at-requires
taken_at-requires c =
    let full : Full c.args.o = record { msgs = search unmap } in
    let a = c.args in
    let held = shelf_in a.rows.now a.o a.source a.shelf.now a.shelved a.i c.requires.0 full c.requires.1 c.if-shelved-i.false in
    (c.requires.1.first, omega (arith, c.requires.1.last), held)

pub bounds-o-taken_at : goal.bounds-o-taken_at
bounds-o-taken_at c =
    let full : Full c.args.o = record { msgs = search unmap } in
    let a = c.args in
    omega (arith, c.taken_at.ensures, taken_in a.rows.now a.o a.source a.shelf.now a.shelved a.i c.requires.0 full c.requires.1 c.if-shelved-i.false)

pub returns-then-o-taken_at : goal.returns-then-o-taken_at
returns-then-o-taken_at c =
    let full : Full c.args.o = record { msgs = search unmap } in
    let a = c.args in
    let taken = sym (ap (λ (k : ℕ). get_or a.o.taken k false) c.taken_at.ensures) ∙ c.if-o-taken_at.true in
    take_again a.rows.now a.o a.source a.shelf.now a.shelved a.i c.requires.0 full c.requires.1 c.if-shelved-i.false taken

pub lobby_offer-requires : goal.lobby_offer-requires
lobby_offer-requires c = (lobby_cap c.args.rows.now c.args.o c.requires.0, omega arith)

pub returns : goal.returns
returns c =
    let full : Full c.args.o = record { msgs = search unmap } in
    let a = c.args in
    let fresh = sym (ap (λ (k : ℕ). get_or a.o.taken k false) c.taken_at.ensures) ∙ c.if-o-taken_at.false in
    take_last a.rows.now a.o a.source a.shelf.now a.shelved a.i c.requires.0 full c.requires.1 c.if-shelved-i.false fresh
    c.lobby_offer.result c.lobby_offer.ensures
