use mathlib.Core.Path.{sym, ◌∙◌}
use Rattle.values.proofs.Lists.{unmap}
use Rattle.steps.proofs.Held.{Full, lobby_cap}
use Rattle.steps.proofs.CopyLaws.{few_copies}
use Rattle.steps.proofs.EnterSteps.{enter_no_value, enter_unknown, enter_last}
use native.Mathlib.Omega.{arith}
use Rattle.steps.proofs.enter_step.enter_offer.Goals as goal

pub returns-then-not-is_value : goal.returns-then-not-is_value
returns-then-not-is_value c =
    let a = c.args in
    enter_no_value a.rows.now a.o a.logging a.marks.now a.words.now c.requires.0 (sym c.is_value.ensures ∙ c.if-not-is_value.true)

pub returns-then-not-all_may_enter : goal.returns-then-not-all_may_enter
returns-then-not-all_may_enter c =
    let a = c.args in
    let value = sym c.is_value.ensures ∙ c.if-not-is_value.false in
    enter_unknown a.rows.now a.o a.logging a.marks.now a.words.now c.requires.0 value (sym c.all_may_enter.ensures ∙ c.if-not-all_may_enter.true)

pub overflow_add-copies : goal.overflow_add-copies
overflow_add-copies c = omega (arith, few_copies c.args.logging _ c.copies.ensures)

pub lobby_offer-requires : goal.lobby_offer-requires
lobby_offer-requires c = (lobby_cap c.args.rows.now c.args.o c.requires.0, omega (arith, few_copies c.args.logging _ c.copies.ensures))

pub returns : goal.returns
returns c =
    let full : Full c.args.o = record { msgs = search unmap } in
    let a = c.args in
    let value = sym c.is_value.ensures ∙ c.if-not-is_value.false in
    let names = sym c.all_may_enter.ensures ∙ c.if-not-all_may_enter.false in
    enter_last a.rows.now a.o a.logging a.marks.now a.words.now c.requires.0 full value names _ c.lobby_offer.result
    c.copies.ensures c.lobby_offer.ensures
