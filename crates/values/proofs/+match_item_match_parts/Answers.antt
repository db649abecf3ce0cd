-- The mutual pair that matches an item of a pattern and the remaining parts of a tuple. What is left of the pattern falls.
use mathlib.Core.Path.{◌≡◌, sym, ◌∙◌}
use native.Mathlib.Omega.{arith}
use borrow.Author.Rules.{rules}
use borrow.Author.Tests.{leb-true}
use lib.ListN.{length}
use Rattle.model.proofs.Basics.Tests.{fst}
use Rattle.values.proofs.Lists.{unmap}
use Rattle.values.proofs.Spans.{end_is}
use Rattle.values.proofs.Matches.{got, got_none, fit_no, fit_yes, parts_none, parts_more, parts_stop, item_short, item_tuple, item_other, item_over, item_name, item_wild, item_falls}
use Rattle.values.proofs.+match_item_match_parts.Goals as goal
use Rattle.values.proofs.+match_item_match_parts.Goals.{match_item-then-w-le63, match_item-else-w-le63}

pub match_item-returns-in_err-w : goal.match_item-returns-in_err-w
match_item-returns-in_err-w t c =
    let a = c.args in
    rw c.from_residual.ensures (item_short _ _ a.i a.j a.b (got_none _ _ c.in_err-w.ensures.lookup))

pub match_item-returns-in_err-get : goal.match_item-returns-in_err-get
match_item-returns-in_err-get t c =
    let a = c.args in
    let word = got _ a.i c.in_ok-w.field-0 c.in_ok-w.ensures.lookup in
    let tuple = sym c.is_tuple.ensures ∙ c.if-is_tuple.true in
    rw c.from_residual-in_err-get.ensures (item_over _ _ a.i a.j a.b _ word tuple (got_none _ _ c.in_err-get.ensures.lookup))

pub match_item-returns-then-branch-w : goal.match_item-returns-then-branch-w
match_item-returns-then-branch-w t c =
    let a = c.args in
    let word = got _ a.i c.in_ok-w.field-0 c.in_ok-w.ensures.lookup in
    let tuple = sym c.is_tuple.ensures ∙ c.if-is_tuple.true in
    let other = got _ a.j c.in_ok-get.field-0 c.in_ok-get.ensures.lookup in
    item_other _ _ a.i a.j a.b _ word tuple _ other c.if-branch-w.true

pub match_item-overflow_sub-w : goal.match_item-overflow_sub-w
match_item-overflow_sub-w t c = leb-true _ _ (fst _ _ (sym c.is_tuple.ensures ∙ c.if-is_tuple.true))

pub match_item-returns-then-is_tuple : goal.match_item-returns-then-is_tuple
match_item-returns-then-is_tuple t c =
    let a = c.args in
    let word = got _ a.i c.in_ok-w.field-0 c.in_ok-w.ensures.lookup in
    let tuple = sym c.is_tuple.ensures ∙ c.if-is_tuple.true in
    let same = got _ a.j c.in_ok-get.field-0 c.in_ok-get.ensures.lookup in
    item_tuple _ _ a.i a.j a.b _ word tuple _ same c.if-branch-w.false _ c.match_parts.ensures

pub match_item-overflow_sub-e : goal.match_item-overflow_sub-e
match_item-overflow_sub-e t c = (end_is _ _ _ c.value_end-e.ensures).above

pub match_item-returns : goal.match_item-returns
match_item-returns t c =
    let a = c.args in
    let full : length a.b.rows ≡ 8 = search (rules, unmap) in
    let word = got _ a.i c.in_ok-w.field-0 c.in_ok-w.ensures.lookup in
    let leaf = sym c.is_tuple.ensures ∙ c.if-is_tuple.false in
    let end = end_is _ _ _ c.value_end-e.ensures in
    elim c.if-w-le63.branch [
      | match_item-then-w-le63 w ↦ rw w.bound-is (item_name _ _ a.i a.j a.b _ word leaf _ end w.if-w-le63.true _ (w.push-bound.ensures _))
      | match_item-else-w-le63 w ↦ rw w.bound-is (item_wild _ _ a.i a.j a.b _ word leaf _ end w.if-w-le63.false full)
    ]

pub match_parts-returns-then-k-eq0 : goal.match_parts-returns-then-k-eq0
match_parts-returns-then-k-eq0 t c =
    let a = c.args in
    let full : length a.b.rows ≡ 8 = search (rules, unmap) in
    parts_none _ _ a.i a.j _ a.b full c.if-k-eq0.true

pub match_parts-returns-in_err-m : goal.match_parts-returns-in_err-m
match_parts-returns-in_err-m t c =
    let no = fit_no c.args.p.now c.args.v.now in
    rw c.from_residual.ensures (no ∙ sym (parts_stop _ _ _ _ _ c.if-k-eq0.false (sym c.in_err-m.ensures ∙ no)))

pub match_parts-match_parts-requires : goal.match_parts-match_parts-requires
match_parts-match_parts-requires t c =
    let a = c.args in
    let f = item_falls a.p.now a.v.now c.in_ok-m.m a.i _ _ c.in_ok-m.ensures in
    (omega (arith, f), search rules)

pub match_parts-returns : goal.match_parts-returns
match_parts-returns t c =
    let first = sym c.in_ok-m.ensures ∙ fit_yes _ _ c.in_ok-m.m in
    c.match_parts.ensures ∙ sym (parts_more _ _ _ _ _ c.if-k-eq0.false first)
