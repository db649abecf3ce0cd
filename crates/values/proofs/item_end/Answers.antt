-- The item at place i ends where the n items from place j on end. At least as many words are left as items are still to come.
use mathlib.Core.Path.{◌≡◌, sym, ◌∙◌}
use native.Mathlib.Omega.{arith}
use borrow.Author.Tests.{leb-true}
use Rattle.model.proofs.Basics.Tests.{fst}
use Rattle.values.proofs.Spans.{span_none, span_short, span_leaf, span_tuple, span_bad}
use Rattle.values.proofs.item_end.Goals as goal

pub returns-then-s-i : goal.returns-then-s-i
returns-then-s-i c = sym (span_short _ _ _ _ (omega arith))

pub loop-n-preserved-then-is_leaf : goal.loop-n-preserved-then-is_leaf
loop-n-preserved-then-is_leaf c =
    let l = c.loop-n in
    let leaf = sym c.is_leaf.ensures ∙ c.if-is_leaf.true in
    (omega arith, l.invariant.1 ∙ span_leaf _ _ l.j l.n (omega arith) (omega arith) leaf)

pub overflow_sub-k : goal.overflow_sub-k
overflow_sub-k c = leb-true _ _ (fst _ _ (sym c.is_tuple.ensures ∙ c.if-not-is_tuple.false))

pub returns-then-s-j : goal.returns-then-s-j
returns-then-s-j c =
    let l = c.loop-n in
    let other = sym c.is_leaf.ensures ∙ c.if-is_leaf.false in
    let tuple = sym c.is_tuple.ensures ∙ c.if-not-is_tuple.false in
    sym (l.invariant.1 ∙ span_tuple _ _ l.j l.n (omega arith) (omega arith) other tuple ∙ span_short _ _ _ _ (omega arith))

pub loop-n-preserved : goal.loop-n-preserved
loop-n-preserved c =
    let l = c.loop-n in
    let other = sym c.is_leaf.ensures ∙ c.if-is_leaf.false in
    let tuple = sym c.is_tuple.ensures ∙ c.if-not-is_tuple.false in
    (omega arith, l.invariant.1 ∙ span_tuple _ _ l.j l.n (omega arith) (omega arith) other tuple)

pub returns-then-not-is_tuple : goal.returns-then-not-is_tuple
returns-then-not-is_tuple c =
    let l = c.loop-n in
    let other = sym c.is_leaf.ensures ∙ c.if-is_leaf.false in
    sym (l.invariant.1 ∙ span_bad _ _ l.j l.n (omega arith) (omega arith) other (sym c.is_tuple.ensures ∙ c.if-not-is_tuple.true))

pub returns : goal.returns
returns c =
    let l = c.loop-n in
    let none : l.n ≡ 0 = omega arith in
    sym (l.invariant.1 ∙ rw none (span_none _ _ _))
