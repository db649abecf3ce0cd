use mathlib.Core.Path.{sym, ◌∙◌}
use borrow.Author.Tests.{leb-true, leb-false}
use Rattle.environments.proofs.Sizes.{size_none, size_next, size_over}
use native.Mathlib.Omega.{arith}
use Rattle.environments.proofs.long.over_long.Goals as goal

pub loop-w-init : goal.loop-w-init
loop-w-init c = (omega arith, size_none c.args.t.of c.args.s.now)

pub returns-then-not-length_within : goal.returns-then-not-length_within
returns-then-not-length_within c =
    let l = c.loop-w in
    let a = c.args in
    let over = leb-false _ 16 (sym c.length_within.ensures ∙ c.if-not-length_within.true) in
    size_over a.t.of a.s.now l.w-index l.n _ c.loop-w-test.true l.invariant.1 c.size_for-n.ensures.0 over

pub loop-w-preserved : goal.loop-w-preserved
loop-w-preserved c =
    let l = c.loop-w in
    let a = c.args in
    let few = leb-true _ 16 (sym c.length_within.ensures ∙ c.if-not-length_within.false) in
    (few, size_next a.t.of a.s.now l.w-index l.n _ c.loop-w-test.true l.invariant.1 c.size_for-n.ensures.0)
