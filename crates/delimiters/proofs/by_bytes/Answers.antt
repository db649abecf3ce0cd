-- The bytes up to a place are neither a tab nor a newline.
use mathlib.Core.Path.{sym, ◌∙◌}
use native.Mathlib.Numerals.{add-one}
use Rattle.delimiters.proofs.SearchLaws.{past, here, later, is_tab, is_newline, is_neither}
use Rattle.delimiters.proofs.by_bytes.Goals as goal
use Rattle.delimiters.proofs.by_bytes.Goals.{then-s-at-eq9-via-then-s-at-eq9, then-s-at-eq9-via-else-s-at-eq9+then-s-at-eq10}

pub returns-then-s-at-eq9 : goal.returns-then-s-at-eq9
returns-then-s-at-eq9 c =
    let l = c.loop-at in
    sym (l.invariant ∙ here l.at _ c.loop-at-test.true (elim c.then-s-at-eq9.branch [
      | then-s-at-eq9-via-then-s-at-eq9 w ↦ is_tab _ w.if-s-at-eq9.true
      | then-s-at-eq9-via-else-s-at-eq9+then-s-at-eq10 w ↦ is_newline _ w.if-s-at-eq10.true
    ]))

pub loop-at-preserved : goal.loop-at-preserved
loop-at-preserved c =
    let l = c.loop-at in
    rw add-one (l.invariant ∙ later l.at _ c.loop-at-test.true (is_neither _ c.if-s-at-eq9.false c.if-s-at-eq10.false))

pub returns : goal.returns
returns c = sym (c.loop-at.invariant ∙ past c.loop-at.at _ c.loop-at-test.false)
