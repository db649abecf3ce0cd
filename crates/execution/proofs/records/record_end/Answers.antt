use mathlib.Core.Path.{sym}
use native.Mathlib.Omega.{arith}
use Rattle.execution.proofs.RecordEnds.{ends_at, breaks_off_lem}
use Rattle.execution.proofs.records.record_end.Goals as goal

pub returns-then-saturating_sub-before : goal.returns-then-saturating_sub-before
returns-then-saturating_sub-before c =
    let a = c.args in
    sym (breaks_off_lem a.before a.list.now a.p (omega (arith, c.if-saturating_sub-before.true, c.saturating_sub.ensures)))

pub returns-then-len-at : goal.returns-then-len-at
returns-then-len-at c =
    let a = c.args in
    sym (breaks_off_lem a.before a.list.now a.p (omega (arith, c.if-len-at.true)))

pub returns : goal.returns
returns c =
    let a = c.args in
    sym (ends_at a.before a.list.now a.p (omega (arith, c.if-len-at.false)))
