use Rattle.wrappers.proofs.Described.{first_source, other_j, other_taker, no_source}
use Rattle.wrappers.proofs.source_of.Goals.{else-w-eq2-via-then-w-eq2+then-n-eq2+else-j-eq0, else-w-eq2-via-then-w-eq2+else-n-eq2, else-w-eq2-via-else-w-eq2}
use Rattle.wrappers.proofs.source_of.Goals as goal

pub returns-then-j-eq0 : goal.returns-then-j-eq0
returns-then-j-eq0 c = let a = c.args in first_source a.w c.if-w-eq2.true a.n c.if-n-eq2.true a.j c.if-j-eq0.true

pub returns-else-w-eq2 : goal.returns-else-w-eq2
returns-else-w-eq2 c =
    let a = c.args in
    elim c.else-w-eq2.branch [
      | else-w-eq2-via-then-w-eq2+then-n-eq2+else-j-eq0 w ↦ other_j a.w w.if-w-eq2.true a.n w.if-n-eq2.true a.j w.if-j-eq0.false
      | else-w-eq2-via-then-w-eq2+else-n-eq2 w ↦ other_taker a.w w.if-w-eq2.true a.n w.if-n-eq2.false a.j
      | else-w-eq2-via-else-w-eq2 w ↦ no_source a.w w.if-w-eq2.false a.n a.j
    ]
