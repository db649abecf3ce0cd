-- No name stands twice in the words passed.
use Rattle.values.proofs.Names.{once_other, once_name, twice}
use Rattle.values.proofs.distinct_in.Goals as goal
use Rattle.values.proofs.distinct_in.Goals.{else-w-le63-via-then-w-le63+else-contains, else-w-le63-via-else-w-le63}

pub returns-then-contains : goal.returns-then-contains
returns-then-contains c =
    let l = c.loop-i in
    twice c.args.s.now l.i c.loop-i-test.true l.invariant c.if-w-le63.true _ c.contains.ensures.value c.if-contains.true

pub loop-i-preserved : goal.loop-i-preserved
loop-i-preserved c =
    let s = c.args.s.now in
    let l = c.loop-i in
    let more = c.loop-i-test.true in
    elim c.else-w-le63.branch [
      | else-w-le63-via-then-w-le63+else-contains w ↦ once_name s l.i more l.invariant w.if-w-le63.true _ w.contains.ensures.value w.if-contains.false
      | else-w-le63-via-else-w-le63 w ↦ once_other s l.i more l.invariant w.if-w-le63.false
    ]
