-- `writing::answered` meets its contract. The loop's invariant: the lines of the first k answers are written.
use mathlib.Core.Path.{◌≡◌, sym, ◌∙◌}
use Rattle.writing.proofs.WrittenLaws.{nothing, joined, spelled, paged}
use Rattle.writing.proofs.AnswerLaws.{lines_none, lines_more, answered_few, answered_many}
use borrow.Author.Rules.{rules}
use native.Mathlib.Omega.{arith}
use Rattle.writing.proofs.answered.Goals as goal

pub returns-then-n-gt-MOST : goal.returns-then-n-gt-MOST
returns-then-n-gt-MOST c = paged (spelled (answered_many _ _ c.if-n-gt-MOST.true) (nothing _ _)) (omega arith) (omega arith)

pub loop-k-init : goal.loop-k-init
loop-k-init c =
    let a = c.args in
    (search rules, omega (arith, c.put-at.ensures.end), search rules, spelled (sym (lines_none 0 a.answers.now)) (nothing _ _))

pub loop-k-preserved : goal.loop-k-preserved
loop-k-preserved c =
    let l = c.loop-k in
    let line = c.put_line-at.ensures in
    let lines = spelled (lines_more l.k c.args.answers.now) (joined l.invariant.3 line.written) in
    (search rules, omega (arith, line.upper_bound), line.written.same ∙ l.invariant.2, lines)

pub returns : goal.returns
returns c =
    let a = c.args in
    let first = c.put-at.ensures in
    let l = c.loop-k in
    let all : l.k ≡ a.n = omega arith in
    let lines = joined first l.invariant.3 in
    paged (spelled (answered_few a.n a.answers.now (search rules)) (rw all at lines)) (search rules) (omega arith)
