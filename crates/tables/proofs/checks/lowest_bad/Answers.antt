use Rattle.std.proofs.Common.{sym, ◌∙◌}
use Rattle.tables.proofs.FieldLaws.{bad_here, bad_more, bad_none, bad_start}
use Rattle.tables.proofs.checks.lowest_bad.Goals as goal

pub loop-n-init : goal.loop-n-init
loop-n-init g c = λ p t. bad_start p _

pub returns-then-not-is_ok : goal.returns-then-not-is_ok
returns-then-not-is_ok g c =
    let l = c.loop-n in
    λ p t. sym (l.invariant p t ∙ bad_here p _ l.n c.loop-n-test.true (sym (t _ _ _ c.loop-n-test.true c.node_at.ensures c.is_ok.ensures) ∙ c.if-not-is_ok.true))

pub loop-n-preserved : goal.loop-n-preserved
loop-n-preserved g c =
    let l = c.loop-n in
    λ p t. l.invariant p t ∙ bad_more p _ l.n c.loop-n-test.true (sym (t _ _ _ c.loop-n-test.true c.node_at.ensures c.is_ok.ensures) ∙ c.if-not-is_ok.false)

pub returns : goal.returns
returns g c = λ p t. sym (c.loop-n.invariant p t ∙ bad_none p _ c.loop-n.n c.loop-n-test.false)
