use Rattle.std.proofs.Common.{rules, ◌≡◌, sym, ◌∙◌, Err}
use Rattle.tables.specs.Nodes.{table}
use Rattle.tables.proofs.CheckLaws.{passed}
use Rattle.loading.proofs.Faults.{root_in, side_bad, side_good, side_seven, start_within}
use native.Mathlib.Omega.{arith}
use Rattle.loading.proofs.verdicts.side_verdict.Goals as goal

pub returns-in_err-check : goal.returns-in_err-check
returns-in_err-check c =
    let t = table c.args.nodes.now c.args.pool.now in
    let r : c.from_residual.result ≡ Err c.in_err-check.field-0.0 = search rules in
    λ i. rw r (side_bad i t c.check.result _ c.check.ensures c.in_err-check.was)

pub unfolded_at-u-requires : goal.unfolded_at-u-requires
unfolded_at-u-requires c =
    let t = table c.args.nodes.now c.args.pool.now in
    let p = passed t c.check.result _ c.check.ensures c.in_ok-check.was in
    (p, root_in t p)

pub overflow_add-u : goal.overflow_add-u
overflow_add-u c = omega (arith, c.unfolded_at-u.ensures.0.boxes)

pub returns-then-contents_within : goal.returns-then-contents_within
returns-then-contents_within c =
    let t = table c.args.nodes.now c.args.pool.now in
    let p = passed t c.check.result _ c.check.ensures c.in_ok-check.was in
    let u = c.unfolded_at-u in
    λ i. side_good i t p (start_within i t u.result u.ensures.1 ∙ sym c.contents_within.ensures ∙ c.if-contents_within.true)

pub returns-else-contents_within : goal.returns-else-contents_within
returns-else-contents_within c =
    let t = table c.args.nodes.now c.args.pool.now in
    let p = passed t c.check.result _ c.check.ensures c.in_ok-check.was in
    let u = c.unfolded_at-u in
    λ i. side_seven i t p (start_within i t u.result u.ensures.1 ∙ sym c.contents_within.ensures ∙ c.if-contents_within.false)
