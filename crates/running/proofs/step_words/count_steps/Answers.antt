use mathlib.Core.Path.{◌≡◌, sym, ◌∙◌}
use native.Mathlib.Omega.{arith}
use Rattle.std.specs.Prelude.{Some}
use Rattle.execution.specs.Execution.{record_end}
use Rattle.execution.proofs.RecordEnds.{found_end}
use Rattle.running.proofs.RunLaws.{plus_none, count_next, count_broken, count_end}
use Rattle.running.proofs.step_words.count_steps.Goals as goal
use Rattle.running.proofs.step_words.count_steps.Goals.{In_ok-p}

found : (c : In_ok-p) → record_end 4 c.args.steps.now c.loop-p.p ≡ Some c.in_ok-p.p
found c = sym c.record_end.ensures ∙ c.in_ok-p.was

pub loop-p-init : goal.loop-p-init
loop-p-init c = (omega arith, omega arith, plus_none _)

pub returns-in_err-p : goal.returns-in_err-p
returns-in_err-p c =
    let l = c.loop-p in
    c.from_residual.ensures ∙ count_broken _ l.p l.n _ c.loop-p-test.true (sym c.record_end.ensures ∙ c.in_err-p.was) l.invariant.2

pub loop-p-smaller : goal.loop-p-smaller
loop-p-smaller c =
    let at = found_end _ _ _ _ (found c) in
    omega (arith, at.0, at.1)

pub loop-p-preserved : goal.loop-p-preserved
loop-p-preserved c =
    let l = c.loop-p in
    let at = found_end _ _ _ _ (found c) in
    (omega (arith, at.0, at.1), omega (arith, at.0, l.invariant.1), count_next _ l.p l.n _ _ (found c) l.invariant.2)

pub returns : goal.returns
returns c = let l = c.loop-p in count_end _ l.p l.n _ c.loop-p-test.false l.invariant.2
