-- A line behind an S line is at fault, and one that adds nothing.
use mathlib.Core.Logic.{⊎_elim}
use native.Mathlib.Omega.{arith}
use Rattle.reading.proofs.TestLaws.{inside, below, above}
use Rattle.reading.proofs.SideLaws.{v_late, v_fault, v_taken}
use Rattle.reading.proofs.lines.on_v.Goals as goal

pub returns-then-p-eq0 : goal.returns-then-p-eq0
returns-then-p-eq0 c =
    let r = c.args.p.rank in
    let late = ⊎_elim (λ e. below 1 3 r (omega (arith, e))) (λ e. above 1 3 r e.1) c.then-p-eq0.either in
    λ x y i old e h. v_late i _ old _ e h _ late

pub returns-in_err-counts : goal.returns-in_err-counts
returns-in_err-counts c = λ x y i old e h. rw (c.from_residual.ensures) (v_fault i _ old _ e h _ _ c.in_err-counts.ensures)

pub returns : goal.returns
returns c =
    let ranked = inside 1 3 c.args.p.rank (omega (arith, c.if-p-eq0.false)) c.if-p-gt3.false in
    λ x y i old e h. v_taken i _ old _ e h _ _ _ ranked c.in_ok-counts.ensures
