-- The state behind all steps is that behind the steps from here on; the state is what is lent.
use mathlib.Core.Path.{◌≡◌, refl, sym, ◌∙◌}
use mathlib.Core.List.{map}
use native.Mathlib.Omega.{arith}
use Rattle.std.specs.Prelude.{Some, None}
use Rattle.model.specs.Load.{Composition}
use Rattle.model.proofs.Formed.Starts.{starts}
use Rattle.wrappers.specs.Compositions.{composition}
use Rattle.execution.specs.Execution.{record_end}
use Rattle.execution.proofs.BeginLaws.{zeros_long}
use Rattle.execution.proofs.RecordEnds.{found_end, stands}
use Rattle.stranding.proofs.EndLaws.{end_next, end_broken, end_all, rests_short, ends_broken, ends_there, ends_loaded}
use Rattle.stranding.proofs.ended_steps.end_loaded.Goals as goal
use Rattle.stranding.proofs.ended_steps.end_loaded.Goals.{In_ok-e}

found : (c : In_ok-e) → record_end 4 c.args.steps.now c.loop-p.p ≡ Some c.in_ok-e.e
found c = sym c.record_end.ensures ∙ c.in_ok-e.was

pub begin_all-standing-requires : goal.begin_all-standing-requires
begin_all-standing-requires c = (c.requires, refl, zeros_long)

pub loop-p-init : goal.loop-p-init
loop-p-init c =
    let loads : Composition = composition c.args.wrapper (map (λ x. x.now) c.args.nodes) (map (λ x. x.now) c.args.pools) in
    let g = c.begin_all-standing.ensures in
    (omega arith, record { lent = g.lent; ready = starts loads _ g.loads; shelved = g.shelved }, refl)

pub make_step-requires : goal.make_step-requires
make_step-requires c = (c.loop-p.invariant.1, stands _ _ _ (found (goal.at.make_step-requires c).In_ok-e))

pub loop-p-smaller : goal.loop-p-smaller
loop-p-smaller c =
    let at = found_end _ _ _ _ (found (goal.at.loop-p-smaller c).In_ok-e) in
    omega (arith, at.0, at.1)

pub loop-p-preserved : goal.loop-p-preserved
loop-p-preserved c =
    let l = c.loop-p in
    let f = found (goal.at.loop-p-preserved c).In_ok-e in
    let at = found_end _ _ _ _ f in
    let made = c.make_step.ensures in
    (omega (arith, at.0, at.1), made.runs, end_next _ _ l.p _ _ l.invariant.2 _ f _ made.after)

pub returns-in_err-e : goal.returns-in_err-e
returns-in_err-e c =
    let l = c.loop-p in
    let broken = end_broken _ _ l.p _ _ l.invariant.2 c.loop-p-test.true (sym c.record_end.ensures ∙ c.in_err-e.was) in
    rw c.from_residual.ensures (ends_loaded _ _ _ c.begin_all-standing.ensures.loads _ None (ends_broken _ _ _ broken))

pub lobby_of-requires : goal.lobby_of-requires
lobby_of-requires c = let m = c.loop-p.invariant.1 in (m.lent.rests, rests_short m)

pub returns : goal.returns
returns c =
    let l = c.loop-p in
    let lobby = c.lobby_of.ensures in
    ends_loaded _ _ _ c.begin_all-standing.ensures.loads _ _ (ends_there l.invariant.1 _ _ (end_all _ _ l.p _ _ l.invariant.2 c.loop-p-test.false) _ lobby.0 lobby.1)
