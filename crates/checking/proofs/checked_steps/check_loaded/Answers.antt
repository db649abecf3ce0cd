-- What is at fault from the start on is at fault from here on; the state is what is lent.
use mathlib.Core.Path.{◌≡◌, refl, sym, ap, ◌∙◌}
use mathlib.Core.Bool.{true, false}
use mathlib.Core.List.{List, map, ◌++◌}
use Prim.Native.Nat.{ℕ}
use native.Mathlib.Omega.{arith}
use Rattle.std.specs.Prelude.{Some}
use Rattle.model.specs.Load.{Composition}
use Rattle.model.proofs.Formed.Starts.{starts}
use Rattle.values.specs.Env.{view_value}
use Rattle.wrappers.specs.Compositions.{composition}
use Rattle.execution.specs.Execution.{record_end}
use Rattle.execution.proofs.BeginLaws.{zeros_long}
use Rattle.execution.proofs.RecordEnds.{found_end, stands}
use Rattle.checking.specs.Checking.{fault_from}
use Rattle.checking.proofs.CheckLaws.{label_by, shown_by, check_start, step_breaks, step_illegal, step_legal, all_made, from_load}
use Rattle.checking.proofs.checked_steps.check_loaded.Goals as goal
use Rattle.checking.proofs.checked_steps.check_loaded.Goals.{In-Some}

found : (c : In-Some) → record_end 4 c.args.steps.now c.loop-p.p ≡ Some c.in-Some.e
found c = sym c.record_end.ensures ∙ c.in-Some.is

pub begin_all-standing-requires : goal.begin_all-standing-requires
begin_all-standing-requires c = (c.requires, refl, zeros_long)

pub loop-p-init : goal.loop-p-init
loop-p-init c =
    let loads : Composition = composition c.args.wrapper (map (λ x. x.now) c.args.nodes) (map (λ x. x.now) c.args.pools) in
    let g = c.begin_all-standing.ensures in (
      omega arith,
      omega arith,
      record { few = omega arith; within = omega arith },
      record { lent = g.lent; ready = starts loads _ g.loads; shelved = g.shelved },
      check_start _ _ _ _,
    )

pub returns-in_default : goal.returns-in_default
returns-in_default c =
    from_load _ _ _ _ _ _ c.begin_all-standing.ensures.loads (step_breaks c.loop-p.invariant.4 c.loop-p-test.true (sym c.record_end.ensures ∙ c.in_default.is))

pub make_step-a-requires : goal.make_step-a-requires
make_step-a-requires c = (c.loop-p.invariant.3, stands _ _ _ (found (goal.at.make_step-a-requires c).In-Some))

pub returns-then-is_refused : goal.returns-then-is_refused
returns-then-is_refused c =
    let a = c.make_step-a in
    let illegal = label_by _ a.result.said _ (view_value a.result.value) a.ensures.answer true (sym c.is_refused.ensures ∙ c.if-is_refused.true) in
    from_load _ _ _ _ _ _ c.begin_all-standing.ensures.loads (step_illegal c.loop-p.invariant.4 _ (found (goal.at.returns-then-is_refused c).In-Some) illegal)

pub loop-p-smaller : goal.loop-p-smaller
loop-p-smaller c =
    let at = found_end _ _ _ _ (found (goal.at.loop-p-smaller c).In-Some) in
    omega (arith, at.0, at.1)

pub loop-p-preserved : goal.loop-p-preserved
loop-p-preserved c =
    let l = c.loop-p in
    let f = found (goal.at.loop-p-preserved c).In-Some in
    let at = found_end _ _ _ _ f in
    let a = c.make_step-a in
    let v : List ℕ = view_value a.result.value in
    let legal = label_by _ a.result.said _ v a.ensures.answer false (sym c.is_refused.ensures ∙ c.if-is_refused.false) in
    let past = c.agreed_past-agreed.ensures in
    let next = step_legal l.invariant.4 _ f legal _ a.ensures.after _
    (λ vs. past.1 vs ∙ ap (λ (s : List (List ℕ)). fault_from c.args.labels.now l.agreed (s ++ vs)) (shown_by _ a.result.said _ v a.ensures.answer)) in
    (omega (arith, at.0, l.invariant.0), omega (arith, at.0, at.1), past.0, a.ensures.runs, next)

pub returns : goal.returns
returns c = from_load _ _ _ _ _ _ c.begin_all-standing.ensures.loads (all_made c.loop-p.invariant.4 c.loop-p-test.false _ c.label_verdict.ensures)
