use Rattle.std.proofs.Common.{rules, ◌≡◌, sym, ◌∙◌, Err}
use mathlib.Core.Bool.{true}
use mathlib.Core.List.{map}
use Rattle.model.specs.Load.{Composition, is_ok, load}
use Rattle.format.specs.Words.{steps_of}
use Rattle.wrappers.specs.Compositions.{composition}
use Rattle.running.specs.declared.RunError.TheVariants.{Refused}
use Rattle.loading.proofs.Faults.{ok_taken, ok_loads, refused_loads}
use Rattle.running.proofs.RunLaws.{Has, has_steps, has_room, run_broken, run_short, run_refused, run_done}
use Rattle.running.proofs.run.Goals as goal
use Rattle.running.proofs.run.Goals.{In-Some, In_ok-load_verdict}

has : (c : In-Some) → Has (steps_of c.args.steps.now) c.in-Some.n
has c = has_steps _ _ (sym c.count_steps.ensures ∙ c.in-Some.is)

loads : (c : In_ok-load_verdict) → is_ok (load (composition c.args.wrapper (map (λ x. x.now) c.args.nodes) (map (λ x. x.now) c.args.pools))) ≡ true
loads c = ok_loads (load (composition c.args.wrapper (map (λ x. x.now) c.args.nodes) (map (λ x. x.now) c.args.pools))) _ _ c.load_verdict.ensures c.in_ok-load_verdict.was

pub returns-in_default : goal.returns-in_default
returns-in_default c = run_broken _ c.args.steps.now c.args.out.now (sym c.count_steps.ensures ∙ c.in_default.is)

pub returns-then-out-n : goal.returns-then-out-n
returns-then-out-n c = run_short _ c.args.steps.now c.args.out.now _ (has (goal.at.returns-then-out-n c).In-Some) c.if-out-n.true

pub run_loaded-requires : goal.run_loaded-requires
run_loaded-requires c = (loads (goal.at.run_loaded-requires c).In_ok-load_verdict, record { count = sym c.count_steps.ensures ∙ c.in-Some.is; room = has_room _ _ c.if-out-n.false })

pub returns-in_err-load_verdict : goal.returns-in_err-load_verdict
returns-in_err-load_verdict c =
    let b : Composition = composition c.args.wrapper (map (λ x. x.now) c.args.nodes) (map (λ x. x.now) c.args.pools) in
    let f = c.in_err-load_verdict.field-0.0 in
    let r : c.from_residual.result ≡ Err (Refused f) = search rules in
    rw r (run_refused b c.args.steps.now c.args.out.now _ (has (goal.at.returns-in_err-load_verdict c).In-Some) c.if-out-n.false f (refused_loads (load b) _ f c.load_verdict.ensures c.in_err-load_verdict.was))

pub returns : goal.returns
returns c =
    let t = ok_taken _ (loads (goal.at.returns c).In_ok-load_verdict) in
    let h = has (goal.at.returns c).In-Some in
    run_done _ c.args.steps.now c.args.out.now _ h c.if-out-n.false _ t.loaded _ (c.run_loaded.ensures _ t.loaded h.steps h.is)
