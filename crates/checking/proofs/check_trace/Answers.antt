use Rattle.std.proofs.Common.{rules, ◌≡◌, sym, ap, Err}
use mathlib.Core.List.{map}
use Rattle.model.specs.Load.{Composition, load}
use Rattle.claims.specs.Claims.{step_records, label_records, check_from, check_trace}
use Rattle.wrappers.specs.Compositions.{composition}
use Rattle.checking.specs.declared.TraceError.TheVariants.{Unloaded}
use Rattle.loading.proofs.Faults.{ok_loads, refused_loads}
use Rattle.checking.proofs.check_trace.Goals as goal

pub check_loaded-requires : goal.check_loaded-requires
check_loaded-requires c =
    let loads : Composition = composition c.args.wrapper (map (λ c. c.now) c.args.nodes) (map (λ c. c.now) c.args.pools) in
    let v = c.load_verdict in
    ok_loads (load loads) v.result _ v.ensures c.in_ok-load_verdict.was

pub returns-in_err-load_verdict : goal.returns-in_err-load_verdict
unfolding check_trace
returns-in_err-load_verdict c =
    let loads : Composition = composition c.args.wrapper (map (λ c. c.now) c.args.nodes) (map (λ c. c.now) c.args.pools) in
    let v = c.load_verdict in
    let f = c.in_err-load_verdict.field-0.0 in
    let r : c.from_residual.result ≡ Err (Unloaded f) = search rules in
    rw r (ap (check_from loads (step_records c.args.steps.now) (label_records c.args.labels.now)) (sym (refused_loads (load loads) v.result f v.ensures c.in_err-load_verdict.was)))

pub returns : goal.returns
unfolding check_trace
returns c = c.check_loaded.ensures
