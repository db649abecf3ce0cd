use Rattle.std.proofs.Common.{rules, ◌≡◌, sym, ap, Err}
use mathlib.Core.Bool.{true}
use mathlib.Core.List.{map}
use Rattle.model.specs.Load.{Composition, is_ok, load}
use Rattle.wrappers.specs.Compositions.{composition}
use Rattle.stranding.specs.declared.AfterError.TheVariants.{Unloaded}
use Rattle.loading.proofs.Faults.{ok_loads, refused_loads}
use Prim.Native.Nat.{ℕ}
use Rattle.std.specs.Prelude.{Result}
use Rattle.listing.specs.declared.TooShort.{TooShort}
use Rattle.listing.specs.Listing.{listed_of}
use Rattle.stranding.specs.Stranding.{told}
use Rattle.stranding.proofs.EndLaws.{after_refused, after_broken, after_listed}
use Rattle.stranding.proofs.stranded_after.Goals as goal
use Rattle.stranding.proofs.stranded_after.Goals.{In_ok-load_verdict}

taken : (c : In_ok-load_verdict) → is_ok (load (composition c.args.wrapper (map (λ x. x.now) c.args.nodes) (map (λ x. x.now) c.args.pools))) ≡ true
taken c = ok_loads (load (composition c.args.wrapper (map (λ x. x.now) c.args.nodes) (map (λ x. x.now) c.args.pools))) _ _ c.load_verdict.ensures c.in_ok-load_verdict.was

pub returns-in_err-load_verdict : goal.returns-in_err-load_verdict
returns-in_err-load_verdict c =
    let b : Composition = composition c.args.wrapper (map (λ x. x.now) c.args.nodes) (map (λ x. x.now) c.args.pools) in
    let f = c.in_err-load_verdict.field-0.0 in
    let r : c.from_residual.result ≡ Err (Unloaded f) = search rules in
    rw r (after_refused b _ _ _ f (refused_loads (load b) _ f c.load_verdict.ensures c.in_err-load_verdict.was))

pub returns-in_default : goal.returns-in_default
returns-in_default c =
    after_broken _ _ _ _ (taken (goal.at.returns-in_default c).In_ok-load_verdict) _ c.end_loaded.ensures c.in_default.is

pub returns-in-Ok : goal.returns-in-Ok
returns-in-Ok c =
    after_listed _ _ _ _ (taken (goal.at.returns-in-Ok c).In_ok-load_verdict) _ c.end_loaded.ensures _ c.in-Some.is _ _ c.list_stranded.ensures _
    (sym (ap (λ (l : Result ℕ TooShort). told (listed_of l)) c.in-Ok.is))

pub returns-in-Err : goal.returns-in-Err
returns-in-Err c =
    after_listed _ _ _ _ (taken (goal.at.returns-in-Err c).In_ok-load_verdict) _ c.end_loaded.ensures _ c.in-Some.is _ _ c.list_stranded.ensures _
    (sym (ap (λ (l : Result ℕ TooShort). told (listed_of l)) c.in-Err.is))
