use mathlib.Core.Path.{◌≡◌, sym, ◌∙◌}
use mathlib.Core.List.{map}
use Prim.Native.Nat.{ℕ, ◌+◌, ◌<◌}
use lib.ListN.{length, length-map}
use Rattle.model.specs.Load.{Composition}
use Rattle.wrappers.specs.Compositions.{composition}
use Rattle.loading.proofs.Faults.{fault_lent, load_unknown, load_known, turn_good, turn_bad, turns_end}
use borrow.Author.Rules.{rules}
use native.Mathlib.Omega.{arith}
use Rattle.loading.proofs.verdicts.load_verdict.Goals as goal

pub returns-then-not-is_wrapper : goal.returns-then-not-is_wrapper
returns-then-not-is_wrapper c =
    let loads : Composition = composition c.args.wrapper (map (λ c. c.now) c.args.nodes) (map (λ c. c.now) c.args.pools) in
    load_unknown loads (sym c.is_wrapper.ensures ∙ c.if-not-is_wrapper.true)

pub loop-k-init : goal.loop-k-init
loop-k-init c =
    let loads : Composition = composition c.args.wrapper (map (λ c. c.now) c.args.nodes) (map (λ c. c.now) c.args.pools) in
    load_known loads (sym c.is_wrapper.ensures ∙ c.if-not-is_wrapper.false)

pub returns-in-Err : goal.returns-in-Err
returns-in-Err c =
    let nodes-long : length c.args.nodes ≡ 2 = search (rules, c.well_formed) in
    let pools-long : length c.args.pools ≡ 2 = search (rules, c.well_formed) in
    let k : ℕ = c.loop-k.k in
    let h : k < 2 = c.loop-k-test.true in
    let n : c.number_of-n.result ≡ k + 1 = c.number_of-n.ensures in
    let f = c.fault_at.ensures ∙ fault_lent (λ x. x.now) c.args.wrapper c.args.nodes c.args.pools k _ _ _ (omega arith) (omega arith) n in
    rw n (turn_bad _ _ _ k (simp length-map (omega arith)) (simp length-map (omega arith)) h _ f _ c.in-Err.is c.loop-k.invariant)

pub loop-k-preserved : goal.loop-k-preserved
loop-k-preserved c =
    let nodes-long : length c.args.nodes ≡ 2 = search (rules, c.well_formed) in
    let pools-long : length c.args.pools ≡ 2 = search (rules, c.well_formed) in
    let k : ℕ = c.loop-k.k in
    let h : k < 2 = c.loop-k-test.true in
    let f = c.fault_at.ensures ∙ fault_lent (λ x. x.now) c.args.wrapper c.args.nodes c.args.pools k _ _ _ (omega arith) (omega arith) c.number_of-n.ensures in
    turn_good _ _ _ k (simp length-map (omega arith)) (simp length-map (omega arith)) h _ f _ c.in_default.is c.loop-k.invariant

pub returns : goal.returns
returns c =
    let loads : Composition = composition c.args.wrapper (map (λ c. c.now) c.args.nodes) (map (λ c. c.now) c.args.pools) in
    turns_end loads c.loop-k.k (search rules) c.loop-k.invariant
