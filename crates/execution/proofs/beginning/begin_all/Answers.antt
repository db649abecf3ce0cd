use mathlib.Core.Path.{◌≡◌, refl}
use mathlib.Core.List.{map}
use Prim.Native.Nat.{◌<◌}
use lib.ListN.{length}
use Rattle.model.specs.Load.{Composition}
use Rattle.wrappers.specs.Compositions.{composition}
use Rattle.loading.proofs.Faults.{ok_taken}
use Rattle.execution.proofs.BeginLaws.{can_begin, begins_at, begins_none, begins_more, begun_all}
use borrow.Author.Rules.{rules}
use native.Mathlib.Omega.{arith}
use Rattle.execution.proofs.beginning.begin_all.Goals as goal

pub loop-k-init : goal.loop-k-init
loop-k-init c =
    let loads : Composition = composition c.args.wrapper (map (λ c. c.now) c.args.nodes) (map (λ c. c.now) c.args.pools) in
    begins_none loads _ _ _ c.requires.1 refl refl c.requires.2

pub begin-r-requires : goal.begin-r-requires
begin-r-requires c =
    let loads : Composition = composition c.args.wrapper (map (λ c. c.now) c.args.nodes) (map (λ c. c.now) c.args.pools) in
    let in-nodes : c.loop-k.k < length c.args.nodes =
    let long : length c.args.nodes ≡ 2 = search (rules, c.well_formed) in
    omega (arith, c.loop-k-test.true, long) in
    let in-pools : c.loop-k.k < length c.args.pools =
    let long : length c.args.pools ≡ 2 = search (rules, c.well_formed) in
    omega (arith, c.loop-k-test.true, long) in
    let can = can_begin (λ c. c.now) _ c.args.nodes c.args.pools _ _ c.number_of.ensures in-nodes in-pools _ _ (ok_taken loads c.requires.0) in
    (can, c.loop-k.invariant.long _ c.loop-k-test.true)

pub loop-k-preserved : goal.loop-k-preserved
loop-k-preserved c =
    let loads : Composition = composition c.args.wrapper (map (λ c. c.now) c.args.nodes) (map (λ c. c.now) c.args.pools) in
    let in-nodes : c.loop-k.k < length c.args.nodes =
    let long : length c.args.nodes ≡ 2 = search (rules, c.well_formed) in
    omega (arith, c.loop-k-test.true, long) in
    let in-pools : c.loop-k.k < length c.args.pools =
    let long : length c.args.pools ≡ 2 = search (rules, c.well_formed) in
    omega (arith, c.loop-k-test.true, long) in
    let is = begins_at (λ c. c.now) c.args.wrapper c.args.nodes c.args.pools _ _ c.number_of.ensures in-nodes in-pools _ _ _ _ c.begin-r.ensures in
    begins_more loads _ _ _ _ c.loop-k.invariant c.loop-k-test.true _ _ is

pub returns : goal.returns
returns c =
    let loads : Composition = composition c.args.wrapper (map (λ c. c.now) c.args.nodes) (map (λ c. c.now) c.args.pools) in
    begun_all loads _ _ _ c.loop-k.invariant (search rules) c.empty-e.result (ok_taken loads c.requires.0).loaded
