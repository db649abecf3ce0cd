use mathlib.Core.Path.{◌≡◌}
use mathlib.Core.List.{map}
use Prim.Native.Nat.{◌<◌}
use lib.ListN.{length}
use Rattle.values.proofs.Lists.{unmap}
use Rattle.wrappers.specs.Compositions.{composition}
use Rattle.interpreter.proofs.LoadLaws.{begin, lent_startable, lent_side, turn, turns_done}
use borrow.Author.Rules.{rules}
use Rattle.interpreter.proofs.load_state.start_state.Goals as goal

pub loop-k-init : goal.loop-k-init
loop-k-init c =
    let w = c.args.wrapper in
    let ns = map (λ c. c.now) c.args.nodes in
    let ps = map (λ c. c.now) c.args.pools in
    let b = composition w ns ps in
    begin b _ (search unmap)

pub side_at-requires : goal.side_at-requires
side_at-requires c =
    let w = c.args.wrapper in
    let ns = map (λ c. c.now) c.args.nodes in
    let ps = map (λ c. c.now) c.args.pools in
    let b = composition w ns ps in
    let k = c.loop-k.k in
    let two : k < 2 = search rules in
    let long : length c.args.nodes ≡ 2 = search (rules, c.well_formed) in
    let long' : length c.args.pools ≡ 2 = search (rules, c.well_formed) in
    let n = c.number_of in
    λ h. lent_startable (λ c. c.now) w c.args.nodes c.args.pools k n.result _ _ long long' two n.ensures c.requires h

pub loop-k-preserved : goal.loop-k-preserved
loop-k-preserved c =
    let w = c.args.wrapper in
    let ns = map (λ c. c.now) c.args.nodes in
    let ps = map (λ c. c.now) c.args.pools in
    let b = composition w ns ps in
    let k = c.loop-k.k in
    let two : k < 2 = search rules in
    let long : length c.args.nodes ≡ 2 = search (rules, c.well_formed) in
    let long' : length c.args.pools ≡ 2 = search (rules, c.well_formed) in
    let n = c.number_of in
    let o = c.side_at in
    let begun = c.loop-k.invariant in
    let side = lent_side (λ c. c.now) w c.args.nodes c.args.pools k n.result _ _ long long' two n.ensures o.result o.ensures in
    turn b k _ o.result two begun side

pub returns : goal.returns
returns c =
    let w = c.args.wrapper in
    let ns = map (λ c. c.now) c.args.nodes in
    let ps = map (λ c. c.now) c.args.pools in
    let b = composition w ns ps in
    turns_done b c.loop-k.k _ (search rules) c.loop-k.invariant
