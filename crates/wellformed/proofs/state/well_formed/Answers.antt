-- The array test, then the sides: those before k stand.
use mathlib.Core.Path.{refl, sym, ◌∙◌}
use mathlib.Core.List.{map}
use Rattle.model.specs.Wrapper.{all_sides}
use Rattle.model.specs.Load.{Composition}
use Rattle.values.proofs.Lists.{unmap}
use Rattle.sides.proofs.Lists.{stops, goes_on}
use Rattle.wrappers.specs.Compositions.{composition}
use Rattle.wellformed.proofs.TestLaws.{passed_more, passed_not, passed_all}
use Rattle.wellformed.proofs.StateLaws.{stands_at, state_is, table_passes, side_within, side_answer, Places}
use Rattle.wellformed.proofs.state.well_formed.Goals as goal

pub loop-k-init : goal.loop-k-init
loop-k-init c = refl

pub side_stands-requires : goal.side_stands-requires
side_stands-requires c =
    let places : Places c.args.nodes c.args.pools c.args.s = record { nodes = search unmap; pools = search unmap; sides = search unmap } in
    let a = c.args in
    let l = c.loop-k in
    let h = c.loop-k-test.true in
    let fits = sym c.arrays_fit.ensures ∙ c.if-not-arrays_fit.false in (
      table_passes (λ c. c.now) a.wrapper a.nodes a.pools a.s places l.k h c.requires _ _ _ refl,
      side_within (λ c. c.now) a.wrapper a.nodes a.pools a.s places l.k h fits _,
    )

pub loop-k-preserved : goal.loop-k-preserved
loop-k-preserved c =
    let places : Places c.args.nodes c.args.pools c.args.s = record { nodes = search unmap; pools = search unmap; sides = search unmap } in
    let lent : Composition = composition c.args.wrapper (map (λ c. c.now) c.args.nodes) (map (λ c. c.now) c.args.pools) in
    let a = c.args in
    let l = c.loop-k in
    let h = c.loop-k-test.true in
    let fits = sym c.arrays_fit.ensures ∙ c.if-not-arrays_fit.false in
    let stands = c.side_stands.ensures in
    let answer = side_answer (λ c. c.now) a.wrapper a.nodes a.pools a.s places l.k h fits _ _ _ _ refl _ _ c.minted_in-minted.ensures c.shelved_in-shelved.ensures _ stands in
    passed_more (stands_at lent a.s) all_sides l.k 0 h (sym answer ∙ c.if-not-side_stands.false) l.invariant

pub returns-then-not-side_stands : goal.returns-then-not-side_stands
returns-then-not-side_stands c =
    let places : Places c.args.nodes c.args.pools c.args.s = record { nodes = search unmap; pools = search unmap; sides = search unmap } in
    let lent : Composition = composition c.args.wrapper (map (λ c. c.now) c.args.nodes) (map (λ c. c.now) c.args.pools) in
    let a = c.args in
    let l = c.loop-k in
    let h = c.loop-k-test.true in
    let fits = sym c.arrays_fit.ensures ∙ c.if-not-arrays_fit.false in
    let stands = c.side_stands.ensures in
    let answer = side_answer (λ c. c.now) a.wrapper a.nodes a.pools a.s places l.k h fits _ _ _ _ refl _ _ c.minted_in-minted.ensures c.shelved_in-shelved.ensures _ stands in
    let fails = passed_not (stands_at lent a.s) all_sides l.k 0 h (sym answer ∙ c.if-not-side_stands.true) l.invariant in
    goes_on _ _ _ fits (fails ∙ state_is lent a.s places.sides)

pub returns : goal.returns
returns c =
    let places : Places c.args.nodes c.args.pools c.args.s = record { nodes = search unmap; pools = search unmap; sides = search unmap } in
    let lent : Composition = composition c.args.wrapper (map (λ c. c.now) c.args.nodes) (map (λ c. c.now) c.args.pools) in
    let s = c.args.s in
    let l = c.loop-k in
    let fits = sym c.arrays_fit.ensures ∙ c.if-not-arrays_fit.false in
    let passes = passed_all (stands_at lent s) all_sides l.k c.loop-k-test.false l.invariant in
    goes_on _ _ _ fits (passes ∙ state_is lent s places.sides)

pub returns-then-not-arrays_fit : goal.returns-then-not-arrays_fit
returns-then-not-arrays_fit c = stops _ _ (sym c.arrays_fit.ensures ∙ c.if-not-arrays_fit.true)
