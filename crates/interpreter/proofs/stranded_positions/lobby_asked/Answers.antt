use mathlib.Core.Path.{◌≡◌, sym, ◌∙◌}
use mathlib.Core.Bool.{true}
use mathlib.Core.List.{map}
use native.Mathlib.Omega.{arith}
use lib.ListN.{length}
use Rattle.model.specs.Basics.{◌&◌}
use Rattle.model.specs.Wrapper.{described, has_side}
use Rattle.model.specs.Load.{Composition}
use Rattle.model.specs.WellFormed.{ready}
use Rattle.model.proofs.Basics.Tests.{fst, snd}
use Rattle.values.proofs.Lists.{unmap}
use Rattle.wrappers.specs.Compositions.{composition}
use Rattle.sides.specs.Sides.{view_state, fits_arrays}
use Rattle.interpreter.proofs.StrandedLaws.{asked_has, asked_lacks, asked_short, asked_unready}
use Rattle.interpreter.proofs.stranded_positions.lobby_asked.Goals as goal
use Rattle.interpreter.proofs.stranded_positions.lobby_asked.Goals.{else-is_ready-via-then-is_ready+else-has_side, else-is_ready-via-else-is_ready}

pub returns-then-has_side : goal.returns-then-has_side
returns-then-has_side c =
    let loads : Composition = composition c.args.wrapper (map (λ c. c.now) c.args.nodes) (map (λ c. c.now) c.args.pools) in
    let is_ready : fits_arrays c.args.s & ready loads (view_state c.args.s) ≡ true = sym c.is_ready.ensures ∙ c.if-is_ready.true in
    let has : has_side (described c.args.wrapper) c.args.side ≡ true = sym c.has_side.ensures ∙ c.if-has_side.true in
    let full : length c.args.s.sides ≡ 2 = search unmap in
    let k = c.place_of in
    let f = fst _ _ is_ready in (
      asked_has loads c.args.s c.args.side f _ full has k.result k.ensures (snd _ _ is_ready),
      asked_short loads c.args.s c.args.side f _ full has k.result k.ensures,
    )

pub returns-else-is_ready : goal.returns-else-is_ready
returns-else-is_ready c =
    let loads : Composition = composition c.args.wrapper (map (λ c. c.now) c.args.nodes) (map (λ c. c.now) c.args.pools) in
    let none = c.empty.ensures in
    let s = c.args.s in
    elim c.else-is_ready.branch [
      | else-is_ready-via-then-is_ready+else-has_side w ↦
          let f = fst _ _ (sym c.is_ready.ensures ∙ w.if-is_ready.true) in
          (none.view ∙ sym (asked_lacks loads s c.args.side f (sym w.has_side.ensures ∙ w.if-has_side.false)), omega (arith, none.len))
      | else-is_ready-via-else-is_ready w ↦
          (none.view ∙ sym (asked_unready loads s c.args.side (sym c.is_ready.ensures ∙ w.if-is_ready.false)), omega (arith, none.len))
    ]
