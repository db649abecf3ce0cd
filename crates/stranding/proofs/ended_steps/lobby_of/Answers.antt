use mathlib.Core.Path.{◌≡◌, sym, ◌∙◌}
use mathlib.Core.Bool.{true}
use native.Mathlib.Omega.{arith}
use Rattle.model.specs.Wrapper.{described, has_side}
use Rattle.loading.proofs.Starting.{has_number}
use Rattle.stranding.proofs.EndLaws.{lobby_has, lobby_lacks}
use Rattle.stranding.proofs.ended_steps.lobby_of.Goals as goal

pub place_of-requires : goal.place_of-requires
place_of-requires c =
    let has : has_side (described c.args.wrapper) c.args.side ≡ true = sym c.has_side.ensures ∙ c.if-has_side.true in
    (has_number c.args.wrapper c.args.side has).0

pub bounds-rests-place_of : goal.bounds-rests-place_of
bounds-rests-place_of c =
    let has : has_side (described c.args.wrapper) c.args.side ≡ true = sym c.has_side.ensures ∙ c.if-has_side.true in
    let i = has_number c.args.wrapper c.args.side has in
    omega (arith, i.0, i.1, c.place_of.ensures, c.requires.0)

pub returns-then-has_side : goal.returns-then-has_side
returns-then-has_side c =
    let has : has_side (described c.args.wrapper) c.args.side ≡ true = sym c.has_side.ensures ∙ c.if-has_side.true in
    let k = c.place_of in
    let i = has_number c.args.wrapper c.args.side has in
    (lobby_has c.args.wrapper c.args.side c.args.rests.now has c.requires.0 k.result k.ensures _, c.requires.1 k.result _ (omega (arith, i.0, i.1, k.ensures)))

pub returns : goal.returns
returns c =
    let none = c.empty.ensures in
    let lacks = sym c.has_side.ensures ∙ c.if-has_side.false in
    (none.view ∙ lobby_lacks c.args.wrapper c.args.side c.args.rests.now lacks, omega (arith, none.len))
