use mathlib.Core.Path.{refl, sym, ◌∙◌}
use Rattle.wrappers.proofs.Described.{source_in}
use Rattle.dispatch.proofs.AllSides.{place_number}
use Rattle.dispatch.proofs.all_sides.route_offer.Goals as goal

pub returns-in_default : goal.returns-in_default
returns-in_default c = (refl, sym c.in_default.is ∙ c.source_of.ensures)

pub place_of-requires : goal.place_of-requires
place_of-requires c = (source_in c.args.wrapper c.args.side c.args.j _ (sym c.in-Some.is ∙ c.source_of.ensures)).0

pub returns : goal.returns
returns c =
    let from = sym c.in-Some.is ∙ c.source_of.ensures in
    place_number _ _ c.place_of.ensures (source_in c.args.wrapper c.args.side c.args.j _ from).0 ∙ from
