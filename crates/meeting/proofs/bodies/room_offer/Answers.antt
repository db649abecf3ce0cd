use mathlib.Core.Path.{refl, sym, ◌∙◌}
use mathlib.Core.Bool.{false≢true}
use Rattle.model.specs.Table.{term}
use Rattle.tables.specs.Nodes.{table}
use Rattle.meeting.proofs.Removing.{room_is}
use Rattle.meeting.proofs.bodies.room_offer.Goals as goal

pub unfolded_at-u-requires : goal.unfolded_at-u-requires
unfolded_at-u-requires c = (c.requires.0, c.requires.1)

pub returns-then-not-contents_within : goal.returns-then-not-contents_within
returns-then-not-contents_within c =
    let a = c.args in
    let body = term (table a.nodes.now a.pool.now) a.n in
    let tested = room_is body a.particles a.boxes a.minted c.unfolded_at-u.result c.unfolded_at-u.ensures.1 _ c.contents_within.ensures in
    (refl, λ y. false≢true (sym c.if-not-contents_within.true ∙ tested ∙ y))

pub returns : goal.returns
returns c =
    let a = c.args in
    let body = term (table a.nodes.now a.pool.now) a.n in
    let tested = room_is body a.particles a.boxes a.minted c.unfolded_at-u.result c.unfolded_at-u.ensures.1 _ c.contents_within.ensures in
    (refl, sym tested ∙ c.if-not-contents_within.false)
