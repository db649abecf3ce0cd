use Rattle.tables.proofs.WalkLaws.{a_particle}
use Rattle.scopes.proofs.UnfoldedLaws.{to_left, to_right, to_box_lem, to_new, par_is, box_is, new_is, nil_is, last_is}
use Rattle.scopes.proofs.unfolded.+unfolded_at.Goals as goal

pub unfolded_at-a-requires : goal.unfolded_at-a-requires
unfolded_at-a-requires t c =
    let a = c.args in
    let node = c.node_at-x.ensures in
    to_left a.nodes.now a.pool.now a.n c.requires _ node _ c.decreases c.in-Par.ensures

pub unfolded_at-b-requires : goal.unfolded_at-b-requires
unfolded_at-b-requires t c =
    let a = c.args in
    let node = c.node_at-x.ensures in
    to_right a.nodes.now a.pool.now a.n c.requires _ node _ c.decreases c.in-Par.ensures

pub plus-requires : goal.plus-requires
plus-requires t c =
    (c.unfolded_at-a.ensures.0, c.unfolded_at-b.ensures.0)

pub returns-in-Par : goal.returns-in-Par
returns-in-Par t c =
    let a = c.args in
    let node = c.node_at-x.ensures in
    par_is a.nodes.now a.pool.now a.n c.requires _ node _ _ _ c.in-Par.ensures c.unfolded_at-a.ensures c.unfolded_at-b.ensures c.plus.ensures

pub unfolded_at-r-requires : goal.unfolded_at-r-requires
unfolded_at-r-requires t c =
    let a = c.args in
    to_box_lem a.nodes.now a.pool.now a.n c.requires _ c.node_at-x.ensures _ c.decreases c.in-Box.ensures

pub returns-in-Box : goal.returns-in-Box
returns-in-Box t c =
    let a = c.args in
    box_is a.nodes.now a.pool.now a.n c.requires _ c.node_at-x.ensures _ c.in-Box.ensures c.unfolded_at-r.ensures

pub unfolded_at-r-requires-in-New : goal.unfolded_at-r-requires-in-New
unfolded_at-r-requires-in-New t c =
    let a = c.args in
    to_new a.nodes.now a.pool.now a.n c.requires _ c.node_at-x.ensures _ c.decreases c.in-New.ensures

pub returns-in-New : goal.returns-in-New
returns-in-New t c =
    let a = c.args in
    new_is a.nodes.now a.pool.now a.n c.requires _ c.node_at-x.ensures _ c.in-New.ensures c.unfolded_at-r-in-New.ensures

pub returns-in-Nil : goal.returns-in-Nil
returns-in-Nil t c =
    let a = c.args in
    nil_is a.nodes.now a.pool.now a.n c.requires _ c.node_at-x.ensures c.in-Nil.ensures

pub returns-in-Out : goal.returns-in-Out
returns-in-Out t c =
    let a = c.args in
    last_is a.nodes.now a.pool.now a.n c.requires _ c.node_at-x.ensures (a_particle c.kind.ensures c.in-Out.is)
