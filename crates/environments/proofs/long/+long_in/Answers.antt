use mathlib.Core.Path.{◌∙◌}
use Rattle.values.specs.Span.{leaf_of}
use Rattle.tables.proofs.WalkLaws.{no_output, on_left, on_right, on_box, on_new}
use Rattle.environments.proofs.LongWalk.{left_yes, left_no, box_is, new_is, out_is, rest_is}
use Rattle.environments.proofs.long.+long_in.Goals as goal

pub long_in-requires : goal.long_in-requires
long_in-requires t c =
    let node = c.node_at-x.ensures in
    on_left _ _ _ c.requires _ node _ c.decreases c.in-Par.ensures

pub returns-then-long_in : goal.returns-then-long_in
returns-then-long_in t c =
    let a = c.args in
    let node = c.node_at-x.ensures in
    c.if-long_in.true ∙ left_yes a.nodes.now a.pool.now a.n a.t.of c.requires _ node _ c.in-Par.ensures c.long_in.ensures c.if-long_in.true

pub long_in-requires-else-long_in : goal.long_in-requires-else-long_in
long_in-requires-else-long_in t c =
    let node = c.node_at-x.ensures in
    on_right _ _ _ c.requires _ node _ c.decreases c.in-Par.ensures

pub returns-else-long_in : goal.returns-else-long_in
returns-else-long_in t c =
    let left = c.long_in.ensures in
    let no = c.if-long_in.false in
    let a = c.args in
    let node = c.node_at-x.ensures in
    left_no a.nodes.now a.pool.now a.n a.t.of c.requires _ node _ _ c.in-Par.ensures left no c.long_in-else-long_in.ensures

pub long_in-requires-in-Box : goal.long_in-requires-in-Box
long_in-requires-in-Box t c =
    let node = c.node_at-x.ensures in
    on_box _ _ _ c.requires _ node _ c.decreases c.in-Box.ensures

pub returns-in-Box : goal.returns-in-Box
returns-in-Box t c =
    let a = c.args in
    let node = c.node_at-x.ensures in
    box_is a.nodes.now a.pool.now a.n a.t.of c.requires _ node _ c.in-Box.ensures c.long_in-in-Box.ensures

pub long_in-requires-in-New : goal.long_in-requires-in-New
long_in-requires-in-New t c =
    let node = c.node_at-x.ensures in
    on_new _ _ _ c.requires _ node _ c.decreases c.in-New.ensures

pub returns-in-New : goal.returns-in-New
returns-in-New t c =
    let a = c.args in
    let node = c.node_at-x.ensures in
    new_is a.nodes.now a.pool.now a.n a.t.of c.requires _ node _ _ c.in-New.ensures c.put.ensures c.long_in-in-New.ensures

pub returns-in-Out : goal.returns-in-Out
unfolding leaf_of
returns-in-Out t c =
    let a = c.args in
    let node = c.node_at-x.ensures in
    out_is a.nodes.now a.pool.now a.n a.t.of c.requires _ node _ _ c.in-Out.ensures c.words_at.ensures c.over_long.ensures

pub returns-in-Nil : goal.returns-in-Nil
returns-in-Nil t c =
    let a = c.args in
    rest_is a.nodes.now a.pool.now a.n a.t.of c.requires _ c.node_at-x.ensures (no_output c.kind.ensures c.in-Nil.is)
