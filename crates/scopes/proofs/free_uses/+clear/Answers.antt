use mathlib.Core.Path.{ap, ◌∙◌}
use mathlib.Core.Bool.{not}
use mathlib.Core.List.{List}
use Prim.Native.Nat.{ℕ}
use Rattle.model.specs.Values.{binders}
use Rattle.values.specs.Span.{leaf_of}
use Rattle.tables.proofs.WalkLaws.{an_input, on_left, on_right, on_box, on_new, on_body}
use Rattle.scopes.specs.FreeUses.{hide}
use Rattle.scopes.proofs.ClearWalk.{left_yes, left_no, box_no, box_yes, new_is, output_is, input_no, input_yes, nil_is}
use Rattle.scopes.proofs.free_uses.+clear.Goals as goal

pub clear-requires : goal.clear-requires
clear-requires t c =
    let node = c.node_at-x.ensures in
    on_left _ _ _ c.requires _ node _ c.decreases c.in-Par.ensures

pub clear-requires-then-clear : goal.clear-requires-then-clear
clear-requires-then-clear t c =
    let node = c.node_at-x.ensures in
    on_right _ _ _ c.requires _ node _ c.decreases c.in-Par.ensures

pub returns-then-clear : goal.returns-then-clear
returns-then-clear t c =
    let a = c.args in
    let node = c.node_at-x.ensures in
    left_yes a.nodes.now a.pool.now a.n a.ts.on c.requires _ node _ _ c.in-Par.ensures c.clear.ensures c.if-clear.true c.clear-then-clear.ensures

pub returns-else-clear : goal.returns-else-clear
returns-else-clear t c =
    let a = c.args in
    let node = c.node_at-x.ensures in
    c.if-clear.false ∙ left_no a.nodes.now a.pool.now a.n a.ts.on c.requires _ node _ c.in-Par.ensures c.clear.ensures c.if-clear.false

pub returns-else-not-has : goal.returns-else-not-has
returns-else-not-has t c =
    let a = c.args in
    let node = c.node_at-x.ensures in
    ap not c.if-not-has.false ∙ box_no a.nodes.now a.pool.now a.n a.ts.on c.requires _ node _ c.in-Box.ensures c.has.ensures c.if-not-has.false

pub clear-requires-then-not-has : goal.clear-requires-then-not-has
clear-requires-then-not-has t c =
    let node = c.node_at-x.ensures in
    on_box _ _ _ c.requires _ node _ c.decreases c.in-Box.ensures

pub returns-then-not-has : goal.returns-then-not-has
returns-then-not-has t c =
    let a = c.args in
    let node = c.node_at-x.ensures in
    box_yes a.nodes.now a.pool.now a.n a.ts.on c.requires _ node _ _ c.in-Box.ensures c.has.ensures c.if-not-has.true c.clear-then-not-has.ensures

pub clear-requires-in-New : goal.clear-requires-in-New
clear-requires-in-New t c =
    let node = c.node_at-x.ensures in
    on_new _ _ _ c.requires _ node _ c.decreases c.in-New.ensures

pub returns-in-New : goal.returns-in-New
returns-in-New t c =
    let a = c.args in
    let node = c.node_at-x.ensures in
    new_is a.nodes.now a.pool.now a.n a.ts.on c.requires _ node _ _ c.in-New.ensures c.put.ensures c.clear-in-New.ensures

pub returns-in-Out : goal.returns-in-Out
returns-in-Out t c =
    let a = c.args in
    let node = c.node_at-x.ensures in
    output_is a.nodes.now a.pool.now a.n a.ts.on c.requires _ node _ c.in-Out.ensures c.outside.ensures

pub clear-requires-then-outside : goal.clear-requires-then-outside
clear-requires-then-outside t c =
    let node = c.node_at-x.ensures in
    on_body _ _ _ c.requires _ node _ c.decreases (an_input c.kind.ensures c.in-In.is)

pub returns-then-outside : goal.returns-then-outside
unfolding leaf_of
returns-then-outside t c =
    let a = c.args in
    let node = c.node_at-x.ensures in
    let below = c.hide_names.ensures ∙ ap (λ (s : List ℕ). hide a.ts.on (binders s)) c.words_at.ensures in
    input_yes a.nodes.now a.pool.now a.n a.ts.on c.requires _ node _ _ _ (an_input c.kind.ensures c.in-In.is) c.outside-in-In.ensures c.if-outside.true below c.clear-then-outside.ensures

pub returns-else-outside : goal.returns-else-outside
returns-else-outside t c =
    let a = c.args in
    let node = c.node_at-x.ensures in
    c.if-outside.false ∙ input_no a.nodes.now a.pool.now a.n a.ts.on c.requires _ node _ (an_input c.kind.ensures c.in-In.is) c.outside-in-In.ensures c.if-outside.false

pub returns-in-Nil : goal.returns-in-Nil
returns-in-Nil t c =
    let a = c.args in
    nil_is a.nodes.now a.pool.now a.n a.ts.on c.requires _ c.node_at-x.ensures c.in-Nil.ensures
