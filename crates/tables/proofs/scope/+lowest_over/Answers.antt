-- `tables::scope::lowest_over` meets its contract.
use Rattle.tables.proofs.ScopeLaws.{lower_by, over_box, over_inp, over_leaf, over_new, over_par}
use Rattle.tables.proofs.WalkLaws.{a_leaf, an_input, on_body, on_box, on_left, on_new, on_right}
use Rattle.tables.specs.Nodes.{table}
use Rattle.tables.specs.Scope.{node_of, over_at}
use mathlib.Core.Path.{sym, ap, ◌∙◌}
use Prim.Native.Nat.{◌+◌}
use native.Mathlib.Omega.{arith}
use Prim.Native.Nat.{ℕ}
use Rattle.tables.proofs.scope.+lowest_over.Goals as goal

pub lowest_over-a-requires : goal.lowest_over-a-requires
lowest_over-a-requires t c =
    let o = on_left _ _ _ c.requires.0 _ c.node_at-x.ensures _ c.decreases c.in-Par.ensures in
    (o.0, (o.1, omega (arith, o.0), c.requires.2))

pub lowest_over-b-requires : goal.lowest_over-b-requires
lowest_over-b-requires t c =
    let o = on_right _ _ _ c.requires.0 _ c.node_at-x.ensures _
    c.decreases c.in-Par.ensures in
    (o.0, (o.1, omega (arith, o.0), c.requires.2))

pub returns-in-Par : goal.returns-in-Par
returns-in-Par t c = lower_by _ _ _ _ _ c.lower-in-Par.ensures c.node_if_over-h.ensures
    (lower_by _ _ _ _ _ c.lower.ensures c.lowest_over-a.ensures c.lowest_over-b.ensures)
    ∙ ap node_of (sym (over_par _ _ _ _ c.requires.0 _
    c.node_at-x.ensures c.in-Par.ensures))

pub lowest_over-requires : goal.lowest_over-requires
lowest_over-requires t c =
    let o = on_box _ _ _ c.requires.0 _ c.node_at-x.ensures _
    c.decreases c.in-Box.ensures in
    (o.0, (o.1, omega (arith, o.0), c.requires.2))

pub returns-in-Box : goal.returns-in-Box
returns-in-Box t c = lower_by _ _ _ _ _ c.lower-in-Box.ensures c.node_if_over-h.ensures c.lowest_over.ensures
    ∙ ap node_of (sym (over_box _ _ _ _ c.requires.0 _ c.node_at-x.ensures c.in-Box.ensures))

pub lowest_over-requires-in-New : goal.lowest_over-requires-in-New
lowest_over-requires-in-New t c = let o = on_new _ _ _ c.requires.0 _
    c.node_at-x.ensures _ c.decreases c.in-New.ensures in
    (o.0, (o.1, omega (arith, o.0), c.requires.2))

pub returns-in-New : goal.returns-in-New
returns-in-New t c = lower_by _ _ _ _ _ c.lower-in-New.ensures c.node_if_over-h.ensures c.lowest_over-in-New.ensures
    ∙ ap node_of (sym (over_new _ _ _ _ c.requires.0 _ c.node_at-x.ensures c.in-New.ensures))

pub lowest_over-requires-in-In : goal.lowest_over-requires-in-In
lowest_over-requires-in-In t c =
    let o = on_body _ _ _ c.requires.0 _
    c.node_at-x.ensures _
    c.decreases (an_input c.kind.ensures c.in-In.is) in
    (o.0, (o.1, omega (arith, o.0), c.requires.2))

pub returns-in-In : goal.returns-in-In
returns-in-In t c =
    let ns = c.args.nodes.now in
    let pool = c.args.pool.now in
    lower_by _ _ _ _ _ c.lower-in-In.ensures c.node_if_over-h.ensures
    (c.lowest_over-in-In.ensures ∙ ap (λ (j : ℕ). node_of (over_at (table ns pool) c.node_at-x.result.d (c.args.k + j))) c.names_at-bound.ensures.0)
    ∙ ap node_of (sym (over_inp _ _ _ _ c.requires.0 _ c.node_at-x.ensures (an_input c.kind.ensures c.in-In.is)))

pub returns-in-Nil : goal.returns-in-Nil
returns-in-Nil t c = c.node_if_over-h.ensures
    ∙ ap node_of (over_leaf _ _ _ _ c.requires.0 _ c.node_at-x.ensures (a_leaf c.kind.ensures c.in-Nil.is))
