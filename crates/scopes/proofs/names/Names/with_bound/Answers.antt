-- `scopes::names::Names::with_bound` meets its contract.
use mathlib.Core.Path.{◌≡◌, sym, ap, ◌∙◌}
use mathlib.Core.List.{List, ◌∷◌, ◌++◌}
use Prim.Native.Nat.{ℕ}
use lib.ListN.{length}
use Rattle.model.specs.Values.{binders}
use Rattle.values.specs.Span.{leaf_of}
use Rattle.scopes.specs.Names.{view_names, last_eight}
use Rattle.scopes.proofs.NameLaws.{bound_new, bound_input, bound_none, view_few, last_few}
use Rattle.tables.proofs.WalkLaws.{an_input, no_names}
use borrow.Author.Rules.{rules}
use Rattle.scopes.proofs.names.Names.with_bound.Goals as goal

pub returns-in-New : goal.returns-in-New
returns-in-New c =
    let a = c.args in
    let binds = bound_new a.nodes.now a.pool.now a.n _ c.node_at-x.ensures c.in-New.ensures in
    let named = ap (λ (w : ℕ). last_eight (w ∷ view_names a.self)) (c.field_at.ensures a.pool.now) in
    c.with_outer.ensures ∙ named ∙ ap (λ (x : List ℕ). last_eight (x ++ view_names a.self)) (sym binds)

pub returns-in-In : goal.returns-in-In
unfolding leaf_of
returns-in-In c =
    let a = c.args in
    let binds = bound_input a.nodes.now a.pool.now a.n _ c.node_at-x.ensures (an_input c.kind.ensures c.in-In.is) in
    let read = ap (λ (s : List ℕ). last_eight (binders s ++ view_names a.self)) c.words_at.ensures in
    c.with_pattern.ensures ∙ read ∙ ap (λ (x : List ℕ). last_eight (x ++ view_names a.self)) (sym binds)

pub returns-in-Nil : goal.returns-in-Nil
returns-in-Nil c =
    let a = c.args in
    let full : length a.self.rows ≡ 8 = search rules in
    let o = no_names c.kind.ensures c.in-Nil.is in
    let binds = bound_none a.nodes.now a.pool.now a.n _ c.node_at-x.ensures o.0 o.1 in
    let few = view_few a.self.rows a.self.top 0 full in
    sym (ap (λ (x : List ℕ). last_eight (x ++ view_names a.self)) binds ∙ last_few (view_names a.self) few)
