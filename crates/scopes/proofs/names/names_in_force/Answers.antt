-- `scopes::names::names_in_force` meets its contract.
use mathlib.Core.Path.{sym, ap, ◌∙◌}
use mathlib.Core.List.{List}
use Prim.Native.Nat.{ℕ, ◌-◌}
use Rattle.model.specs.Table.{scope, scope_up}
use Rattle.tables.specs.Nodes.{table}
use Rattle.scopes.specs.Names.{view_names, last_eight}
use Rattle.scopes.proofs.NameLaws.{walk_skip, walk_take, walk_end, last_at_most}
use native.Mathlib.Omega.{arith}
use Rattle.scopes.proofs.names.names_in_force.Goals as goal

pub loop-m-init : goal.loop-m-init
loop-m-init c =
    let a = c.args in
    let t = table a.nodes.now a.pool.now in
    let start = ap (λ (v : List ℕ). last_eight (scope_up t a.n a.n v)) (sym c.none-r.ensures) in
    (start, rw c.none-r.ensures (omega arith))

pub loop-m-preserved-then-is_parent : goal.loop-m-preserved-then-is_parent
loop-m-preserved-then-is_parent c =
    let a = c.args in
    let l = c.loop-m in
    let all = last_eight (scope (table a.nodes.now a.pool.now) a.n) in
    let up = walk_take a.nodes.now a.pool.now l.m (l.m - 1) l.cur _ c.node_at-x.ensures all (view_names l.r) (omega arith) l.invariant.0 in
    let parent = sym c.is_parent.ensures ∙ c.if-is_parent.true in
    (up parent _ c.with_bound-r.ensures, rw c.with_bound-r.ensures (last_at_most _))

pub loop-m-preserved : goal.loop-m-preserved
loop-m-preserved c =
    let a = c.args in
    let l = c.loop-m in
    let all = last_eight (scope (table a.nodes.now a.pool.now) a.n) in
    let up = walk_skip a.nodes.now a.pool.now l.m (l.m - 1) l.cur _ c.node_at-x.ensures all (view_names l.r) (omega arith) l.invariant.0 in
    (up (sym c.is_parent.ensures ∙ c.if-is_parent.false), l.invariant.1)

pub returns : goal.returns
returns c =
    let a = c.args in
    let l = c.loop-m in
    let t = table a.nodes.now a.pool.now in
    walk_end t l.m l.cur (view_names l.r) (last_eight (scope t a.n)) (omega arith) l.invariant.1 l.invariant.0
