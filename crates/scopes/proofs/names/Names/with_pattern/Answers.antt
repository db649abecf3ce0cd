-- `scopes::names::Names::with_pattern` meets its contract.
use mathlib.Core.Path.{◌≡◌}
use Prim.Native.Nat.{◌-◌}
use lib.ListN.{length}
use Rattle.scopes.specs.Names.{view_names}
use Rattle.scopes.proofs.NameLaws.{view_few, step_name, step_other, back_start, back_end}
use borrow.Author.Rules.{rules}
use native.Mathlib.Omega.{arith}
use Rattle.scopes.proofs.names.Names.with_pattern.Goals as goal

pub loop-i-init : goal.loop-i-init
loop-i-init c =
    let a = c.args in
    let full : length a.self.rows ≡ 8 = search rules in
    let few = view_few a.self.rows a.self.top 0 full in
    back_start a.s.now (view_names a.self) few

pub loop-i-preserved-then-w-le63 : goal.loop-i-preserved-then-w-le63
loop-i-preserved-then-w-le63 c =
    let l = c.loop-i in
    let a = c.args in
    let step = step_name a.s.now l.i (l.i - 1) (view_names a.self) (view_names l.r) (omega arith) (omega arith) l.invariant in
    step _ c.if-w-le63.true c.with_outer-r.ensures

pub loop-i-preserved : goal.loop-i-preserved
loop-i-preserved c =
    let l = c.loop-i in
    let a = c.args in
    let step = step_other a.s.now l.i (l.i - 1) (view_names a.self) (view_names l.r) (omega arith) (omega arith) l.invariant in
    step c.if-w-le63.false

pub returns : goal.returns
returns c =
    let l = c.loop-i in
    let a = c.args in
    back_end a.s.now (view_names a.self) (view_names l.r) l.i (omega arith) l.invariant
