-- `scopes::names::Names::with_outer` meets its contract.
use Rattle.std.proofs.Common.{rules, ◌≡◌, length}
use native.Mathlib.Omega.{arith}
use Rattle.scopes.proofs.NameLaws.{outer_in, outer_full}
use Rattle.scopes.proofs.names.Names.with_outer.Goals as goal

pub returns-then-n-gt0 : goal.returns-then-n-gt0
returns-then-n-gt0 c =
    let a = c.args in
    let full : length a.self.rows ≡ 8 = search rules in
    outer_in a.self.rows a.self.top a.w full c.min-n.result c.min-n.ensures c.if-n-gt0.true

pub returns-else-n-gt0 : goal.returns-else-n-gt0
returns-else-n-gt0 c =
    let a = c.args in
    let full : length a.self.rows ≡ 8 = search rules in
    outer_full a.self.rows a.self.top a.w full (omega (arith, c.min-n.ensures))
