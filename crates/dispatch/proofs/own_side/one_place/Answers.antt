use borrow.Author.Rules.{rules}
use Rattle.wrappers.specs.Copies.{log_if}
use Rattle.sides.specs.Sides.{core_of}
use Rattle.steps.specs.Asked.{with_shelf}
use Rattle.dispatch.proofs.ByKind.{step_by, one_down, one_up, one_pass, one_leave}
use Rattle.dispatch.proofs.own_side.one_place.Goals as goal

pub returns-in-2 : goal.returns-in-2
returns-in-2 c =
    let a = c.args in
    step_by (one_down (with_shelf a.shelving) (log_if a.logging) (core_of a.rows.now a.o) a.kind a.i c.in-2.is) c.down.ensures

pub returns-in-3 : goal.returns-in-3
returns-in-3 c =
    let a = c.args in
    step_by (one_up (with_shelf a.shelving) (log_if a.logging) (core_of a.rows.now a.o) a.kind a.i c.in-3.is) c.up.ensures

pub returns-in-6 : goal.returns-in-6
returns-in-6 c =
    let a = c.args in
    step_by (one_pass (with_shelf a.shelving) (log_if a.logging) (core_of a.rows.now a.o) a.kind a.i c.in-6.is) c.pass.ensures

pub returns-in_default : goal.returns-in_default
returns-in_default c =
    let a = c.args in
    step_by (one_leave (with_shelf a.shelving) (log_if a.logging) (core_of a.rows.now a.o) a.kind a.i c.requires.1 (search rules) (search rules) (search rules)) c.leave.ensures
