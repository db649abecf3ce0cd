use Rattle.sides.specs.Sides.{core_of}
use Rattle.steps.specs.Asked.{known_by}
use Rattle.wrappers.proofs.Described.{copies_are}
use Rattle.dispatch.specs.Stepping.{setting_of}
use Rattle.dispatch.proofs.ByKind.{step_by, ten_is, enter_on, enter_off}
use Rattle.dispatch.proofs.own_side.entering.Goals as goal

pub returns-in_default : goal.returns-in_default
returns-in_default c =
    λ side ns ps sh n.
    let a = c.args in
    let b = setting_of a.wrapper side ns ps in
    let unmet = c.in_default.ensures in
    ten_is (enter_off b (known_by a.marks.now) sh (core_of a.rows.now a.o) n a.i a.j a.words.now unmet.1) unmet.0 c.in_default.is c.refused.ensures

pub returns : goal.returns
returns c =
    λ side ns ps sh n.
    let a = c.args in
    let b = setting_of a.wrapper side ns ps in
    let w = c.in-At.ensures in
    let all = enter_on b (known_by a.marks.now) sh (core_of a.rows.now a.o) n a.i a.j a.words.now w.1 _ (copies_are a.wrapper _ c.has_log.ensures) _ w.0 in
    step_by all c.enter.ensures
