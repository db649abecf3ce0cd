use Rattle.sides.specs.Sides.{core_of}
use Rattle.steps.specs.Asked.{known_by}
use Rattle.dispatch.specs.Stepping.{setting_of}
use Rattle.dispatch.proofs.ByKind.{own_sane, step_by, ten_is, kind_is, own_two, own_words}
use Rattle.dispatch.proofs.own_side.own_step.Goals as goal

pub entering-requires : goal.entering-requires
entering-requires c =
    let a = c.args in
    (own_sane (setting_of a.wrapper a.side a.nodes.now a.pool.now) a.rows.now a.o c.requires.0, c.requires.1)

pub returns-then-kind-eq1 : goal.returns-then-kind-eq1
returns-then-kind-eq1 c =
    λ sh n.
    let a = c.args in
    let b = setting_of a.wrapper a.side a.nodes.now a.pool.now in
    step_by (kind_is b (known_by a.marks.now) sh (core_of a.rows.now a.o) n a.i a.j a.words.now a.kind 1 c.if-kind-eq1.true)
    (c.entering.ensures b.side a.nodes.now a.pool.now sh n)

pub returns-in_default : goal.returns-in_default
returns-in_default c =
    λ sh n.
    let a = c.args in
    let b = setting_of a.wrapper a.side a.nodes.now a.pool.now in
    let unmet = c.in_default.ensures in
    let refusal = own_words b (known_by a.marks.now) sh (core_of a.rows.now a.o) n a.i a.j a.words.now a.kind c.if-kind-eq1.false c.requires.2 unmet.1 in
    ten_is refusal unmet.0 c.in_default.is c.refused.ensures

pub returns : goal.returns
returns c =
    λ sh n.
    let a = c.args in
    let b = setting_of a.wrapper a.side a.nodes.now a.pool.now in
    let p = c.in-At.ensures in
    let same = own_two b (known_by a.marks.now) sh (core_of a.rows.now a.o) n a.i a.j a.words.now a.kind c.if-kind-eq1.false c.requires.2 p.1 _ p.0 in
    step_by same c.two_places.ensures
