use borrow.Author.Rules.{rules}
use Rattle.sides.specs.Sides.{core_of}
use Rattle.wrappers.proofs.Described.{copies_are}
use Rattle.dispatch.specs.Stepping.{setting_of}
use Rattle.dispatch.proofs.ByKind.{own_sane, step_by, ten_is, two_descend, two_meet, two_one, two_bad}
use Rattle.dispatch.proofs.own_side.two_places.Goals as goal

pub descend-requires : goal.descend-requires
descend-requires c =
    let a = c.args in
    own_sane (setting_of a.wrapper a.side a.nodes.now a.pool.now) a.rows.now a.o c.requires

pub returns-in-4 : goal.returns-in-4
returns-in-4 c =
    let a = c.args in
    let b = setting_of a.wrapper a.side a.nodes.now a.pool.now in
    step_by (two_descend b (core_of a.rows.now a.o) a.kind a.i a.j c.in-4.is) c.descend.ensures

pub returns-in-5 : goal.returns-in-5
returns-in-5 c =
    let a = c.args in
    let b = setting_of a.wrapper a.side a.nodes.now a.pool.now in
    step_by (two_meet b (core_of a.rows.now a.o) a.kind a.i a.j c.in-5.is) c.meet.ensures

pub returns-in_default-a : goal.returns-in_default-a
returns-in_default-a c =
    let a = c.args in
    let b = setting_of a.wrapper a.side a.nodes.now a.pool.now in
    let unmet = c.in_default-a.ensures in
    ten_is (two_bad b (core_of a.rows.now a.o) a.kind a.i a.j (search rules) (search rules) unmet.1) unmet.0 c.in_default-a.is c.refused.ensures

pub one_place-requires : goal.one_place-requires
one_place-requires c =
    let a = c.args in
    let b = setting_of a.wrapper a.side a.nodes.now a.pool.now in
    let p = c.in-At.ensures in
    (own_sane b a.rows.now a.o c.requires, record { first = p.1.0; last = p.1.1; not_4 = search rules; not_5 = search rules })

pub returns-in-At : goal.returns-in-At
returns-in-At c =
    let a = c.args in
    let b = setting_of a.wrapper a.side a.nodes.now a.pool.now in
    let p = c.in-At.ensures in
    let t = c.has_shelf in
    let same = two_one b (core_of a.rows.now a.o) a.kind a.i a.j (search rules) (search rules) p.1.2 t.result t.ensures _ (copies_are a.wrapper _ c.has_log.ensures) _ p.0 in
    step_by same c.one_place.ensures
