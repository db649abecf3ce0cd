use mathlib.Core.Path.{◌∙◌}
use mathlib.Core.List.{[]}
use Prim.Native.Nat.{◌+◌, ◌≤◌}
use lib.ListN.{length, get_or}
use Rattle.model.specs.Wrapper.{all_sides}
use Rattle.wrappers.proofs.Described.{source_in}
use Rattle.sides.specs.Sides.{core_of}
use Rattle.steps.specs.Asked.{known_by}
use Rattle.dispatch.specs.Stepping.{setting_of}
use Rattle.dispatch.specs.Sharing.{shelves_in}
use Rattle.dispatch.proofs.ByKind.{step_by, ten_is, take_words, take_none, take_from}
use Rattle.dispatch.proofs.AllSides.{take_is, source_is}
use native.Mathlib.Omega.{arith}
use Rattle.dispatch.proofs.all_sides.taking.Goals as goal
use Rattle.dispatch.proofs.all_sides.taking.Goals.{In-At-f}

-- the place that the route leads from
inside : (p : In-At-f) → p.in-At-f.p + 1 ≤ length all_sides
inside p = (source_in p.args.wrapper p.args.side p.args.j _ p.in-At-f.ensures).1

pub returns-in_default : goal.returns-in_default
returns-in_default c =
    λ nodes pool ms n.
    let a = c.args in
    let l = get_or a.rows.now a.k [] in
    let b = setting_of a.wrapper a.side nodes pool in
    let unmet = c.in_default.ensures in
    ten_is (take_words b (known_by ms) (shelves_in a.rows.now a.shelved) (core_of l a.o) n a.i a.j a.words.now unmet.1) unmet.0 c.in_default.is c.refused.ensures

pub returns-in_default-f : goal.returns-in_default-f
returns-in_default-f c =
    λ nodes pool ms n.
    let a = c.args in
    let l = get_or a.rows.now a.k [] in
    let b = setting_of a.wrapper a.side nodes pool in
    let unmet = c.in_default-f.ensures in
    ten_is (take_none b (known_by ms) (shelves_in a.rows.now a.shelved) (core_of l a.o) n a.i a.j a.words.now c.in-At.ensures.1 unmet.1) unmet.0 c.in_default-f.is c.refused-in_default-f.ensures

pub offset_bounds-rows-p : goal.offset_bounds-rows-p
offset_bounds-rows-p c = omega (arith, inside (goal.at.offset_bounds-rows-p c).In-At-f)

pub bounds-rows-p : goal.bounds-rows-p
bounds-rows-p c = omega (arith, inside (goal.at.bounds-rows-p c).In-At-f, c.requires.0)

pub offset_bounds-shelved-p : goal.offset_bounds-shelved-p
offset_bounds-shelved-p c = omega (arith, inside (goal.at.offset_bounds-shelved-p c).In-At-f)

pub bounds-shelved-p : goal.bounds-shelved-p
bounds-shelved-p c = omega (arith, inside (goal.at.bounds-shelved-p c).In-At-f)

pub overflow_add-p : goal.overflow_add-p
overflow_add-p c = omega (arith, inside (goal.at.overflow_add-p c).In-At-f)

pub take-requires : goal.take-requires
take-requires c = (c.requires.2, source_is c.args.rows.now c.args.shelved _ c.requires.3 (inside (goal.at.take-requires c).In-At-f))

pub returns : goal.returns
returns c =
    λ nodes pool ms n.
    let a = c.args in
    let l = get_or a.rows.now a.k [] in
    let b = setting_of a.wrapper a.side nodes pool in
    let sh = shelves_in a.rows.now a.shelved in
    let s = core_of l a.o in
    let q = c.in-At.ensures in
    let same = take_from b (known_by ms) sh s n a.i a.j a.words.now q.1 _ c.in-At-f.ensures ∙ take_is a.rows.now a.shelved _ s a.i _ q.0 in
    step_by same c.take.ensures
