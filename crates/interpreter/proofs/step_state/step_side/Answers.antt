use mathlib.Core.Path.{◌≡◌, refl, ap, ◌∙◌}
use Prim.Native.Nat.{◌<◌}
use lib.ListN.{length, length-map}
use Rattle.values.proofs.Lists.{unmap}
use Rattle.sides.specs.declared.Side.{Side}
use Rattle.loading.proofs.Starting.{has_number}
use Rattle.dispatch.specs.Stepping.{asked}
use Rattle.dispatch.proofs.InState.{step_short}
use Rattle.interpreter.proofs.StepLaws.{own, shelves, result}
use native.Mathlib.Omega.{arith}
use borrow.Author.Rules.{rules}
use Rattle.interpreter.proofs.step_state.step_side.Goals as goal

pub place_of-k-requires : goal.place_of-k-requires
place_of-k-requires c =
    let w = c.args.wrapper in
    let n = c.args.side in
    let i = has_number w n c.requires.2 in
    i.0

pub bounds-s-k : goal.bounds-s-k
bounds-s-k c =
    let w = c.args.wrapper in
    let n = c.args.side in
    let i = has_number w n c.requires.2 in
    let k = c.place_of-k in
    omega (arith, i.0, i.1, k.ensures)

pub bounds-nodes-k : goal.bounds-nodes-k
bounds-nodes-k c =
    let w = c.args.wrapper in
    let n = c.args.side in
    let i = has_number w n c.requires.2 in
    let k = c.place_of-k in
    omega (arith, i.0, i.1, k.ensures)

pub bounds-pools-k : goal.bounds-pools-k
bounds-pools-k c =
    let w = c.args.wrapper in
    let n = c.args.side in
    let i = has_number w n c.requires.2 in
    let k = c.place_of-k in
    omega (arith, i.0, i.1, k.ensures)

pub side_step-d-requires : goal.side_step-d-requires
side_step-d-requires c =
    let w = c.args.wrapper in
    let ts = c.args.nodes in
    let us = c.args.pools in
    let s = c.args.s in
    let n = c.args.side in
    let tl : length ts ≡ 2 = search (rules, c.well_formed) in
    let ul : length us ≡ 2 = search (rules, c.well_formed) in
    let full : length s.sides ≡ 2 = search unmap in
    let t = c.take_out in
    let i = has_number w n c.requires.2 in
    let k = c.place_of-k in
    let lw = ap length t.ensures.0 ∙ length-map s.sides (λ (o : Side). o.words) ∙ full in
    let lm = ap length t.ensures.1 ∙ length-map s.sides (λ (o : Side). o.left) ∙ full in
    let fits = c.requires.0 in
    let ready = c.requires.1 in
    let has = c.requires.2 in
    let words = t.ensures.0 in
    let marks = t.ensures.1 in
    let long = t.ensures.2 in
    let shelved = c.shelved_in-shelved.ensures in
    let may = own (λ c. c.now) w ts us _ _ s _ n k.result tl ul full long fits ready has k.ensures _ _ _ words marks shelved in
    (lw, lm, i.0, omega (arith, i.0, i.1), may, shelves s full long fits _ _ words shelved)

pub mark_left-requires : goal.mark_left-requires
mark_left-requires c =
    let w = c.args.wrapper in
    let n = c.args.side in
    let s = c.args.s in
    let full : length s.sides ≡ 2 = search unmap in
    let t = c.take_out in
    let i = has_number w n c.requires.2 in
    let lm = ap length t.ensures.1 ∙ length-map s.sides (λ (o : Side). o.left) ∙ full in
    let d = c.side_step-d in
    let is = d.ensures n in
    (lm, i.0, omega (arith, i.0, i.1), step_short _ _ _ _ d.result is.step)

pub offset_bounds-rows-k : goal.offset_bounds-rows-k
offset_bounds-rows-k c =
    let w = c.args.wrapper in
    let n = c.args.side in
    let i = has_number w n c.requires.2 in
    let k = c.place_of-k in
    let z : k.result < 2 = omega (arith, i.0, i.1, k.ensures) in
    search (rules, z)

pub bounds-rows-k : goal.bounds-rows-k
bounds-rows-k c =
    let w = c.args.wrapper in
    let n = c.args.side in
    let i = has_number w n c.requires.2 in
    let k = c.place_of-k in
    omega (arith, i.0, i.1, k.ensures)

pub offset_bounds-marks-k : goal.offset_bounds-marks-k
offset_bounds-marks-k c =
    let w = c.args.wrapper in
    let n = c.args.side in
    let i = has_number w n c.requires.2 in
    let k = c.place_of-k in
    let z : k.result < 2 = omega (arith, i.0, i.1, k.ensures) in
    search (rules, z)

pub bounds-marks-k : goal.bounds-marks-k
bounds-marks-k c =
    let w = c.args.wrapper in
    let n = c.args.side in
    let i = has_number w n c.requires.2 in
    let k = c.place_of-k in
    omega (arith, i.0, i.1, k.ensures)

pub put_at-after-requires : goal.put_at-after-requires
put_at-after-requires c =
    let w = c.args.wrapper in
    let n = c.args.side in
    let i = has_number w n c.requires.2 in
    let k = c.place_of-k in
    omega (arith, i.0, i.1, k.ensures)

pub returns : goal.returns
returns c =
    let w = c.args.wrapper in
    let ts = c.args.nodes in
    let us = c.args.pools in
    let s = c.args.s in
    let n = c.args.side in
    let tl : length ts ≡ 2 = search (rules, c.well_formed) in
    let ul : length us ≡ 2 = search (rules, c.well_formed) in
    let state = c.well_formed.1.1.1.0 in
    let full : length s.sides ≡ 2 = search (unmap, state) in
    let t = c.take_out in
    let k = c.place_of-k in
    let d = c.side_step-d in
    let is = d.ensures n in
    let fits = c.requires.0 in
    let ready = c.requires.1 in
    let has = c.requires.2 in
    let words = t.ensures.0 in
    let marks = t.ensures.1 in
    let long = t.ensures.2 in
    let shelved = c.shelved_in-shelved.ensures in
    let y = asked c.args.kind n c.args.i c.args.j c.args.words.now in
    let marked = c.mark_left.ensures in
    let put = c.put_at-after in
    let given = c.answered in
    result (λ c. c.now) w ts us _ _ s _ n k.result tl ul full long fits ready has k.ensures _ _ _ words marks shelved
    y refl _ _ d.result is marked _ _ put.result given.result put.ensures given.ensures
