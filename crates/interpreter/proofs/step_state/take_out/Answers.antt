use mathlib.Core.Path.{◌≡◌, refl, ap, ◌∙◌}
use mathlib.Core.Bool.{Bool}
use mathlib.Core.List.{List}
use Prim.Native.Nat.{ℕ, ◌≤◌, ◌<◌, ◌+◌}
use lib.ListN.{length, take, length-set}
use Rattle.values.proofs.Lists.{unmap}
use Rattle.sides.specs.declared.Side.{Side}
use Rattle.interpreter.proofs.StepLaws.{fill_more, fill_all, long_none, long_more, long_all}
use borrow.Author.Rules.{rules}
use native.Mathlib.Omega.{arith}
use Rattle.interpreter.proofs.step_state.take_out.Goals as goal

pub loop-k-init : goal.loop-k-init
loop-k-init c = (search rules, search rules, refl, refl, long_none _)

pub loop-k-preserved : goal.loop-k-preserved
loop-k-preserved c =
    let full : length c.args.s.sides ≡ 2 = search unmap in
    let l = c.loop-k in
    let e = c.lend_side.ensures in
    let k = l.k in
    let two : k < 2 = search rules in
    let words = fill_more (λ (o : Side). o.words) c.args.s.sides _ k _ (omega (arith, l.invariant.0)) (omega (arith, full)) l.invariant.2 in
    let left = fill_more (λ (o : Side). o.left) c.args.s.sides _ k _ (omega (arith, l.invariant.1)) (omega (arith, full)) l.invariant.3 in (
      ap length e.0 ∙ length-set l.rows _ _ ∙ l.invariant.0,
      ap length e.1 ∙ length-set l.marks _ _ ∙ l.invariant.1,
      ap (λ (y : List (List ℕ)). take (k + 1) y) e.0 ∙ words,
      ap (λ (y : List (List Bool)). take (k + 1) y) e.1 ∙ left,
      long_more c.args.s.sides k _ (omega (arith, full)) e.2 l.invariant.4,
    )

pub returns : goal.returns
returns c =
    let full : length c.args.s.sides ≡ 2 = search unmap in
    let l = c.loop-k in
    let over : 2 ≤ l.k = search rules in (
      fill_all (λ (o : Side). o.words) c.args.s.sides _ l.k (omega (arith, l.invariant.0)) (omega (arith, full)) l.invariant.2,
      fill_all (λ (o : Side). o.left) c.args.s.sides _ l.k (omega (arith, l.invariant.1)) (omega (arith, full)) l.invariant.3,
      long_all _ l.k over l.invariant.4,
    )
