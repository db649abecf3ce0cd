-- The parts of the sides below k stand in the array.
use mathlib.Core.Path.{◌≡◌, refl, sym, ap, ◌∙◌}
use mathlib.Core.List.{List, [], map}
use Prim.Native.Nat.{ℕ, ◌*◌}
use lib.ListN.{length, get_or, set, take, drop, length-map, length-set}
use Rattle.sides.proofs.Lists.{map_set}
use Rattle.text.proofs.TextLaws.{part_inside, part_size, part_more}
use Rattle.model.specs.Wrapper.{all_sides}
use native.Mathlib.Omega.{arith}
use borrow.Author.Rules.{rules}
use Rattle.text.proofs.parts.Goals as goal

pub loop-k-init : goal.loop-k-init
loop-k-init c = (refl, λ j h. absurd (omega arith))

pub overflow_mul-from : goal.overflow_mul-from
overflow_mul-from c =
    let l = c.loop-k in
    let i = part_inside c.args.wide l.k (length all_sides) _ _ c.loop-k-test.true c.requires.0 (c.requires.1 l.k) in
    search (rules, i)

pub offset_bounds-counts-k : goal.offset_bounds-counts-k
offset_bounds-counts-k c =
    let l = c.loop-k in
    let i = part_inside c.args.wide l.k (length all_sides) _ _ c.loop-k-test.true c.requires.0 (c.requires.1 l.k) in
    search (rules, i)

pub overflow_add-all : goal.overflow_add-all
overflow_add-all c =
    let l = c.loop-k in
    let i = part_inside c.args.wide l.k (length all_sides) _ _ c.loop-k-test.true c.requires.0 (c.requires.1 l.k) in
    search (rules, i)

pub offset_bounds-list-from : goal.offset_bounds-list-from
offset_bounds-list-from c =
    let l = c.loop-k in
    let i = part_inside c.args.wide l.k (length all_sides) _ _ c.loop-k-test.true c.requires.0 (c.requires.1 l.k) in
    search (rules, i)

pub slice_bounds-all-count-in-loop-k : goal.slice_bounds-all-count-in-loop-k
slice_bounds-all-count-in-loop-k c =
    let l = c.loop-k in
    let i = part_inside c.args.wide l.k (length all_sides) _ _ c.loop-k-test.true c.requires.0 (c.requires.1 l.k) in
    search (rules, i)

pub slice_bounds-all-start-in-loop-k : goal.slice_bounds-all-start-in-loop-k
slice_bounds-all-start-in-loop-k c =
    let l = c.loop-k in
    let i = part_inside c.args.wide l.k (length all_sides) _ _ c.loop-k-test.true c.requires.0 (c.requires.1 l.k) in
    search (rules, i)

pub slice_bounds-all-end-in-loop-k : goal.slice_bounds-all-end-in-loop-k
slice_bounds-all-end-in-loop-k c =
    let l = c.loop-k in
    let i = part_inside c.args.wide l.k (length all_sides) _ _ c.loop-k-test.true c.requires.0 (c.requires.1 l.k) in
    search (rules, i)

pub loop-k-preserved : goal.loop-k-preserved
loop-k-preserved c =
    let l = c.loop-k in
    let n : length l.all ≡ length all_sides = sym (length-map l.all (λ x. x.now)) ∙ l.invariant.0 in (
      length-map (set l.all l.k _) (λ x. x.now) ∙ length-set l.all l.k _ ∙ n,
      λ j h. ap (λ (x : List (List ℕ)). get_or x j []) (map_set (λ x. x.now) l.all l.k _)
          ∙ part_more (map (λ x. x.now) l.all) l.k _ (λ (x : ℕ). take (get_or c.args.counts x 0) (drop (c.args.wide * x) c.args.list.now)) (omega (arith, l.invariant.0, c.loop-k-test.true))
          (part_size (c.args.wide * l.k) (get_or c.args.counts l.k 0) _) l.invariant.1 j h,
    )

pub returns : goal.returns
returns c = let l = c.loop-k in (l.invariant.0, λ k h. l.invariant.1 k (omega (arith, h, c.loop-k-test.false)))
