-- The parts of the sides below k stand in the array.
use mathlib.Core.Path.{◌≡◌, refl, sym, ap, ◌∙◌}
use mathlib.Core.List.{List, [], map}
use Prim.Native.Nat.{ℕ, ◌+◌, ◌*◌}
use lib.ListN.{length, get_or, set, length-map, length-set}
use Rattle.model.specs.Wrapper.{all_sides}
use Rattle.sides.proofs.Lists.{map_set}
use Rattle.text.proofs.TextLaws.{part_more}
use Rattle.embed.specs.Lent.{part_at}
use Rattle.embed.proofs.PartLaws.{parts_are}
use native.Mathlib.Omega.{arith}
use Rattle.embed.proofs.parts.parts.Goals as goal

pub loop-k-init : goal.loop-k-init
loop-k-init c = (refl, λ j h. absurd (omega arith))

pub loop-k-preserved : goal.loop-k-preserved
loop-k-preserved c =
    let l = c.loop-k in
    let n : length l.all ≡ length all_sides = sym (length-map l.all (λ x. x.now)) ∙ l.invariant.0 in (
      length-map (set l.all l.k _) (λ x. x.now) ∙ length-set l.all l.k _ ∙ n,
      λ j h. ap (λ (x : List (List ℕ)). get_or x j []) (map_set (λ x. x.now) l.all l.k _)
          ∙ part_more (map (λ x. x.now) l.all) l.k _ (λ (x : ℕ). part_at c.args.words.now c.args.lengths.now (2 * x + c.args.first)) (omega (arith, l.invariant.0, c.loop-k-test.true))
          c.part.ensures l.invariant.1 j h,
    )

pub returns : goal.returns
returns c =
    let l = c.loop-k in
    parts_are c.args.first c.args.words.now c.args.lengths.now (map (λ x. x.now) l.all) l.invariant.0 (λ j h. l.invariant.1 j (omega (arith, h, c.loop-k-test.false)))
