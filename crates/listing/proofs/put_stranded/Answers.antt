use mathlib.Core.Path.{sym, subst}
use Prim.Native.Nat.{ℕ, ◌+◌}
use native.Mathlib.Omega.{arith}
use Rattle.listing.proofs.ListLaws.{Filled, filled_none, filled_all, filled_room, filled_more, filled_same}
use Rattle.listing.proofs.put_stranded.Goals as goal
use Rattle.listing.proofs.put_stranded.Goals.{then-is_stranded, else-is_stranded}

pub loop-k-init : goal.loop-k-init
loop-k-init c = filled_none c.args.msgs.now c.args.out.now

pub bounds-out-count : goal.bounds-out-count
bounds-out-count c =
    let at = c.loop-k in
    let room = filled_room c.args.msgs.now c.args.out.now c.requires.1 at.k at.count at.out at.invariant _ c.loop-k-test.true _ c.is_stranded.ensures c.if-is_stranded.true in
    omega (arith, room)

pub loop-k-preserved : goal.loop-k-preserved
loop-k-preserved c =
    let ms = c.args.msgs.now in
    let lent = c.args.out.now in
    let at = c.loop-k in
    let j = c.if-is_stranded in
    elim j.branch [
      | then-is_stranded b ↦
          let more = filled_more ms lent c.requires.1 at.k at.count at.out at.invariant _ c.loop-k-test.true _ c.is_stranded.ensures b.if-is_stranded.true in
          subst (λ (n : ℕ). Filled ms lent (at.k + 1) n j.out) (sym b.count-is) (subst (Filled ms lent (at.k + 1) (at.count + 1)) (sym b.out-is) more)
      | else-is_stranded b ↦
          let same = filled_same ms lent c.requires.1 at.k at.count at.out at.invariant _ c.loop-k-test.true _ c.is_stranded.ensures b.if-is_stranded.false in
          subst (λ (n : ℕ). Filled ms lent (at.k + 1) n j.out) (sym b.count-is) (subst (Filled ms lent (at.k + 1) at.count) (sym b.out-is) same)
    ]

pub returns : goal.returns
returns c = filled_all c.args.msgs.now c.args.out.now c.loop-k.out c.loop-k.k c.loop-k.count c.loop-k-test.false c.loop-k.invariant
