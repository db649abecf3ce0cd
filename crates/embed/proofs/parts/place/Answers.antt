use native.Mathlib.Omega.{arith}
use mathlib.Core.List.{[]}
use lib.ListN.{take}
use Rattle.embed.proofs.PartLaws.{total_none, total_more}
use Rattle.embed.proofs.parts.place.Goals as goal

pub loop-n-init : goal.loop-n-init
loop-n-init c = omega (arith, total_none [])

pub loop-n-preserved : goal.loop-n-preserved
loop-n-preserved c =
    let more = total_more (take c.min.result c.args.lengths.now) c.loop-n.n-index in
    let added = c.saturating_add.ensures in
    let kept = c.min-at.ensures in
    let i = c.loop-n.invariant in
    omega (arith, i, more, added, kept)
