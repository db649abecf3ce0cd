use mathlib.Core.Path.{◌∙◌}
use native.Mathlib.Omega.{arith}
use lib.ListN.{take, length-take}
use Rattle.listing.proofs.ListLaws.{count_positions, listed_short, listed_all}
use Rattle.listing.proofs.list_stranded.Goals as goal

pub returns-then-out-n : goal.returns-then-out-n
returns-then-out-n c =
    let n = c.count_stranded-n in
    listed_short _ _ n.result (n.ensures ∙ count_positions 0 _) c.if-out-n.true _

pub put_stranded-requires : goal.put_stranded-requires
put_stranded-requires c =
    let l = c.args.l in
    let n = c.count_stranded-n in
    (omega (arith, length-take l.len l.msgs), omega (arith, n.ensures ∙ count_positions 0 (take l.len l.msgs)))

pub returns : goal.returns
returns c =
    let n = c.count_stranded-n in
    listed_all _ _ n.result (n.ensures ∙ count_positions 0 _) c.if-out-n.false _ c.put_stranded.ensures
