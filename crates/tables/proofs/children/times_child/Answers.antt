use Rattle.std.proofs.Common.{rules, ◌∙◌}
use lib.ListN.{get_or-replicate}
use Rattle.tables.proofs.FieldLaws.{times_none, times_more, times_all}
use native.Mathlib.Omega.{arith}
use Rattle.tables.proofs.children.times_child.Goals as goal

pub loop-n-init : goal.loop-n-init
loop-n-init c = (search rules, λ pool m h. times_none _ pool m _ (get_or-replicate 256 m 0 0 h))

pub loop-n-preserved : goal.loop-n-preserved
loop-n-preserved c =
    let l = c.loop-n in (
      c.count_node.ensures.len ∙ l.invariant.0,
      λ pool m h. times_more _ pool l.n _ c.node_at.ensures m l.of _ (omega (arith, l.invariant.0)) c.count_node.ensures (l.invariant.1 pool m h),
    )

pub returns : goal.returns
returns c = let l = c.loop-n in λ pool m h. times_all _ pool m _ l.n _ (omega arith) (l.invariant.1 pool m h)
