use Rattle.std.proofs.Common.{sym, ◌∙◌}
use Rattle.tables.specs.Nodes.{table}
use Rattle.loading.proofs.Faults.{lack_none, lack_nodes, lack_pool}
use Rattle.loading.proofs.verdicts.lack_verdict.Goals.{else-is_empty-via-then-is_empty+else-is_empty-2, else-is_empty-via-else-is_empty}
use Rattle.loading.proofs.verdicts.lack_verdict.Goals as goal

pub returns-then-is_empty-2 : goal.returns-then-is_empty-2
returns-then-is_empty-2 c =
    let t = table c.args.nodes.now c.args.pool.now in
    lack_none t (sym c.is_empty.ensures ∙ c.if-is_empty.true) (sym c.is_empty-then-is_empty.ensures ∙ c.if-is_empty-2.true)

pub returns-else-is_empty : goal.returns-else-is_empty
returns-else-is_empty c =
    let t = table c.args.nodes.now c.args.pool.now in
    elim c.else-is_empty.branch [
      | else-is_empty-via-then-is_empty+else-is_empty-2 w ↦
          lack_pool t (sym c.is_empty.ensures ∙ w.if-is_empty.true) (sym w.is_empty-then-is_empty.ensures ∙ w.if-is_empty-2.false)
      | else-is_empty-via-else-is_empty w ↦ lack_nodes t (sym c.is_empty.ensures ∙ w.if-is_empty.false)
    ]
