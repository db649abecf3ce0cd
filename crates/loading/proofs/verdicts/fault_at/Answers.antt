use mathlib.Core.Path.{sym, ◌∙◌}
use Rattle.model.specs.Wrapper.{described}
use Rattle.tables.specs.Nodes.{table}
use Rattle.loading.proofs.Faults.{fault_has, fault_lacks}
use Rattle.loading.proofs.verdicts.fault_at.Goals as goal

pub returns-then-has_side : goal.returns-then-has_side
returns-then-has_side c =
    let t = table c.args.nodes.now c.args.pool.now in
    c.side_verdict.ensures c.args.n ∙ sym (fault_has (described c.args.wrapper) c.args.n t (sym c.has_side.ensures ∙ c.if-has_side.true))

pub returns-else-has_side : goal.returns-else-has_side
returns-else-has_side c =
    let t = table c.args.nodes.now c.args.pool.now in
    c.lack_verdict.ensures ∙ sym (fault_lacks (described c.args.wrapper) c.args.n t (sym c.has_side.ensures ∙ c.if-has_side.false))
