use mathlib.Core.Path.{sym, ◌∙◌}
use Rattle.model.specs.Wrapper.{described}
use Rattle.tables.specs.Nodes.{table}
use Rattle.execution.proofs.BeginLaws.{begins_started, begins_empty}
use Rattle.execution.proofs.beginning.begin.Goals as goal

pub start_of-requires : goal.start_of-requires
start_of-requires c =
    (c.requires.0 (sym c.has_side.ensures ∙ c.if-has_side.true), c.requires.1)

pub returns-then-has_side : goal.returns-then-has_side
returns-then-has_side c =
    let t = table c.args.nodes.now c.args.pool.now in
    let has = sym c.has_side.ensures ∙ c.if-has_side.true in
    begins_started (described c.args.wrapper) c.args.n t _ _ has c.start_of.ensures

pub returns : goal.returns
returns c =
    let t = table c.args.nodes.now c.args.pool.now in
    let lacks = sym c.has_side.ensures ∙ c.if-has_side.false in
    begins_empty (described c.args.wrapper) c.args.n t _ _ lacks c.empty.ensures c.requires.1
