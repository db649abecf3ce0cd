use Rattle.model.specs.Table.{term}
use Rattle.tables.specs.Nodes.{table}
use Rattle.sides.specs.Environments.{env_of}
use Rattle.meeting.proofs.PairLaws.{body_15, body_16, body_at}
use Rattle.meeting.proofs.pairs.body_offer.Goals as goal

pub returns-then-not-defined_at : goal.returns-then-not-defined_at
returns-then-not-defined_at c =
    let a = c.args in
    body_15 a.d (term (table a.nodes.now a.pool.now) a.n) (env_of a.e.now a.d) c.defined_at.ensures c.if-not-defined_at.true

pub returns-then-too_long : goal.returns-then-too_long
returns-then-too_long c =
    let a = c.args in
    let yes = c.if-not-defined_at.false in
    body_16 a.d (term (table a.nodes.now a.pool.now) a.n) (env_of a.e.now a.d) c.defined_at.ensures yes c.too_long.ensures c.if-too_long.true

pub returns : goal.returns
returns c =
    let a = c.args in
    let yes = c.if-not-defined_at.false in
    body_at a.d (term (table a.nodes.now a.pool.now) a.n) (env_of a.e.now a.d) c.defined_at.ensures yes c.too_long.ensures c.if-too_long.false
