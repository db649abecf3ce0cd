-- The nodes are written of only where the checks passed.
use Rattle.tables.specs.Nodes.{table}
use Rattle.tables.proofs.CheckLaws.{passed}
use Rattle.tables_test.proofs.report.Goals as goal

pub write_scopes-requires : goal.write_scopes-requires
write_scopes-requires c =
    let t = table c.args.nodes.now c.args.pool.now in
    passed t c.check.result _ c.check.ensures c.in-Ok.is
