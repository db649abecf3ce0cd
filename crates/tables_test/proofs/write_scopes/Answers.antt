-- Node 0 is in a table that passes the checks, and a walk may start there.
use Rattle.tables.specs.Nodes.{table}
use Rattle.scopes.proofs.ScopeBound.{passes_checked, walks_at}
use Rattle.tables_test.proofs.write_scopes.Goals as goal

pub unfolded_at-u-requires : goal.unfolded_at-u-requires
unfolded_at-u-requires c =
    let t = table c.args.nodes.now c.args.pool.now in
    (c.requires, (passes_checked t c.requires).some)

pub clear-free-requires : goal.clear-free-requires
clear-free-requires c =
    let t = table c.args.nodes.now c.args.pool.now in
    walks_at t c.requires 0 (passes_checked t c.requires).some
