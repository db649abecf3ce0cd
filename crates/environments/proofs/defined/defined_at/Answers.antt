use mathlib.Core.Path.{◌≡◌}
use lib.ListN.{length}
use Rattle.tables.specs.Nodes.{table}
use Rattle.scopes.proofs.ScopeBound.{walks_at}
use Rattle.environments.proofs.TupleNames.{defined_is}
use borrow.Author.Rules.{rules}
use Rattle.environments.proofs.defined.defined_at.Goals as goal

pub clear-requires : goal.clear-requires
clear-requires c =
    let t = table c.args.nodes.now c.args.pool.now in
    walks_at t c.requires.0 c.args.node c.requires.1

pub returns : goal.returns
returns c =
    let t = table c.args.nodes.now c.args.pool.now in
    let ts = c.tuple_names.result.on in
    let full : length ts ≡ 64 = search rules in
    defined_is c.args.e.now c.args.n c.requires.2 ts full c.tuple_names.ensures t c.requires.0 c.args.node c.requires.1 _ c.clear.ensures
