use mathlib.Core.Path.{◌≡◌}
use lib.ListN.{length}
use Rattle.model.specs.Table.{term}
use Rattle.tables.specs.Nodes.{table}
use Rattle.scopes.proofs.ScopeBound.{walks_at}
use Rattle.environments.proofs.Sizes.{too_long_is}
use borrow.Author.Rules.{rules}
use Rattle.environments.proofs.long.too_long.Goals as goal

pub long_in-requires : goal.long_in-requires
long_in-requires c =
    let t = table c.args.nodes.now c.args.pool.now in
    walks_at t c.requires.0 c.args.node c.requires.1

pub returns : goal.returns
returns c =
    let t = table c.args.nodes.now c.args.pool.now in
    let ts = c.sizes_of.result.of in
    let full : length ts ≡ 64 = search rules in
    too_long_is c.args.e.now c.args.n c.requires.2 ts full c.sizes_of.ensures (term t c.args.node) _ c.long_in.ensures
