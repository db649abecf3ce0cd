use Rattle.std.proofs.Common.{◌∙◌}
use Rattle.tables.proofs.ScopeLaws.{node_over}
use Rattle.tables.proofs.scope.node_if_over.Goals as goal

pub returns : goal.returns
returns c = c.then_some.ensures ∙ node_over c.args.k c.args.n c.requires
