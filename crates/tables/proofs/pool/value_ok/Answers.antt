-- `tables::pool::value_ok` meets its contract.
use mathlib.Core.Path.{ap, ◌∙◌}
use Rattle.std.specs.Option.{is_some}
use Rattle.tables.proofs.PoolLaws.{done_some}
use Rattle.tables.proofs.pool.value_ok.Goals as goal

pub returns : goal.returns
returns c = c.is_some.ensures ∙ ap is_some c.size_at.ensures ∙ done_some _ _
