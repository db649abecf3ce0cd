-- `tables::nodes::field_at` meets its contract.
use mathlib.Core.Path.{sym}
use lib.ListN.{get_or-eq_default}
use native.Mathlib.Omega.{arith}
use Rattle.tables.proofs.nodes.field_at.Goals as goal

pub returns-else-n-nodes : goal.returns-else-n-nodes
returns-else-n-nodes c = λ pool. sym (get_or-eq_default c.args.nodes.now 0 (omega arith))
