use Rattle.model.specs.Basics.{◌&◌}
use Rattle.model.specs.Checks.{check1}
use native.Mathlib.Omega.{arith}
use Rattle.std.proofs.lemmas.Grind.{common_steps}
use Rattle.tables.proofs.checks.sizes_ok.Goals.{then-nodes-eq0, else-nodes-eq0, then-count-ge1, else-count-ge1}
use Rattle.tables.proofs.checks.sizes_ok.Goals as goal

pub returns-then-count-le-NODES : goal.returns-then-count-le-NODES
unfolding check1 ◌&◌
returns-then-count-le-NODES c = grind (arith, common_steps)

pub returns-else-count-le-NODES : goal.returns-else-count-le-NODES
unfolding check1 ◌&◌
returns-else-count-le-NODES c = grind (arith, common_steps)
