use Rattle.values.proofs.Storing.{stores_short}
use native.Mathlib.Omega.{arith}
use Rattle.values.proofs.Value.name.Goals as goal

pub returns : goal.returns
returns c = stores_short _ _ c.of.ensures (omega arith)
