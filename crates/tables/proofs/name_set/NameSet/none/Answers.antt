-- `tables::name_set::NameSet::none` meets its contract.
use mathlib.Core.Bool.{false}
use Rattle.tables.proofs.PoolLaws.{same_everywhere}
use Rattle.tables.proofs.name_set.NameSet.none.Goals as goal

pub returns : goal.returns
returns c = λ m. same_everywhere 64 m false
