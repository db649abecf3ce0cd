-- `tables::name_set::NameSet::put` meets its contract.
use mathlib.Core.Path.{◌≡◌, sym}
use lib.ListN.{length}
use lib.Seq.{set_out}
use native.Mathlib.Omega.{arith}
use borrow.Author.Rules.{rules}
use Rattle.tables.proofs.name_set.NameSet.put.Goals as goal

pub returns-else-x-lt-NAMES : goal.returns-else-x-lt-NAMES
returns-else-x-lt-NAMES c = let full : length c.args.self.on ≡ 64 = search rules in sym (set_out _ _ _ (omega arith))
