use mathlib.Core.Path.{◌≡◌, sym}
use lib.ListN.{length}
use lib.Seq.{set_out}
use borrow.Author.Rules.{rules}
use native.Mathlib.Omega.{arith}
use Rattle.environments.proofs.long.Sizes.put.Goals as goal

pub returns-else-x-lt-NAMES : goal.returns-else-x-lt-NAMES
returns-else-x-lt-NAMES c = let full : length c.args.self.of ≡ 64 = search rules in sym (set_out _ _ _ (omega arith))
