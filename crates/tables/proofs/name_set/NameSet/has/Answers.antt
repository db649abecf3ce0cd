-- `tables::name_set::NameSet::has` meets its contract.
use mathlib.Core.Path.{◌≡◌, sym, ◌∙◌}
use borrow.Author.Tests.{le-ltb}
use mathlib.Core.Bool.{false}
use lib.ListN.{length, get_or-eq_default}
use native.Mathlib.Omega.{arith}
use borrow.Author.Rules.{rules}
use Rattle.tables.proofs.name_set.NameSet.has.Goals as goal

pub returns-else-x-lt-NAMES : goal.returns-else-x-lt-NAMES
returns-else-x-lt-NAMES c =
    let full : length c.args.self.on ≡ 64 = search rules in
    le-ltb c.args.x 64 c.if-x-lt-NAMES.false ∙ sym (get_or-eq_default c.args.self.on false {n = c.args.x} (omega arith))
