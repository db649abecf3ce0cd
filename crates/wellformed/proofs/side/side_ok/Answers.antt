-- Test by test.
use Rattle.std.proofs.Common.{◌≡◌, ◌*◌, length, rules}
use borrow.Author.Tests.{eq-eqb}
use Rattle.model.specs.Basics.{◌&◌}
use Rattle.model.specs.Wrapper.{all_sides}
use Rattle.wellformed.specs.Clauses.{side_fits}
use Rattle.wellformed.proofs.side.side_ok.Goals as goal

pub returns-then-left_ok : goal.returns-then-left_ok
unfolding side_fits ◌&◌
returns-then-left_ok c =
    let left : length c.args.o.now.left ≡ 256 * length all_sides = search rules in
    let taken : length c.args.o.now.rest.taken ≡ 32 * length all_sides = search rules in
    search (rules, eq-eqb _ _ left, eq-eqb _ _ taken)

pub returns-else-left_ok : goal.returns-else-left_ok
unfolding side_fits ◌&◌
returns-else-left_ok c =
    let left : length c.args.o.now.left ≡ 256 * length all_sides = search rules in
    search (rules, eq-eqb _ _ left)
