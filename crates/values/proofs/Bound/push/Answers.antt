-- A part is written at the count where there is room; a full array stays as it is.
use mathlib.Core.Path.{◌≡◌}
use lib.ListN.{length}
use borrow.Author.Rules.{rules}
use Rattle.values.proofs.Lists.{unmap}
use Rattle.values.proofs.Matches.{bound_in, bound_out}
use Rattle.values.proofs.Bound.push.Goals as goal

pub returns-then-self-lt-MOST : goal.returns-then-self-lt-MOST
returns-then-self-lt-MOST c = λ v.
    let full : length c.args.self.rows ≡ 8 = search (rules, unmap) in
    bound_in v c.args.self _ full c.if-self-lt-MOST.true

pub returns-else-self-lt-MOST : goal.returns-else-self-lt-MOST
returns-else-self-lt-MOST c = λ v.
    let full : length c.args.self.rows ≡ 8 = search (rules, unmap) in
    bound_out v c.args.self (record { start = c.args.start; len = c.args.len }) full c.if-self-lt-MOST.false
