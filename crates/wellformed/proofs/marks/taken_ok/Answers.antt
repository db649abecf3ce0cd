use Rattle.std.proofs.Common.{rules}
use Rattle.std.proofs.iter.runs.Made.{chains}
use Rattle.wellformed.specs.Clauses.{taken_at}
use Rattle.wellformed.proofs.TestLaws.{each_place}
use Rattle.wellformed.proofs.marks.taken_ok.Goals as goal

pub returns : goal.returns
returns c =
    let a = c.args in
    each_place (taken_at a.taker a.shelved.now) a.taken.now c.all.result (search (rules, chains))
