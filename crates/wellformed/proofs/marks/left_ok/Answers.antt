use Rattle.std.proofs.Common.{◌∙◌, rules}
use Rattle.std.proofs.iter.runs.Made.{chains}
use Rattle.wellformed.specs.Clauses.{left_at}
use Rattle.wellformed.proofs.TestLaws.{each_place}
use Rattle.wellformed.proofs.ListLaws.{left_from}
use Rattle.wellformed.proofs.marks.left_ok.Goals as goal

pub returns : goal.returns
returns c =
    let a = c.args in
    each_place (left_at a.counts.now) a.left.now c.all.result (search (rules, chains)) ∙ left_from a.counts.now 0 a.left.now
