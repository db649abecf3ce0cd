use Rattle.std.proofs.Common.{rules}
use Rattle.std.proofs.iter.runs.Made.{chains}
use Rattle.model.specs.WellFormed.{held_word}
use Rattle.wellformed.proofs.TestLaws.{each}
use Rattle.wellformed.proofs.held.held_words.Goals as goal

pub returns : goal.returns
returns c = each (held_word c.args.counts.now) c.args.s.now c.all.result (search (rules, chains))
