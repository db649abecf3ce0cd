use Rattle.std.proofs.Common.{rules}
use Rattle.std.proofs.iter.runs.Made.{chains}
use Rattle.sides.specs.Sides.{fits_side}
use Rattle.wellformed.proofs.TestLaws.{each}
use Rattle.wellformed.proofs.state.arrays_fit.Goals as goal

pub returns : goal.returns
returns c = each (λ o. fits_side o.words o.rest) c.args.s.now.sides c.all.result (search (rules, chains))
