-- The measure is what is left of the line.
use Rattle.std.proofs.Common.{length}
use Rattle.corpus_test.proofs.decimal.Given as goal

abbrev pub decreases-loop-b : goal.decreases-loop-b
decreases-loop-b l = length l.rest
