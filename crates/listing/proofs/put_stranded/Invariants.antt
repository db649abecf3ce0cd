use Rattle.listing.proofs.ListLaws.{Filled}
use Rattle.listing.proofs.put_stranded.Given as goal

abbrev pub invariant-loop-k : goal.invariant-loop-k
invariant-loop-k l = Filled l.msgs l.initial.out l.k l.count l.out
