use lib.ListN.{length}
use Prim.Native.Nat.{◌-◌, ◌/◌}
use Rattle.environments.proofs.long.+long_in.Given as goal

abbrev pub decreases-long_in : goal.decreases-long_in
decreases-long_in l = length l.nodes.now / 5 - l.n
