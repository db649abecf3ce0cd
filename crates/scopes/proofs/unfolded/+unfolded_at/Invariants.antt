use Prim.Native.Nat.{◌-◌, ◌/◌}
use lib.ListN.{length}
use Rattle.scopes.proofs.unfolded.+unfolded_at.Given as goal

abbrev pub decreases-unfolded_at : goal.decreases-unfolded_at
decreases-unfolded_at l = length l.nodes.now / 5 - l.n
