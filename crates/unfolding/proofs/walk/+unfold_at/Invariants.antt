use Prim.Native.Nat.{◌-◌, ◌/◌}
use lib.ListN.{length}
use Rattle.unfolding.proofs.walk.+unfold_at.Given as goal

abbrev pub decreases-unfold_at : goal.decreases-unfold_at
decreases-unfold_at l = length l.nodes.now / 5 - l.n
