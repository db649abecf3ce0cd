-- The mutual pair that matches an item of a pattern and the remaining parts of a tuple. What is left of the pattern falls.
use Prim.Native.Nat.{◌+◌, ◌-◌, ◌*◌}
use lib.ListN.{length}
use Rattle.values.proofs.+match_item_match_parts.Given as goal

abbrev pub decreases-match_item : goal.decreases-match_item
decreases-match_item l = 2 * (length l.p.now - l.i)

abbrev pub decreases-match_parts : goal.decreases-match_parts
decreases-match_parts l = 2 * (length l.p.now - l.i) + 1
