-- `at` is the sum of the lengths so far, or the end of the words where these are fewer.
use mathlib.Core.Path.{◌≡◌}
use Prim.Native.Nat.{min}
use lib.ListN.{length, take}
use Rattle.embed.specs.Lent.{total}
use Rattle.embed.proofs.parts.place.Given as goal

abbrev pub invariant-loop-n : goal.invariant-loop-n
invariant-loop-n l = l.at ≡ min (total (take l.n-index l.before)) (length l.words)
