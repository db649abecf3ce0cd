use mathlib.Core.Path.{◌≡◌}
use lib.ListN.{length, take, drop}
use lib.Seq.{sets}
use Rattle.sides.proofs.inputs.copy_values.Given as goal

abbrev pub invariant-loop-k : goal.invariant-loop-k
invariant-loop-k l = (length l.d ≡ 144) × (l.d ≡ sets l.initial.d 8 (take l.k (drop 8 l.s)))
