-- `writing::answered` meets its contract. The loop's invariant: the lines of the first k answers are written.
use mathlib.Core.Path.{◌≡◌}
use Prim.Native.Nat.{◌+◌, ◌*◌, ◌≤◌}
use lib.ListN.{length}
use Rattle.writing.specs.Written.{Written}
use Rattle.writing.specs.Words.{lines_in}
use Rattle.writing.proofs.answered.Given as goal

abbrev pub invariant-loop-k : goal.invariant-loop-k
invariant-loop-k l = (l.n ≤ 1024) × (l.at ≤ 3 + 201 * l.k) × (length l.out ≡ 206848) × Written l.initial.out l.initial.at (lines_in 0 l.k l.answers) l.at l.out
