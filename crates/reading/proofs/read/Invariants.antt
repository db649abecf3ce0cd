-- The lines up to a place give an input, which the lent lists hold, and the rest of the bytes are still to be read.
use mathlib.Core.Path.{◌≡◌}
use Prim.Native.Nat.{◌≤◌, ◌+◌, ◌-◌}
use lib.ListN.{length}
use Rattle.format.specs.Lines.{newline, pieces, Input}
use Rattle.format.specs.Bytes.{slice}
use Rattle.reading.specs.Lists.{lists, places_of, Holds}
use Rattle.reading.proofs.ReadLaws.{SoFar}
use Rattle.reading.proofs.read.Given as goal

abbrev pub invariant-loop-at : goal.invariant-loop-at
invariant-loop-at l = (l.at ≤ length l.input) × (l.line ≤ l.at + 1) ×
    ((i : Input) × (l.places ≡ places_of i) × Holds i (lists l.initial.nodes l.initial.pools l.initial.steps) (lists l.nodes l.pools l.steps) × SoFar l.input l.line (pieces newline (slice l.at (length l.input) l.input)) i)

abbrev pub decreases-loop-at : goal.decreases-loop-at
decreases-loop-at l = length l.input - l.at
