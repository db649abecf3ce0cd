-- The fields up to a place are numbers, which the words hold.
use mathlib.Core.Path.{◌≡◌}
use mathlib.Core.Option.{some}
use Prim.Native.Nat.{◌≤◌, ◌-◌}
use lib.ListN.{length, take}
use Rattle.format.specs.Lines.{tab, pieces, numbers}
use Rattle.format.specs.Bytes.{slice}
use Rattle.reading.specs.Fields.{short, line_with, line_end}
use Rattle.reading.proofs.LineLaws.{line, after}
use Rattle.reading.proofs.fields.with_numbers.Given as goal

abbrev pub invariant-loop-w : goal.invariant-loop-w
invariant-loop-w l =
    (l.at ≤ length l.s) × (l.len ≤ 21) × (length l.words ≡ 21) × (line_end l.at l.s ≡ line_end l.from l.s) ×
    (short (line_with l.letter (numbers (pieces tab (slice l.from (line_end l.from l.s) l.s)))) ≡ after (some (line l.letter (take l.len l.words))) (numbers (pieces tab (slice l.at (line_end l.at l.s) l.s))))

abbrev pub decreases-loop-w : goal.decreases-loop-w
decreases-loop-w l = length l.s - l.at
