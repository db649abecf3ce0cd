-- The bytes up to a place are digits that make a number which fits.
use mathlib.Core.Path.{◌≡◌}
use Prim.Native.Nat.{◌≤◌}
use lib.ListN.{drop}
use Rattle.format.specs.Lines.{number}
use Rattle.reading.proofs.NumberLaws.{number_from}
use Rattle.reading.proofs.fields.number_in.Given as goal

abbrev pub invariant-loop-b : goal.invariant-loop-b
invariant-loop-b l = (l.v ≤ 4294967295) × (number l.field ≡ number_from l.v (drop l.b-index l.field))
