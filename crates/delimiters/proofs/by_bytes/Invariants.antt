-- The bytes up to a place are neither a tab nor a newline.
use mathlib.Core.Path.{◌≡◌}
use Rattle.delimiters.specs.Delimiters.{delimiter_from}
use Rattle.delimiters.proofs.by_bytes.Given as goal

abbrev pub invariant-loop-at : goal.invariant-loop-at
invariant-loop-at l = delimiter_from l.start l.s ≡ delimiter_from l.at l.s
