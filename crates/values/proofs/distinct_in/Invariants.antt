-- No name stands twice in the words passed.
use mathlib.Core.Path.{◌≡◌}
use mathlib.Core.Bool.{true}
use lib.ListN.{take}
use Rattle.model.specs.Values.{binders, distinct}
use Rattle.values.proofs.distinct_in.Given as goal

abbrev pub invariant-loop-i : goal.invariant-loop-i
invariant-loop-i l = distinct (binders (take l.i l.s)) ≡ true
