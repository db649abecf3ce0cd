-- The item at place i ends where the n items from place j on end. At least as many words are left as items are still to come.
use mathlib.Core.Path.{◌≡◌}
use Prim.Native.Nat.{◌+◌, ◌-◌, ◌≤◌}
use lib.ListN.{length}
use Rattle.values.specs.Span.{leaf_of, span_of}
use Rattle.values.proofs.item_end.Given as goal

abbrev pub invariant-loop-n : goal.invariant-loop-n
invariant-loop-n l = (l.j + l.n ≤ length l.s) × (span_of (leaf_of l.l) l.s l.i 1 ≡ span_of (leaf_of l.l) l.s l.j l.n)

abbrev pub decreases-loop-n : goal.decreases-loop-n
decreases-loop-n l = length l.s - l.j
