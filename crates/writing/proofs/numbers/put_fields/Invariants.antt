-- `writing::numbers::put_fields` meets its contract. The loop's invariant: the words so far are written.
use Prim.Native.Nat.{◌+◌, ◌*◌, ◌≤◌}
use lib.ListN.{take}
use Rattle.format.specs.Output.{fields}
use Rattle.writing.specs.Written.{Written}
use Rattle.writing.proofs.numbers.put_fields.Given as goal

abbrev pub invariant-loop-w : goal.invariant-loop-w
invariant-loop-w l = Written l.initial.out l.at (fields (take l.w-index l.words)) l.p l.out × (l.p ≤ l.at + 11 * l.w-index)
