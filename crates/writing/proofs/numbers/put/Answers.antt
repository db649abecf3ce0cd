-- `writing::numbers::put` meets its contract.
use Prim.Native.Nat.{◌+◌, ◌-◌}
use lib.ListN.{length}
use native.Mathlib.Omega.{arith}
use borrow.Author.Rules.{rules}
use Rattle.writing.proofs.WrittenLaws.{copied}
use Rattle.writing.proofs.numbers.put.Goals as goal

pub returns : goal.returns
returns c =
    let a = c.args in
    let k = a.at + length a.text.now - a.at in
    record { end = search rules; text = copied a.out.now a.text.now _ a.at k c.requires (omega arith) c.copy_from_slice.ensures.after; same = search rules }
