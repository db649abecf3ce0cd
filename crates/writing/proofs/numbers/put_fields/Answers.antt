-- `writing::numbers::put_fields` meets its contract. The loop's invariant: the words so far are written.
use Rattle.writing.proofs.WrittenLaws.{joined, spelled}
use Rattle.writing.proofs.FieldLaws.{fields_more}
use Prim.Native.Nat.{◌<◌}
use native.Mathlib.Omega.{arith}
use Rattle.writing.proofs.numbers.put_fields.Goals as goal

pub loop-w-preserved : goal.loop-w-preserved
loop-w-preserved c =
    let l = c.loop-w in
    let field = c.put_field-p.ensures in
    let more = spelled (fields_more c.args.words.now l.w-index _ c.from.ensures c.loop-w-test.true) (joined l.invariant.0 field.written) in
    let word : c.from.result < 4294967296 = omega (arith, c.from.ensures, c.type_inv.words l.w-index) in
    (more, omega (arith, field.upper_bound_2 word, l.invariant.1))
