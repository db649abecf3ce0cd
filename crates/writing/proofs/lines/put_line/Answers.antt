-- `writing::lines::put_line` meets its contract.
use Prim.Native.Nat.{◌*◌}
use Rattle.writing.proofs.WrittenLaws.{joined, spelled}
use Rattle.writing.proofs.LineLaws.{part_at, line_in_lem}
use Rattle.writing.proofs.lines.put_line.Goals as goal

pub returns-clause-written : goal.returns-clause-written
returns-clause-written c =
    let a = c.args in
    let parts = joined (joined c.put_number-a.ensures.written c.put-b.ensures) c.put_saying-c.ensures.written in
    spelled (line_in_lem a.index _ _ (part_at a.answers.now (20 * a.index))) (joined parts c.put.ensures)
