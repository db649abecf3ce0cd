use mathlib.Core.Path.{ap, ◌∙◌}
use lib.ListN.{length}
use Rattle.sides.proofs.Storing.{row_lent, row_length}
use Rattle.sides.proofs.list.row.Goals as goal

pub returns : goal.returns
returns c =
    let l = c.args.rows.now in
    let same = row_lent l c.args.i c.requires.0 c.requires.1 in
    (same, ap length same ∙ row_length l c.args.i c.requires.0 c.requires.1)
