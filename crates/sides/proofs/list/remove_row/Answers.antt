use mathlib.Core.Path.{refl, ◌∙◌}
use Rattle.sides.proofs.Storing.{rows_down}
use Rattle.sides.proofs.list.remove_row.Goals as goal

pub returns : goal.returns
returns c = (refl, c.copy_within.ensures.after ∙ rows_down c.args.rows.now c.args.i c.args.n c.requires.0 c.requires.1 c.requires.2)
