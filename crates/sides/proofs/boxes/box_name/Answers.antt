use mathlib.Core.Path.{sym}
use Rattle.sides.proofs.Parts.{first_behind}
use borrow.Author.Rules.{rules}
use Rattle.sides.proofs.boxes.box_name.Goals as goal

pub returns : goal.returns
returns c = sym (first_behind 2 16 4608 c.args.rows.now c.args.j c.requires.1 (search rules))
