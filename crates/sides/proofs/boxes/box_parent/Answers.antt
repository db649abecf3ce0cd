use mathlib.Core.Path.{sym}
use Rattle.sides.proofs.Parts.{word_behind}
use borrow.Author.Rules.{rules}
use Rattle.sides.proofs.boxes.box_parent.Goals as goal

pub returns : goal.returns
returns c = (sym (word_behind 2 16 4608 c.args.rows.now c.args.j 1 c.requires.1 (search rules)), (c.type_inv.rows _).fits)
