use mathlib.Core.Path.{sym}
use Rattle.sides.proofs.Parts.{parts_word}
use borrow.Author.Rules.{rules}
use Rattle.sides.proofs.list.word_at.Goals as goal

pub returns : goal.returns
returns c = sym (parts_word 144 32 _ _ _ (search rules) (search rules))
