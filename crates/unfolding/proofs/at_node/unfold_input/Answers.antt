use Rattle.unfolding.proofs.Adding.{input_added}
use borrow.Author.Rules.{rules}
use Rattle.unfolding.proofs.at_node.unfold_input.Goals as goal

pub returns : goal.returns
returns c =
    let a = c.args in
    input_added a.b a.e.now a.d a.rows.now a.c c.requires.0 _ _ (search rules) a.n c.put_input.ensures
