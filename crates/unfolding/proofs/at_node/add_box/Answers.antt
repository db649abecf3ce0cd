use mathlib.Core.Path.{ap, ◌∙◌}
use Prim.Native.Nat.{ℕ}
use Rattle.model.specs.Values.{word}
use Rattle.sides.specs.Stored.{box_put}
use Rattle.sides.specs.Environments.{env_of}
use borrow.Author.Rules.{rules}
use Rattle.unfolding.proofs.at_node.add_box.Goals as goal

pub returns : goal.returns
returns c =
    let a = c.args in
    let put = c.put_box.ensures in
    let name = c.word_in.ensures in
    let field = c.field_at.ensures in
    (search rules, λ pool. put ∙ ap (λ (w : ℕ). box_put a.rows.now a.c.boxes w a.b) (name ∙ ap (word (env_of a.e.now a.d)) (field pool)))
