use mathlib.Core.Path.{ap, ◌∙◌}
use native.Mathlib.Omega.{arith}
use Rattle.model.specs.Values.{word}
use Rattle.model.specs.Unfolding.{tag_of}
use Rattle.values.specs.Span.{leaf_of}
use Rattle.sides.specs.Environments.{env_of}
use Rattle.unfolding.proofs.Adding.{value_fits, output_added}
use borrow.Author.Rules.{rules}
use Rattle.unfolding.proofs.at_node.unfold_output.Goals as goal

pub put_sent-requires : goal.put_sent-requires
unfolding leaf_of
put_sent-requires c =
    let a = c.args in
    let o = c.requires.0 in
    let node = c.node_at-x.ensures in
    let value = value_fits a.nodes.now a.pool.now a.n _ node (env_of a.e.now a.d) _ c.words_at.ensures c.requires.1 in
    (o.long, o.free, omega (arith, o.place), o.width, o.few, o.values, value)

pub overflow_add-result : goal.overflow_add-result
overflow_add-result c = omega (arith, c.requires.0.free)

pub returns : goal.returns
unfolding leaf_of
returns c =
    let a = c.args in
    let pool = a.pool.now in
    let node = c.node_at-x.ensures in
    let ρ = env_of a.e.now a.d in
    let channel = c.word_in-channel.ensures ∙ ap (word ρ) (c.field_at.ensures pool) in
    let tag = c.tag_in-tag.ensures ∙ ap (tag_of ρ) (c.field_at-2.ensures pool) in
    output_added a.b a.e.now a.d a.rows.now a.c c.requires.0 _ _ (search rules)
    a.nodes.now pool a.n _ node _ _ _ channel tag c.words_at.ensures c.requires.1 c.put_sent.ensures
