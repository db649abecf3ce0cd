-- Its box, then by its kind.
use Rattle.std.proofs.Common.{sym, ◌∙◌}
use borrow.Author.Tests.{le-ltb}
use Rattle.tables.specs.Nodes.{table}
use Rattle.sides.specs.Layout.{row_at}
use Rattle.wellformed.proofs.ParticleLaws.{row_far, row_output, row_input}
use Rattle.wellformed.proofs.particles.row_ok.Goals as goal

pub returns-then-word_at-eq1 : goal.returns-then-word_at-eq1
returns-then-word_at-eq1 c =
    let a = c.args in
    let t = table a.nodes.now a.pool.now in
    let r = row_at a.words.now a.i in
    row_output t a.counts.now a.nb r _ c.word_at.ensures c.if-word_at-nb.true _ (sym c.word_at-then-word_at-nb.ensures ∙ c.if-word_at-eq1.true) c.output_ok.ensures

pub returns-else-word_at-eq1 : goal.returns-else-word_at-eq1
returns-else-word_at-eq1 c =
    let a = c.args in
    let t = table a.nodes.now a.pool.now in
    let r = row_at a.words.now a.i in
    row_input t a.counts.now a.nb r _ c.word_at.ensures c.if-word_at-nb.true _ (λ q. c.if-word_at-eq1.false (c.word_at-then-word_at-nb.ensures ∙ q)) c.input_ok.ensures

pub returns-else-word_at-nb : goal.returns-else-word_at-nb
returns-else-word_at-nb c =
    let a = c.args in
    let t = table a.nodes.now a.pool.now in
    let r = row_at a.words.now a.i in
    le-ltb _ _ c.if-word_at-nb.false ∙ row_far t a.counts.now a.nb r _ c.word_at.ensures c.if-word_at-nb.false
