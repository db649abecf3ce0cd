-- As many values as names, and what `input_defined` says.
use Rattle.std.proofs.Common.{◌∙◌}
use borrow.Author.Tests.{ne_eqb}
use Rattle.tables.specs.Nodes.{table}
use Rattle.sides.specs.Layout.{row_at}
use Rattle.wellformed.proofs.ParticleLaws.{value_each, value_lacks, value_fits, waits}
use Rattle.wellformed.proofs.particles.values_fit.Goals as goal

pub input_defined-requires : goal.input_defined-requires
input_defined-requires c =
    let a = c.args in
    let t = table a.nodes.now a.pool.now in
    let r = row_at a.words.now a.i in
    let f = c.requires.1 in
    let each =
    value_each r c.requires.2 f.fits t c.requires.0 c.requires.3 _ _ _ _ c.word_at-n.ensures c.word_at.ensures c.names_in_force-s.ensures c.count_of.ensures c.if-n-count_of.true in
    waits t a.words.now a.i c.requires.0 f c.requires.2 c.requires.3 each

pub returns-then-n-count_of : goal.returns-then-n-count_of
returns-then-n-count_of c =
    let a = c.args in
    let t = table a.nodes.now a.pool.now in
    let r = row_at a.words.now a.i in
    let names = c.names_in_force-s.ensures in
    value_fits r c.requires.2 c.requires.1.fits t c.requires.0 c.requires.3 _ _ _ _ c.word_at-n.ensures c.word_at.ensures names c.count_of.ensures c.if-n-count_of.true _ c.input_defined.ensures

pub returns-else-n-count_of : goal.returns-else-n-count_of
returns-else-n-count_of c =
    let a = c.args in
    let t = table a.nodes.now a.pool.now in
    let r = row_at a.words.now a.i in
    let names = c.names_in_force-s.ensures in
    ne_eqb _ _ c.if-n-count_of.false ∙
    value_lacks r c.requires.2 c.requires.1.fits t c.requires.0 c.requires.3 _ _ _ _ c.word_at-n.ensures c.word_at.ensures names c.count_of.ensures c.if-n-count_of.false
