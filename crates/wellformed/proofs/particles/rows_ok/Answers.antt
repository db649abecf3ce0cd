use Rattle.std.proofs.Common.{◌≤◌, [], refl, length, rules}
use Rattle.std.proofs.lemmas.Iterator.{serves_from_Range, YieldsList-from_range}
use Rattle.std.proofs.lemmas.Iterator.Search.{all_from_yields_List}
use native.Mathlib.Omega.{arith}
use Rattle.model.specs.WellFormed.{wf_particle}
use Rattle.tables.specs.Nodes.{table}
use Rattle.sides.specs.Layout.{rows_of, view_row, fits_row}
use Rattle.sides.proofs.Reading.{rows_count}
use Rattle.wellformed.specs.Clauses.{RowFits}
use Rattle.wellformed.proofs.TestLaws.{each_seen, fits_count, fits_at_lem}
use Rattle.wellformed.proofs.particles.rows_ok.Goals as goal

pub all-requires-clause-callable : goal.all-requires-clause-callable
all-requires-clause-callable c =
    let a = c.args in
    let l = rows_of a.words.now in
    let few : a.n ≤ length l = fits_count fits_row l a.n 32 (rows_count a.words.now) c.requires.2 in
    serves_from_Range (λ x q r. search rules) (λ x from below.
    let row : RowFits a.words.now x =
    record {
      long = c.requires.1;
      row = omega (arith, below, few, rows_count a.words.now);
      fits = fits_at_lem fits_row l a.n 32 (rows_count a.words.now) c.requires.2 x [] below;
    } in
    search (rules, row))

pub returns : goal.returns
returns c =
    let a = c.args in
    let l = rows_of a.words.now in
    let few : a.n ≤ length l = fits_count fits_row l a.n 32 (rows_count a.words.now) c.requires.2 in
    each_seen (wf_particle (table a.nodes.now a.pool.now) a.counts.now a.nb) view_row l a.n [] few c.all.result
    (all_from_yields_List (λ k. _) _ _ c.all.result c.all.ensures.ran (YieldsList-from_range 0 a.n a.n refl (omega arith)) (λ x b q h. search rules))
