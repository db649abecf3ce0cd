use Rattle.std.proofs.Common.{◌<◌, [], refl, get_or, rules}
use Rattle.std.proofs.lemmas.Iterator.{serves_from_Range, YieldsList-from_range}
use Rattle.std.proofs.lemmas.Iterator.Search.{all_from_yields_List}
use native.Mathlib.Omega.{arith}
use Rattle.model.specs.WellFormed.{wf_value}
use Rattle.sides.specs.Layout.{row_at, places_of, view_place}
use Rattle.sides.proofs.Viewing.{held_count, held_value}
use Rattle.wellformed.proofs.TestLaws.{each_seen}
use Rattle.wellformed.proofs.ParticleLaws.{value_few}
use Rattle.wellformed.proofs.particles.values_ok.Goals as goal

pub all-requires-clause-callable : goal.all-requires-clause-callable
all-requires-clause-callable c =
    let a = c.args in
    let f = c.requires.0 in
    let r = row_at a.words.now a.i in
    serves_from_Range (λ x q r. search rules) (λ x from below.
    let inside : x < get_or r 6 0 = omega (arith, below, c.word_at-n.ensures) in
    let place : x < 8 = omega (arith, inside, held_count r c.requires.1 f.fits) in
    let fits = held_value r c.requires.1 f.fits x inside in
    search (rules, f.long, f.row, place, fits))

pub returns : goal.returns
returns c =
    let a = c.args in
    let f = c.requires.0 in
    let r = row_at a.words.now a.i in
    each_seen (wf_value a.counts.now) view_place (places_of r) (get_or r 6 0) [] (value_few r c.requires.1 f.fits) c.all.result
    (all_from_yields_List (λ k. _) _ _ c.all.result c.all.ensures.ran (YieldsList-from_range 0 c.word_at-n.result (get_or r 6 0) refl (omega (arith, c.word_at-n.ensures))) (λ x b q h. search rules))
