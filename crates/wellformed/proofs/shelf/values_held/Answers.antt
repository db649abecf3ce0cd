use Rattle.std.proofs.Common.{◌≤◌, ◌<◌, [], refl, length, rules}
use Rattle.std.proofs.lemmas.Iterator.{serves_from_Range, YieldsList-from_range}
use Rattle.std.proofs.lemmas.Iterator.Search.{all_from_yields_List}
use native.Mathlib.Omega.{arith}
use Rattle.model.specs.WellFormed.{wf_value}
use Rattle.sides.specs.Layout.{shelf_of, view_place, fits_place}
use Rattle.sides.proofs.Reading.{shelf_count}
use Rattle.wellformed.proofs.TestLaws.{each_seen, fits_count, fits_at_lem}
use Rattle.wellformed.proofs.shelf.values_held.Goals as goal

pub all-requires-clause-callable : goal.all-requires-clause-callable
all-requires-clause-callable c =
    let a = c.args in
    let l = shelf_of a.words.now in
    let few : a.n ≤ length l = fits_count fits_place l a.n 32 (shelf_count a.words.now) c.requires.1 in
    serves_from_Range (λ x q r. search rules) (λ x from below.
    let inside : x < 32 = omega (arith, below, few, shelf_count a.words.now) in
    let fits = fits_at_lem fits_place l a.n 32 (shelf_count a.words.now) c.requires.1 x [] below in
    search (rules, inside, fits))

pub returns : goal.returns
returns c =
    let a = c.args in
    let l = shelf_of a.words.now in
    let few : a.n ≤ length l = fits_count fits_place l a.n 32 (shelf_count a.words.now) c.requires.1 in
    each_seen (wf_value a.counts.now) view_place l a.n [] few c.all.result
    (all_from_yields_List (λ k. _) _ _ c.all.result c.all.ensures.ran (YieldsList-from_range 0 a.n a.n refl (omega arith)) (λ x b q h. search rules))
