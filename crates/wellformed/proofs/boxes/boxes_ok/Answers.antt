use Rattle.std.proofs.Common.{◌≤◌, ◌∙◌, [], refl, length, rules}
use Rattle.std.proofs.lemmas.Iterator.{YieldsList-from_range}
use Rattle.std.proofs.lemmas.Iterator.Search.{all_from_yields_List}
use native.Mathlib.Omega.{arith}
use Rattle.sides.specs.Layout.{view_box, boxes_of}
use Rattle.sides.proofs.Reading.{boxes_count}
use Rattle.wellformed.specs.Clauses.{box_at}
use Rattle.wellformed.proofs.TestLaws.{each_row}
use Rattle.wellformed.proofs.ListLaws.{boxes_from}
use Rattle.wellformed.proofs.boxes.boxes_ok.Goals as goal

pub returns : goal.returns
returns c =
    let a = c.args in
    let few : a.n ≤ length (boxes_of a.words.now) = rw (boxes_count a.words.now) c.requires.1 in
    each_row (box_at a.counts.now) view_box (boxes_of a.words.now) a.n [] few c.all.result
    (all_from_yields_List (λ k. _) _ _ c.all.result c.all.ensures.ran (YieldsList-from_range 0 a.n a.n refl (omega arith)) (λ x b q h. search rules)) ∙
    boxes_from a.counts.now 0 _
