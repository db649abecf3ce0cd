use Rattle.std.proofs.Common.{◌≡◌, ◌∙◌, sym, leb, rules}
use borrow.Author.Tests.{leb-true, le-leb, lt-leb}
use Rattle.model.specs.Basics.{◌&◌, every}
use Rattle.model.specs.WellFormed.{wf_boxes, wf_particle}
use Rattle.tables.specs.Nodes.{table}
use Rattle.sides.proofs.Lists.{view_length, stops, goes_on}
use Rattle.sides.specs.Layout.{view_box, boxes_of, view_boxes, view_rows}
use Rattle.sides.specs.Sides.{contents_of}
use Rattle.sides.proofs.Reading.{boxes_count}
use Rattle.wellformed.proofs.SideLaws.{contents_is}
use Rattle.wellformed.proofs.side.contents_ok.Goals as goal
use Rattle.wellformed.proofs.side.contents_ok.Goals.{then-boxes-ge1, else-boxes-ge1}

pub returns-then-boxes_ok : goal.returns-then-boxes_ok
unfolding ◌&◌
returns-then-boxes_ok c =
    let a = c.args in
    let t = table a.nodes.now a.pool.now in
    let l = a.words.now in
    let count = view_length view_box (boxes_of l) a.boxes (rw (boxes_count l) (leb-true a.boxes 16 c.requires.3)) in
    let both : c.if-boxes-ge1.value ≡ leb 1 a.boxes & wf_boxes a.counts.now 0 (view_boxes l a.boxes) =
    elim c.if-boxes-ge1.branch [
      | then-boxes-ge1 w ↦ let some = le-leb 1 a.boxes w.if-boxes-ge1.true in search (rules, some)
      | else-boxes-ge1 w ↦ let none = lt-leb 1 a.boxes w.if-boxes-ge1.false in search (rules, none)
    ] in
    λ m. goes_on _ _ _ (sym both ∙ c.if-boxes_ok.true) c.rows_ok.ensures ∙ contents_is t a.counts.now (contents_of l a.particles a.boxes m) a.boxes count

pub returns-else-boxes_ok : goal.returns-else-boxes_ok
unfolding ◌&◌
returns-else-boxes_ok c =
    let a = c.args in
    let t = table a.nodes.now a.pool.now in
    let l = a.words.now in
    let count = view_length view_box (boxes_of l) a.boxes (rw (boxes_count l) (leb-true a.boxes 16 c.requires.3)) in
    let both : c.if-boxes-ge1.value ≡ leb 1 a.boxes & wf_boxes a.counts.now 0 (view_boxes l a.boxes) =
    elim c.if-boxes-ge1.branch [
      | then-boxes-ge1 w ↦ let some = le-leb 1 a.boxes w.if-boxes-ge1.true in search (rules, some)
      | else-boxes-ge1 w ↦ let none = lt-leb 1 a.boxes w.if-boxes-ge1.false in search (rules, none)
    ] in
    λ m. c.if-boxes_ok.false ∙ stops _ (every (wf_particle t a.counts.now a.boxes) (view_rows l a.particles)) (sym both ∙ c.if-boxes_ok.false) ∙ contents_is t a.counts.now (contents_of l a.particles a.boxes m) a.boxes count
