-- By whether there is a shelf.
use mathlib.Core.Path.{sym, ◌∙◌}
use native.Mathlib.Omega.{arith}
use Rattle.sides.specs.Layout.{view_place, shelf_of, view_shelf}
use Rattle.sides.proofs.Reading.{shelf_count}
use Rattle.wellformed.proofs.TestLaws.{no_rows}
use Rattle.wellformed.proofs.ListLaws.{shelf_held, shelf_empty}
use Rattle.wellformed.proofs.shelf.shelf_ok.Goals as goal

pub returns-then-shelved : goal.returns-then-shelved
returns-then-shelved c =
    let a = c.args in
    shelf_held a.counts.now (view_shelf a.words.now a.n) _ _ c.if-shelved.true c.values_held.ensures

pub returns-else-shelved : goal.returns-else-shelved
returns-else-shelved c =
    let a = c.args in
    let l = a.words.now in
    let none = no_rows view_place (shelf_of l) a.n (omega (arith, shelf_count l)) in
    sym none ∙ shelf_empty a.counts.now (view_shelf l a.n) _ c.if-shelved.false
