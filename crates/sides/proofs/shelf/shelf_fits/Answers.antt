use mathlib.Core.Path.{refl, sym, ◌∙◌}
use mathlib.Core.List.{[]}
use Prim.Native.Nat.{ℕ, ◌+◌, ◌*◌}
use native.Mathlib.Omega.{arith}
use lib.Dec.{leb}
use lib.ListN.{get_or}
use Rattle.std.proofs.Common.{rules, tests}
use Rattle.std.proofs.lemmas.Iterator.{YieldsList-from_range}
use Rattle.std.proofs.lemmas.Iterator.Search.{all_from_yields_List}
use borrow.Author.Tests.{leb-true}
use Rattle.sides.specs.Layout.{shelf_of, fits_place}
use Rattle.sides.proofs.Lists.{and_then, and_else, all_places}
use Rattle.sides.proofs.Reading.{shelf_count, shelf_fits}
use Rattle.sides.proofs.shelf.shelf_fits.Goals as goal

pub returns-then-shelf_within : goal.returns-then-shelf_within
returns-then-shelf_within c =
    let l = c.args.rows.now in
    let n = c.args.n in
    let short = λ (k : ℕ). leb (get_or l (4640 + 17 * k) 0) 16 in
    let few = leb-true n 32 (sym c.shelf_within.ensures ∙ c.if-shelf_within.true) in
    let all = all_from_yields_List short _ _ _ c.all.ensures.ran (YieldsList-from_range 0 n n refl (omega arith)) (λ x b q k. search (rules, tests)) in
    let each = all_places fits_place short (shelf_of l) [] n (rw (shelf_count l) few) (λ k m. sym (shelf_fits l k _ (omega arith) refl)) in
    and_then _ _ c.shelf_within.ensures c.if-shelf_within.true (all ∙ each)

pub returns-else-shelf_within : goal.returns-else-shelf_within
returns-else-shelf_within c = and_else _ _ c.shelf_within.ensures c.if-shelf_within.false
