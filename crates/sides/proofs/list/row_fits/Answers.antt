use mathlib.Core.Path.{refl, sym, ◌∙◌}
use mathlib.Core.List.{[]}
use Prim.Native.Nat.{ℕ, ◌+◌, ◌*◌}
use native.Mathlib.Omega.{arith}
use borrow.Author.Tests.{le-leb, lt-leb}
use lib.Dec.{leb}
use lib.ListN.{get_or}
use Rattle.std.proofs.Common.{rules, tests}
use Rattle.std.proofs.lemmas.Iterator.{YieldsList-from_range}
use Rattle.std.proofs.lemmas.Iterator.Search.{all_from_yields_List}
use Rattle.sides.specs.Layout.{places_of, fits_place}
use Rattle.sides.proofs.Lists.{and_then, and_else, all_places}
use Rattle.sides.proofs.Reading.{places_count, place_fits, row_fits_output, row_fits_input}
use Rattle.sides.proofs.list.row_fits.Goals as goal

pub returns-then-r-eq1 : goal.returns-then-r-eq1
returns-then-r-eq1 c = c.length_within.ensures ∙ row_fits_output c.args.r.now c.if-r-eq1.true

pub returns-then-n-le-VALUES : goal.returns-then-n-le-VALUES
returns-then-n-le-VALUES c =
    let r = c.args.r.now in
    let n = get_or r 6 0 in
    let short = λ (k : ℕ). leb (get_or r (8 + 17 * k) 0) 16 in
    let all = all_from_yields_List short _ _ _ c.all.ensures.ran (YieldsList-from_range 0 n n refl (omega arith)) (λ x b q k. search (rules, tests)) in
    let each = all_places fits_place short (places_of r) [] n (rw (places_count r) c.if-n-le-VALUES.true) (λ k m. sym (place_fits r k _ (omega arith) refl)) in
    row_fits_input r _ c.if-r-eq1.false (and_then _ _ refl (le-leb n 8 c.if-n-le-VALUES.true) (all ∙ each))

pub returns-else-n-le-VALUES : goal.returns-else-n-le-VALUES
returns-else-n-le-VALUES c = row_fits_input c.args.r.now _ c.if-r-eq1.false (and_else _ _ refl (lt-leb _ 8 c.if-n-le-VALUES.false))
