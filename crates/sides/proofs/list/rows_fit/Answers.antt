use mathlib.Core.Path.{refl, sym, ◌∙◌}
use mathlib.Core.List.{[]}
use Prim.Native.Nat.{ℕ}
use native.Mathlib.Omega.{arith}
use Rattle.std.proofs.Common.{rules, tests}
use Rattle.std.proofs.lemmas.Iterator.{YieldsList-from_range}
use Rattle.std.proofs.lemmas.Iterator.Search.{all_from_yields_List}
use borrow.Author.Tests.{leb-true}
use Rattle.sides.specs.Layout.{rows_of, row_at, fits_row}
use Rattle.sides.proofs.Lists.{and_then, and_else, all_places}
use Rattle.sides.proofs.Reading.{rows_count}
use Rattle.sides.proofs.list.rows_fit.Goals as goal

pub returns-then-particles_within : goal.returns-then-particles_within
returns-then-particles_within c =
    let l = c.args.rows.now in
    let n = c.args.n in
    let fits = λ (k : ℕ). fits_row (row_at l k) in
    let few = leb-true n 32 (sym c.particles_within.ensures ∙ c.if-particles_within.true) in
    let all = all_from_yields_List fits _ _ _ c.all.ensures.ran (YieldsList-from_range 0 n n refl (omega arith)) (λ x b q k. search (rules, tests)) in
    and_then _ _ c.particles_within.ensures c.if-particles_within.true (all ∙ all_places fits_row fits (rows_of l) [] n (rw (rows_count l) few) (λ k m. refl))

pub returns-else-particles_within : goal.returns-else-particles_within
returns-else-particles_within c = and_else _ _ c.particles_within.ensures c.if-particles_within.false
