-- The wrappers' descriptions at their numbers: a law for each way that the code goes.
use mathlib.Core.Path.{◌≡◌, refl, sym, ap, ◌∙◌}
use mathlib.Core.Bool.{Bool, true, false, cond}
use mathlib.Core.List.{List, []}
use Prim.Native.Nat.{ℕ, ◌<◌, ◌≤◌}
use native.Mathlib.Omega.{arith}
use borrow.Author.Tests.{ne_eqb, eqb-true, eqb-false}
use lib.Dec.{eqb}
use lib.ListN.{length}
use Rattle.model.specs.Basics.{◌&◌, choose, refuse, done, has}
use Rattle.model.specs.Wrapper.{Route, all_sides, filter, logging, no_wrapper, described}
use Rattle.model.specs.Step.{route_to}
use Rattle.model.proofs.Basics.Sides.{described_by}
use Rattle.wrappers.specs.Copies.{log_if}
use Rattle.std.specs.Prelude.{Some, None}
use Rattle.wrappers.specs.Routes.{source_by, source_for}

module _ (w : ℕ) where
  -- a number other than 2 describes no routes
  module _ (b : w ≡ 2 → ⊥) (n : ℕ) where
    no_routes : (described w).routes ≡ []
    no_routes = rw (ne_eqb w 2 b) (by (eqb w 1) (eqb w 3))
      where
        by : (x y : Bool) → (cond x filter (cond y logging no_wrapper)).routes ≡ []
        by true y = refl
        by false true = refl
        by false false = refl

    pub no_source : (j : ℕ) → None ≡ source_for (described w) n j
    unfolding route_to
    no_source j = ap (λ (rs : List Route). source_by (route_to rs n j)) (sym no_routes)

  -- the pipeline's one route, or none
  module _ (e : w ≡ 2) (n : ℕ) where
    pub first_source : n ≡ 2 → (j : ℕ) → j ≡ 0 → Some 1 ≡ source_for (described w) n j
    unfolding route_to choose ◌&◌
    first_source p j q = rw (e, p, q) refl

    pub other_j : n ≡ 2 → (j : ℕ) → (j ≡ 0 → ⊥) → None ≡ source_for (described w) n j
    unfolding route_to choose ◌&◌
    other_j p j q = let z : eqb 0 j ≡ false = ne_eqb 0 j (λ r. q (sym r)) in rw (e, p, z) refl

    pub other_taker : (n ≡ 2 → ⊥) → (j : ℕ) → None ≡ source_for (described w) n j
    unfolding route_to choose ◌&◌
    other_taker p j = let z : eqb 2 n ≡ false = ne_eqb 2 n (λ r. p (sym r)) in rw (e, z) refl

-- the pipeline's one route
first_only : (m : ℕ) (x : Bool) → Some m ≡ source_by (choose x (done (record { source = 1; receiver = 2; j = 0 })) (refuse 10)) → m ≡ 1
unfolding choose
first_only m true q = let z : m ≡ 1 = cc in z
first_only m false q = let z : ◌≡◌ {A = ℕ} 0 1 = cc in absurd (omega arith)

pipe_source : (w n j : ℕ) → w ≡ 2 → source_for (described w) n j ≡ source_by (choose (eqb 2 n & eqb 0 j) (done (record { source = 1; receiver = 2; j = 0 })) (refuse 10))
unfolding route_to
pipe_source w n j e = ap (λ (x : ℕ). source_for (described x) n j) e

-- a source is one of the sides
pub source_in : (w n j m : ℕ) → Some m ≡ source_for (described w) n j → (0 < m) × (m ≤ length all_sides)
source_in w n j m p = by (eqb w 2) refl
  where
    by : (x : Bool) → eqb w 2 ≡ x → (0 < m) × (m ≤ length all_sides)
    by true e = let z : m ≡ 1 = first_only m (eqb 2 n & eqb 0 j) (p ∙ pipe_source w n j (eqb-true w 2 e)) in (omega arith, omega arith)
    by false e = let y : Some m ≡ None = p ∙ sym (no_source w (eqb-false w 2 e) n j) in let z : ◌≡◌ {A = ℕ} 0 1 = cc in absurd (omega arith)

-- the channels of copies, by whether there are any
pub copies_are : (w : ℕ) (b : Bool) → b ≡ has 3 (described w).copies → (described w).copies ≡ log_if b
copies_are w b e = described_by (λ d. d.copies ≡ log_if (has 3 d.copies)) refl refl refl refl w ∙ ap log_if (sym e)
