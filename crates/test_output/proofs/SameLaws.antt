-- Two lists of one length, compared pair by pair.
use Rattle.std.proofs.Common.{◌≡◌, refl, ap, Bool, List, [], ◌∷◌, length}
use Rattle.std.specs.Prelude.{◌&&◌}
use Rattle.std.specs.List.{list_all, zip}
use Rattle.std.specs.Cmp.Lexicographic.{pointwise}
use native.Mathlib.Omega.{arith}

module _ {A : Type 0} (f : A → A → Bool) where
  pub pairs_same : (a b : List A) → length a ≡ length b → list_all (λ p. f p.0 p.1) (zip a b) ≡ pointwise f a b
  pairs_same [] [] h = refl
  pairs_same [] (y ∷ b) h = absurd (omega (arith, h))
  pairs_same (x ∷ a) [] h = absurd (omega (arith, h))
  pairs_same (x ∷ a) (y ∷ b) h = ap (λ t. f x y && t) (pairs_same a b (omega (arith, h)))
