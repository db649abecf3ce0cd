-- 16 by a walk: the particles that unfolding adds are short where no value is long.
use mathlib.Core.Path.{◌≡◌, refl, sym, ap, ◌∙◌}
use mathlib.Core.Bool.{Bool, true, false, not}
use mathlib.Core.List.{List, [], ◌∷◌, ◌++◌}
use Prim.Native.Nat.{ℕ, ◌+◌, ◌*◌}
use borrow.Author.Tests.{ltb-true, ltb-false, le-leb, lt-leb}
use lib.Dec.{leb, ltb}
use lib.ListN.{length}
use Rattle.model.specs.Basics.{◌&◌, ◌or◌, every}
use Rattle.model.specs.Values.{Env, extend, substitute, word}
use Rattle.model.specs.Table.{Term, nil, par, box, new, out, inp}
use Rattle.model.specs.Side.{output, input, Contents}
use Rattle.model.specs.Unfolding.{tag_of, add_box, mint, unfolds}
use Rattle.model.specs.Step.{short}
use Rattle.model.proofs.Basics.Environments.{Sized, sized_extend}
use Rattle.tables.proofs.FieldLaws.{and_true}
use Rattle.environments.specs.Long.{long_in}
use Rattle.unfolding.proofs.LongLaws.{long_new}

every_both : {A : Type 0} (f : A → Bool) (x y : List A) → every f (x ++ y) ≡ every f x & every f y
unfolding ◌&◌
every_both f [] y = refl
every_both f (a ∷ x) y = go (f a) (every_both f x y)
  where
    go : (b : Bool) → every f (x ++ y) ≡ every f x & every f y → b & every f (x ++ y) ≡ (b & every f x) & every f y
    go true e = e
    go false e = refl

and_or : (a b c : Bool) → (a & not b) & not c ≡ a & not (b or c)
unfolding ◌&◌ ◌or◌
and_or true true c = refl
and_or true false c = refl
and_or false b c = refl

short_long : (k : ℕ) → leb k 16 & true ≡ not (ltb 16 k)
short_long k = and_true (leb k 16) ∙ go (ltb 16 k) refl
  where
    go : (b : Bool) → ltb 16 k ≡ b → leb k 16 ≡ not b
    go true e = lt-leb k 16 (ltb-true 16 k e)
    go false e = le-leb k 16 (ltb-false 16 k e)

-- 16 OF THE CONTENTS AFTER: the particles before are short, and no value is long
pub short_after : (i : ℕ) (a : Term) (ρ : Env) → Sized ρ → (b : ℕ) (s : Contents) → every short (unfolds i a ρ b s).particles ≡ every short s.particles & not (long_in a ρ)
unfolding unfolds long_in
short_after i (nil n) ρ l b s = sym (and_true (every short s.particles))
short_after i (par n x y) ρ l b s =
    short_after i y ρ l b (unfolds i x ρ b s) ∙ ap (λ (z : Bool). z & not (long_in y ρ)) (short_after i x ρ l b s) ∙ and_or (every short s.particles) (long_in x ρ) (long_in y ρ)
short_after i (box n x a) ρ l b s = short_after i a ρ l (length s.boxes) (add_box s (word ρ x) b)
short_after i (new n x a) ρ l b s =
    short_after i a (extend ρ (x ∷ []) (((65536 * i + s.minted) ∷ []) ∷ [])) (sized_extend ρ (x ∷ []) (((65536 * i + s.minted) ∷ []) ∷ []) refl l) b (mint s) ∙
    ap (λ (z : Bool). every short s.particles & not z) (long_new a ρ x (65536 * i + s.minted) l)
short_after i (out n c g v) ρ l b s =
    every_both short s.particles (output b (word ρ c) (tag_of ρ g) (substitute ρ v) ∷ []) ∙ ap (λ (z : Bool). every short s.particles & z) (short_long (length (substitute ρ v)))
short_after i (inp n r c g p a) ρ l b s = every_both short s.particles (input b n ρ.vals ∷ []) ∙ ap (λ (z : Bool). every short s.particles & z) (and_true true)

-- the same where the particles before are short
pub short_unfolds : (i : ℕ) (a : Term) (ρ : Env) → Sized ρ → (b : ℕ) (s : Contents) → every short s.particles ≡ true → every short (unfolds i a ρ b s).particles ≡ not (long_in a ρ)
unfolding ◌&◌
short_unfolds i a ρ l b s h = short_after i a ρ l b s ∙ ap (λ (z : Bool). z & not (long_in a ρ)) h
