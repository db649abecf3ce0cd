-- 16 asks only how many words each name stands for, so it is the same whichever name `new` makes.
use mathlib.Core.Path.{◌≡◌, refl, sym, ap, ap₂, ◌∙◌}
use mathlib.Core.Bool.{Bool, true, false, cond}
use mathlib.Core.List.{List, [], ◌∷◌}
use Prim.Native.Nat.{ℕ, ◌+◌}
use lib.Dec.{ltb, eqb}
use lib.ListN.{length, length-append}
use Rattle.model.specs.Basics.{◌or◌}
use Rattle.model.specs.Values.{Env, is_public, lookup, value, extend, substitute}
use Rattle.model.specs.Table.{Term, nil, par, box, new, out, inp}
use Rattle.model.proofs.Basics.Environments.{Sized, look_append, sized_extend}
use Rattle.environments.specs.Long.{long_in}

-- the values of every name have as many words
abbrev SameLong : Env → Env → Type 0
SameLong ρ π = (n : ℕ) → length (value ρ n) ≡ length (value π n)

one_word_lem : (x j k : ℕ) (n : ℕ) (d e : List ℕ) → length d ≡ length e → length (lookup (x ∷ []) ((j ∷ []) ∷ []) n d) ≡ length (lookup (x ∷ []) ((k ∷ []) ∷ []) n e)
one_word_lem x j k n d e h = go (eqb x n)
  where
    go : (b : Bool) → length (cond b (j ∷ []) d) ≡ length (cond b (k ∷ []) e)
    go true = refl
    go false = h

extend_long : (ρ π : Env) (x j k : ℕ) → Sized ρ → Sized π → SameLong ρ π → SameLong (extend ρ (x ∷ []) ((j ∷ []) ∷ [])) (extend π (x ∷ []) ((k ∷ []) ∷ []))
extend_long ρ π x j k l l' h n =
    rw (look_append ρ.names ρ.vals (x ∷ []) ((j ∷ []) ∷ []) n (n ∷ []) l, look_append π.names π.vals (x ∷ []) ((k ∷ []) ∷ []) n (n ∷ []) l')
    (one_word_lem x j k n (value ρ n) (value π n) (h n))

subst_long : (ρ π : Env) → SameLong ρ π → (v : List ℕ) → length (substitute ρ v) ≡ length (substitute π v)
subst_long ρ π h [] = refl
subst_long ρ π h (w ∷ v) =
    length-append (cond (is_public w) (value ρ w) (w ∷ [])) (substitute ρ v) ∙ ap₂ ◌+◌ (go (is_public w)) (subst_long ρ π h v) ∙
    sym (length-append (cond (is_public w) (value π w) (w ∷ [])) (substitute π v))
  where
    go : (b : Bool) → length (cond b (value ρ w) (w ∷ [])) ≡ length (cond b (value π w) (w ∷ []))
    go true = h w
    go false = refl

long_same : (a : Term) (ρ π : Env) → Sized ρ → Sized π → SameLong ρ π → long_in a ρ ≡ long_in a π
unfolding long_in
long_same (nil n) ρ π l l' h = refl
long_same (par n a b) ρ π l l' h = ap₂ ◌or◌ (long_same a ρ π l l' h) (long_same b ρ π l l' h)
long_same (box n x a) ρ π l l' h = long_same a ρ π l l' h
long_same (new n x a) ρ π l l' h =
    long_same a _ _ (sized_extend ρ (x ∷ []) ((0 ∷ []) ∷ []) refl l) (sized_extend π (x ∷ []) ((0 ∷ []) ∷ []) refl l') (extend_long ρ π x 0 0 l l' h)
long_same (out n c g v) ρ π l l' h = ap (λ (k : ℕ). ltb 16 k) (subst_long ρ π h v)
long_same (inp n r c g p a) ρ π l l' h = refl

-- whichever name `new` makes
pub long_new : (a : Term) (ρ : Env) (x j : ℕ) → Sized ρ → long_in a (extend ρ (x ∷ []) ((j ∷ []) ∷ [])) ≡ long_in a (extend ρ (x ∷ []) ((0 ∷ []) ∷ []))
long_new a ρ x j l = long_same a _ _ (sized_extend ρ (x ∷ []) ((j ∷ []) ∷ []) refl l) (sized_extend ρ (x ∷ []) ((0 ∷ []) ∷ []) refl l) (extend_long ρ ρ x j 0 l l (λ n. refl))
