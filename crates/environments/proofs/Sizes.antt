-- Refusal 16 by the sizes of what the names stand for is `long_in`.
use mathlib.Core.Path.{◌≡◌, refl, sym, ap, ap₂, ◌∙◌}
use mathlib.Core.Bool.{Bool, true, false, cond}
use mathlib.Core.List.{List, [], ◌∷◌, ◌++◌}
use Prim.Native.Nat.{ℕ, ◌+◌, ◌<◌, ◌≤◌}
use native.Mathlib.Nat.{add_assoc, zero-add, add-zero}
use native.Mathlib.Numerals.{add-one}
use native.Mathlib.Omega.{arith}
use borrow.Author.Tests.{lt-ltb, leb-true, eqb-true, eqb-false}
use lib.Dec.{ltb, eqb}
use lib.ListN.{length, get_or, set, take, drop, length-set, length-append, take-append-drop}
use lib.Seq.{take-suc, get_or-set_same, get_or-set_other}
use Rattle.model.specs.Basics.{◌or◌}
use Rattle.model.specs.Values.{Env, is_public, value, extend, substitute}
use Rattle.model.specs.Table.{Term, nil, par, box, new, out, inp}
use Rattle.model.proofs.Basics.Environments.{Sized, sized_extend, look_append}
use Rattle.sides.specs.Environments.{env_of}
use Rattle.environments.specs.Fits.{Fits}
use Rattle.environments.specs.Long.{long_in, size_for, size_by, long_by}
use Rattle.environments.proofs.Slots.{env_sized}

-- THE SUM OF THE SIZES, word by word
size_append : (ts a b : List ℕ) → size_by ts (a ++ b) ≡ size_by ts a + size_by ts b
unfolding size_by
size_append ts [] b = sym (zero-add (size_by ts b))
size_append ts (w ∷ a) b = ap (λ (k : ℕ). size_for ts w + k) (size_append ts a b) ∙ sym (add_assoc (size_for ts w) (size_by ts a) (size_by ts b))

pub size_none : (ts s : List ℕ) → 0 ≡ size_by ts (take 0 s)
unfolding size_by
size_none ts s = refl

size_one : (ts : List ℕ) (w : ℕ) → size_by ts (w ∷ []) ≡ size_for ts w
unfolding size_by
size_one ts w = add-zero (size_for ts w)

module _ (ts s : List ℕ) (i n m : ℕ) (h : i < length s) (p : n ≡ size_by ts (take i s)) (q : m ≡ size_for ts (get_or s i 0)) where
  pub size_next : n + m ≡ size_by ts (take (i + 1) s)
  size_next =
      ap₂ ◌+◌ p (q ∙ sym (size_one ts (get_or s i 0))) ∙ sym (size_append ts (take i s) (get_or s i 0 ∷ [])) ∙
      ap (size_by ts) (sym (ap (λ (k : ℕ). take k s) (add-one i) ∙ take-suc s i 0 h))

  -- the sum only grows
  pub size_over : 16 < n + m → true ≡ ltb 16 (size_by ts s)
  size_over lt =
      let all = ap (size_by ts) (sym (take-append-drop (i + 1) s)) ∙ size_append ts (take (i + 1) s) (drop (i + 1) s) in
      sym (lt-ltb 16 (size_by ts s) (omega (arith, all, size_next)))

-- SIZES AND ENVIRONMENTS: the entry of each name is the size of its value
pub record Agrees (ρ : Env) (ts : List ℕ) : Type 0 where
  pub sized : Sized ρ
  pub full : length ts ≡ 64
  pub same : (n : ℕ) → n ≤ 63 → get_or ts n 0 ≡ length (value ρ n)

agrees_new : (ρ : Env) (ts : List ℕ) (x : ℕ) → Agrees ρ ts → Agrees (extend ρ (x ∷ []) ((0 ∷ []) ∷ [])) (set ts x 1)
agrees_new ρ ts x a = record {
  sized = sized_extend ρ (x ∷ []) ((0 ∷ []) ∷ []) refl a.sized;
  full = length-set ts x 1 ∙ a.full;
  same = λ n h. rw (look_append ρ.names ρ.vals (x ∷ []) ((0 ∷ []) ∷ []) n (n ∷ []) a.sized) (go n h (eqb x n) refl);
}
  where
    go : (n : ℕ) → n ≤ 63 → (b : Bool) → eqb x n ≡ b → get_or (set ts x 1) n 0 ≡ length (cond b (0 ∷ []) (value ρ n))
    go n h true e = let q : x ≡ n = eqb-true x n e in rw q (get_or-set_same ts n 1 0 (omega (arith, a.full)))
    go n h false e = get_or-set_other ts x n 1 0 (λ q. eqb-false x n e (sym q)) ∙ a.same n h

size_is : (ρ : Env) (ts : List ℕ) → Agrees ρ ts → (v : List ℕ) → length (substitute ρ v) ≡ size_by ts v
unfolding size_by
size_is ρ ts a [] = refl
size_is ρ ts a (w ∷ v) = length-append (cond (is_public w) (value ρ w) (w ∷ [])) (substitute ρ v) ∙ ap₂ ◌+◌ (go (is_public w) refl) (size_is ρ ts a v)
  where
    go : (b : Bool) → is_public w ≡ b → length (cond b (value ρ w) (w ∷ [])) ≡ cond b (get_or ts w 0) 1
    go true e = sym (a.same w (leb-true w 63 e))
    go false e = refl

-- THE TEST IS THE SAME by the environment and by the sizes
pub long_is : (a : Term) (ρ : Env) (ts : List ℕ) → Agrees ρ ts → long_in a ρ ≡ long_by a ts
unfolding long_in long_by
long_is (nil n) ρ ts g = refl
long_is (par n l r) ρ ts g = ap₂ ◌or◌ (long_is l ρ ts g) (long_is r ρ ts g)
long_is (box n x a) ρ ts g = long_is a ρ ts g
long_is (new n x a) ρ ts g = long_is a _ _ (agrees_new ρ ts x g)
long_is (out n c g v) ρ ts s = ap (λ (k : ℕ). ltb 16 k) (size_is ρ ts s v)
long_is (inp n r c g p a) ρ ts s = refl

-- and so the answer of the walk
pub too_long_is : (e : List ℕ) (n : ℕ) → Fits e n → (ts : List ℕ) → length ts ≡ 64 → ((m : ℕ) → m < 64 → get_or ts m 0 ≡ length (value (env_of e n) m)) →
    (a : Term) (r : Bool) → r ≡ long_by a ts → r ≡ long_in a (env_of e n)
too_long_is e n f ts full p a r z = z ∙ sym (long_is a (env_of e n) ts (record { sized = env_sized e n f; full = full; same = λ m h. p m (omega arith) }))
