-- Refusal 15 by a walk with a set of names is `defined` of crate model.
use mathlib.Core.Path.{◌≡◌, refl, sym, ap, ap₂, ◌∙◌, subst}
use mathlib.Core.Bool.{Bool, true, false, not, cond}
use mathlib.Core.List.{List, [], ◌∷◌, ◌++◌}
use Prim.Native.Nat.{ℕ, zero, suc, ◌+◌, ◌-◌, ◌<◌, ◌≤◌}
use native.Mathlib.Omega.{arith}
use native.Mathlib.Numerals.{add-one}
use borrow.Author.Tests.{le-leb, lt-leb, leb-true, eqb-true, eqb-false}
use lib.Dec.{leb, ltb, eqb}
use lib.ListN.{length, get_or, set, take, length-set}
use lib.Seq.{take-suc, get_or-set_same, get_or-set_other}
use Rattle.model.specs.Basics.{◌&◌}
use Rattle.model.specs.Values.{Env, extend, value, is_name_in, binders}
use Rattle.model.specs.Table.{Table, Term}
use Rattle.model.specs.Unfolding.{defined, tag_defined, any_names}
use Rattle.model.proofs.Basics.Environments.{Sized, sized_extend, look_append}
use Rattle.model.proofs.Basics.Checked.{Sits, s_nil, s_par, s_box, s_new, s_out, s_inp}
use Rattle.values.proofs.Names.{binders_append}
use Rattle.scopes.specs.FreeUses.{name_clear, tag_clear, hide, clear_in}
use Rattle.values.proofs.Environments.{extend_none, extend_more}

-- NAMES TAKEN AWAY
-- one name more
hide_append : (ts : List Bool) (a b : List ℕ) → hide ts (a ++ b) ≡ hide (hide ts a) b
hide_append ts [] b = refl
hide_append ts (n ∷ a) b = hide_append (set ts n false) a b

module _ (ts : List Bool) (s : List ℕ) (i : ℕ) (h : i < length s) where
  hide_step : hide ts (binders (take (i + 1) s)) ≡ hide (hide ts (binders (take i s))) (binders (get_or s i 0 ∷ []))
  hide_step = rw (add-one, take-suc s i 0 h, binders_append, hide_append)

  pub hide_name : (r : List Bool) → get_or s i 0 ≤ 63 → r ≡ hide ts (binders (take i s)) → set r (get_or s i 0) false ≡ hide ts (binders (take (i + 1) s))
  hide_name r l e = sym (hide_step ∙ rw (le-leb (get_or s i 0) 63 l, e))

  pub hide_other : (r : List Bool) → 63 < get_or s i 0 → r ≡ hide ts (binders (take i s)) → r ≡ hide ts (binders (take (i + 1) s))
  hide_other r l e = e ∙ sym (hide_step ∙ rw (lt-leb (get_or s i 0) 63 l))

-- the answers of the tests
use_no : (ts : List Bool) (c g : ℕ) → get_or ts c false ≡ true → name_clear ts c & tag_clear ts g ≡ false
unfolding ◌&◌
use_no ts c g e = rw e

module _ (ts : List Bool) (c g : ℕ) where
  pub use_chan : get_or ts c false ≡ true → false ≡ name_clear ts c & tag_clear ts g
  use_chan e = sym (use_no ts c g e)

  pub use_low : get_or ts c false ≡ false → g < 2 → true ≡ name_clear ts c & tag_clear ts g
  unfolding ◌&◌
  use_low e h = rw e (go g h)
    where
      go : (g : ℕ) → g < 2 → true ≡ tag_clear ts g
      go zero h = refl
      go (suc zero) h = refl
      go (suc (suc n)) h = absurd (omega arith)

  pub use_tag : (b : Bool) → get_or ts c false ≡ false → 2 ≤ g → get_or ts (g - 2) false ≡ b → not b ≡ name_clear ts c & tag_clear ts g
  unfolding ◌&◌
  use_tag b e h q = rw e (go g h q)
    where
      go : (g : ℕ) → 2 ≤ g → get_or ts (g - 2) false ≡ b → not b ≡ tag_clear ts g
      go zero h q = absurd (omega arith)
      go (suc zero) h q = absurd (omega arith)
      go (suc (suc n)) h q = let m : suc (suc n) - 2 ≡ n = omega arith in sym (ap not (ap (λ (k : ℕ). get_or ts k false) (sym m) ∙ q))

-- THE SET AND THE ENVIRONMENT
-- the set holds the names that the environment binds to tuples
pub record Agrees (ρ : Env) (ts : List Bool) : Type 0 where
  pub sized : Sized ρ
  pub full : length ts ≡ 64
  pub same : (n : ℕ) → n ≤ 63 → is_name_in ρ n ≡ name_clear ts n

agrees_new : (ρ : Env) (ts : List Bool) (x : ℕ) → Agrees ρ ts → Agrees (extend ρ (x ∷ []) ((0 ∷ []) ∷ [])) (set ts x false)
agrees_new ρ ts x a = record {
  sized = sized_extend ρ (x ∷ []) ((0 ∷ []) ∷ []) refl a.sized;
  full = length-set ts x false ∙ a.full;
  same = λ n h. rw (look_append ρ.names ρ.vals (x ∷ []) ((0 ∷ []) ∷ []) n (n ∷ []) a.sized) (go n h (eqb x n) refl);
}
  where
    go : (n : ℕ) → n ≤ 63 → (b : Bool) → eqb x n ≡ b → ltb (get_or (cond b (0 ∷ []) (value ρ n)) 0 0) 4000000 ≡ not (get_or (set ts x false) n false)
    go n h true e = let q : x ≡ n = eqb-true x n e in let z : get_or (set ts x false) n false ≡ false = rw q (get_or-set_same ts n false false (omega (arith, a.full))) in sym (ap not z)
    go n h false e = a.same n h ∙ sym (ap not (get_or-set_other ts x n false false (λ q. eqb-false x n e (sym q))))

agrees_hide : (ns : List ℕ) (ρ : Env) (ts : List Bool) → Agrees ρ ts → Agrees (extend ρ ns (any_names ns)) (hide ts ns)
agrees_hide [] ρ ts a = subst (λ (π : Env). Agrees π ts) (sym (extend_none ρ)) a
agrees_hide (n ∷ ns) ρ ts a =
    let further = extend_more ρ (n ∷ []) ns ((0 ∷ []) ∷ []) (any_names ns) in
    subst (λ (π : Env). Agrees π (hide (set ts n false) ns)) further (agrees_hide ns _ _ (agrees_new ρ ts n a))

and_assoc : (a b c : Bool) → a & (b & c) ≡ (a & b) & c
unfolding ◌&◌
and_assoc true b c = refl
and_assoc false b c = refl

tag_agrees : (ρ : Env) (ts : List Bool) → Agrees ρ ts → (g : ℕ) → leb g 65 ≡ true → tag_defined ρ g ≡ tag_clear ts g
tag_agrees ρ ts a zero h = refl
tag_agrees ρ ts a (suc zero) h = refl
tag_agrees ρ ts a (suc (suc n)) h = let l = leb-true (suc (suc n)) 65 h in a.same n (omega arith)

pub fits_clear : {t : Table} {σ : List ℕ} {b : Term} → Sits t σ b → (ρ : Env) (ts : List Bool) → Agrees ρ ts → defined b ρ ≡ clear_in b ts
unfolding defined clear_in
fits_clear s_nil ρ ts a = refl
fits_clear (s_par l r) ρ ts a = ap₂ ◌&◌ (fits_clear l ρ ts a) (fits_clear r ρ ts a)
fits_clear (s_box {x = x} p s) ρ ts a = ap₂ ◌&◌ (a.same x (leb-true x 63 p)) (fits_clear s ρ ts a)
fits_clear (s_new {x = x} px s) ρ ts a = fits_clear s _ _ (agrees_new ρ ts x a)
fits_clear (s_out {c = c} {g = g} p q i l) ρ ts a = ap₂ ◌&◌ (a.same c (leb-true c 63 p)) (tag_agrees ρ ts a g q)
fits_clear (s_inp {c = c} {g = g} {p = p} pc pg ip di l k e sc s) ρ ts a =
    ap₂ ◌&◌ (a.same c (leb-true c 63 pc)) (ap₂ ◌&◌ (tag_agrees ρ ts a g pg) (fits_clear s _ _ (agrees_hide (binders p) ρ ts a))) ∙ and_assoc _ _ _
