-- Where the calculus' substitution is defined, the definition's test for 15 passes.
use mathlib.Core.Path.{◌≡◌, refl, sym, ◌∙◌, subst, transport}
use mathlib.Core.Bool.{Bool, true, false, ◌||◌, cond, false≢true}
use mathlib.Core.List.{List, [], ◌∷◌}
use mathlib.Core.Logic.{◌⊎◌, inl, inr, ⊎_elim}
use mathlib.Core.Option.{Option, none, some}
use Prim.Native.Nat.{ℕ, zero, suc}
use native.Mathlib.Omega.{arith}
use borrow.Author.Tests.{leb-true, le-leb, lt-ltb}
use lib.Dec.{leb, ltb, eqb}
use lib.ListN.{get_or}
use Rattle.calculus.specs.Syntax.{Scope, var, AllI, IsName}
use Rattle.calculus.specs.Named.{named, shape, find, bound_or, under_pat}
use Rattle.calculus.specs.Named.{Env as CEnv}
use Rattle.calculus.proofs.Definedness.{Sound as CSound}
use Rattle.calculus.proofs.Substitution.{IsName-ren}
use Rattle.calculus.proofs.FreeNames.{eqb_sym}
use Rattle.model.specs.Basics.{done, has, every}
use Rattle.model.specs.Values.{items, is_tuple, is_name, is_public, is_pattern_leaf, binders, Env, extend, value, lookup, is_name_in}
use Rattle.model.specs.Table.{Table, Term}
use Rattle.model.specs.Unfolding.{defined, tag_defined, any_names}
use Rattle.model.specs.WellFormed.{Counts, wf_value}
use Rattle.model.specs.Process.{val_of, head_v, pat_of, itag_of, code_of, env_of}
use Rattle.model.proofs.Basics.Tests.{both, or_cases}
use Rattle.model.proofs.Basics.Names.{name_small}
use Rattle.model.proofs.Basics.Items.{clash, items_bad}
use Rattle.model.proofs.Basics.Environments.{Sized, sized_extend, look_append, length_any}
use Rattle.model.proofs.Basics.Checked.{Sits, s_nil, s_par, s_box, s_new, s_out, s_inp}
use Rattle.model.proofs.Processes.ValueWords.{reads_tuple}
use Rattle.model.proofs.Processes.HandlerTerms.{find_has, is_some}
use Rattle.model.proofs.Sound.Substitutions.{shape_value, env_value}

-- a value that is a name has a small first word
pub name_val : (v : List ℕ) → items is_name 11 v 1 ≡ done [] → IsName (val_of v) → ltb (get_or v 0 0) 4000000 ≡ true
unfolding items val_of
name_val [] h n = absurd (clash h)
name_val (w ∷ ws) h n = go (is_tuple w) refl (is_name w) refl
  where
    go : (b : Bool) → is_tuple w ≡ b → (c : Bool) → is_name w ≡ c → ltb w 4000000 ≡ true
    go true q c r = absurd (subst (λ (x : _). IsName (head_v x)) (reads_tuple w ws 0 q) n)
    go false q true r = let l = name_small w r in lt-ltb w 4000000 (omega arith)
    go false q false r = absurd (clash (sym (items_bad is_name 11 w ws 0 r q) ∙ h))

-- what the calculus has for a name is a name in the definition's environment
abbrev pub NamesBack : Env → (s : Scope) → CEnv s → Type 0
NamesBack ρ s π = (x : ℕ) → is_public x ≡ true → IsName (π x) → is_name_in ρ x ≡ true

pub env_back : (k : Counts) (ρ : Env) → every (wf_value k) ρ.vals ≡ true → NamesBack ρ [] (env_of ρ)
env_back k ρ h x p n = name_val (value ρ x) (shape_value k ρ h x p) (subst IsName (env_value k ρ h x p) n)

back_new : (ρ : Env) (s : Scope) (π : CEnv s) (n : ℕ) → Sized ρ → NamesBack ρ s π → NamesBack (extend ρ (n ∷ []) ((0 ∷ []) ∷ [])) (var ∷ s) (under_pat (named n) π)
back_new ρ s π n l h x p e = subst (λ (v : List ℕ). ltb (get_or v 0 0) 4000000 ≡ true) (sym (look_append ρ.names ρ.vals (n ∷ []) ((0 ∷ []) ∷ []) x (x ∷ []) l)) (go (eqb n x) e)
  where
    go : (b : Bool) → IsName (bound_or {B = Unit {0}} (cond b (some tt) none) (π x)) → ltb (get_or (cond b (0 ∷ []) (value ρ x)) 0 0) 4000000 ≡ true
    go true q = refl
    go false q = h x p (transport (sym (IsName-ren (π x) inr)) q)

-- a name bound to any name, or standing for one before
look_any : (ns : List ℕ) (x : ℕ) (d : List ℕ) → (has x ns ≡ true) ⊎ (ltb (get_or d 0 0) 4000000 ≡ true) → ltb (get_or (lookup ns (any_names ns) x d) 0 0) 4000000 ≡ true
look_any [] x d (inl e) = absurd (false≢true e)
look_any [] x d (inr e) = e
look_any (m ∷ ns) x d h = look_any ns x (cond (eqb m x) (0 ∷ []) d) (go (eqb m x) refl h)
  where
    go : (b : Bool) → eqb m x ≡ b → (eqb x m || has x ns ≡ true) ⊎ (ltb (get_or d 0 0) 4000000 ≡ true) → (has x ns ≡ true) ⊎ (ltb (get_or (cond b (0 ∷ []) d) 0 0) 4000000 ≡ true)
    go true q k = inr refl
    go false q (inl k) = inl (⊎_elim (λ a. absurd (false≢true (sym q ∙ eqb_sym m x ∙ a))) (λ a. a) (or_cases (eqb x m) (has x ns) k))
    go false q (inr k) = inr k

back_pat : (ρ : Env) (s : Scope) (π : CEnv s) (p : List ℕ) → items is_pattern_leaf 5 p 1 ≡ done [] → Sized ρ → NamesBack ρ s π → NamesBack (extend ρ (binders p) (any_names (binders p))) (shape (pat_of p) ∷ s) (under_pat (pat_of p) π)
back_pat ρ s π p ip l h x pu e = subst (λ (v : List ℕ). ltb (get_or v 0 0) 4000000 ≡ true) (sym (look_append ρ.names ρ.vals (binders p) (any_names (binders p)) x (x ∷ []) l))
    (look_any (binders p) x (value ρ x) (go (find (pat_of p) x) (find_has p x ip) e))
  where
    go : {B : Type 0} (o : Option B) → is_some o ≡ has x (binders p) → IsName (bound_or o (π x)) → (has x (binders p) ≡ true) ⊎ (ltb (get_or (value ρ x) 0 0) 4000000 ≡ true)
    go (some b) q n = inl (sym q)
    go none q n = inr (h x pu (transport (sym (IsName-ren (π x) inr)) n))

back_tag : (ρ : Env) (s : Scope) (π : CEnv s) → NamesBack ρ s π → (g : ℕ) → leb g 65 ≡ true → AllI (itag_of g) (λ n. IsName (π n)) → tag_defined ρ g ≡ true
back_tag ρ s π h zero l e = refl
back_tag ρ s π h (suc zero) l e = refl
back_tag ρ s π h (suc (suc n)) l e = let a = leb-true (suc (suc n)) 65 l in h n (le-leb n 63 (omega arith)) e

pub sound_fits : {t : Table} {σ : List ℕ} {a : Term} → Sits t σ a → (s : Scope) (ρ : Env) (π : CEnv s) → Sized ρ → NamesBack ρ s π → CSound s (code_of a) π → defined a ρ ≡ true
unfolding defined code_of CSound
sound_fits s_nil s ρ π l h e = refl
sound_fits (s_par a b) s ρ π l h e = both _ _ (sound_fits a s ρ π l h e.0) (sound_fits b s ρ π l h e.1)
sound_fits (s_box {x = x} p a) s ρ π l h e = both _ _ (h x p e.0) (sound_fits a s ρ π l h e.1)
sound_fits (s_new {x = x} pn a) s ρ π l h e =
    sound_fits a (var ∷ s) (extend ρ (x ∷ []) ((0 ∷ []) ∷ [])) (under_pat (named x) π) (sized_extend ρ (x ∷ []) ((0 ∷ []) ∷ []) refl l) (back_new ρ s π x l h) e
sound_fits (s_out {c = c} {g = g} pc pg iv lv) s ρ π l h e = both _ _ (h c pc e.0) (back_tag ρ s π h g pg e.1)
sound_fits (s_inp {c = c} {g = g} {p = p} pc pg ip pd ln kn tm sc a) s ρ π l h e = both _ _ (h c pc e.0) (both _ _ (back_tag ρ s π h g pg e.1)
    (sound_fits a (shape (pat_of p) ∷ s) (extend ρ (binders p) (any_names (binders p))) (under_pat (pat_of p) π) (sized_extend ρ (binders p) (any_names (binders p)) (length_any (binders p)) l) (back_pat ρ s π p ip l h) e.2))
