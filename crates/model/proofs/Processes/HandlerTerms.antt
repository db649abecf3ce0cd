-- Handlers: patterns read from words, and where a handler's process is defined.
use mathlib.Core.Path.{◌≡◌, refl, sym, ap, ap₂, ◌∙◌, subst, transport}
use mathlib.Core.Bool.{Bool, true, false, ◌||◌, cond}
use mathlib.Core.List.{List, [], ◌∷◌}
use mathlib.Core.Logic.{inr}
use mathlib.Core.Option.{Option, none, some}
use Prim.Native.Nat.{ℕ, zero, suc, ◌+◌, ◌-◌, ◌≤◌}
use native.Mathlib.Omega.{arith}
use borrow.Author.Tests.{leb-true, le-leb}
use lib.Dec.{leb, ltb, eqb}
use lib.ListN.{length, get_or}
use Rattle.calculus.specs.Syntax.{Val, Scope, var, AllI, IsName}
use Rattle.calculus.specs.Named.{NPats, any, named, parts, pno, pand, shape, find, finds, or_else, bound_or, under_pat}
use Rattle.calculus.specs.Named.{Env as CEnv}
use Rattle.calculus.proofs.Definedness.{Sound as CSound}
use Rattle.calculus.proofs.Substitution.{IsName-ren}
use Rattle.calculus.proofs.FreeNames.{eqb_sym}
use Rattle.model.specs.Basics.{done, has}
use Rattle.model.specs.Values.{items, is_tuple, is_public, is_pattern_leaf, arity, binders, Env, extend, value, lookup, is_name_in}
use Rattle.model.specs.Table.{Table, Term}
use Rattle.model.specs.Unfolding.{defined, tag_defined, any_names}
use Rattle.model.specs.Process.{first_p, behind_p, reads_p, head_p, pat_of, itag_of, code_of}
use Rattle.model.proofs.Basics.Tests.{fst, snd, or_none}
use Rattle.model.proofs.Formed.Keeping.{done_inj}
use Rattle.model.proofs.Basics.Items.{clash, items_leaf, items_tuple, items_bad, tuple_not_leaf, tuple_not_public}
use Rattle.model.proofs.Basics.Environments.{Sized, sized_extend, look_append, length_any}
use Rattle.model.proofs.Basics.Checked.{Sits, s_nil, s_par, s_box, s_new, s_out, s_inp}

pub reads_p_tuple : (w : ℕ) (ws : List ℕ) (n : ℕ) → is_tuple w ≡ true → reads_p (w ∷ ws) (suc n) ≡ pand (parts (first_p (arity w) (reads_p ws (arity w + n)))) (behind_p (arity w) (reads_p ws (arity w + n)))
unfolding reads_p
reads_p_tuple w ws n e = rw (e, reads_p)

pub reads_p_name : (w : ℕ) (ws : List ℕ) (n : ℕ) → is_tuple w ≡ false → is_public w ≡ true → reads_p (w ∷ ws) (suc n) ≡ pand (named w) (reads_p ws n)
unfolding reads_p
reads_p_name w ws n e q = rw (e, q, reads_p)

pub reads_p_any : (w : ℕ) (ws : List ℕ) (n : ℕ) → is_tuple w ≡ false → is_public w ≡ false → reads_p (w ∷ ws) (suc n) ≡ pand any (reads_p ws n)
unfolding reads_p
reads_p_any w ws n e q = rw (e, q, reads_p)

abbrev pub pcount : NPats → ℕ
pcount pno = 0
pcount (pand p ps) = suc (pcount ps)

abbrev pub is_some : {A : Type 0} → Option A → Bool
is_some none = false
is_some (some a) = true

some_or : {A B : Type 0} (a : Option A) (b : Option B) → is_some (or_else a b) ≡ is_some a || is_some b
some_or (some a) b = refl
some_or none (some b) = refl
some_or none none = refl

split_find : (k : ℕ) (ps : NPats) (x : ℕ) → is_some (finds (first_p k ps) x) || is_some (finds (behind_p k ps) x) ≡ is_some (finds ps x)
split_find zero ps x = refl
split_find (suc k) pno x = refl
split_find (suc k) (pand p ps) x =
    ap (λ (b : Bool). b || is_some (finds (behind_p k ps) x)) (some_or (find p x) (finds (first_p k ps) x)) ∙ assoc (is_some (find p x)) (is_some (finds (first_p k ps) x)) (is_some (finds (behind_p k ps) x))
    ∙ ap (λ (b : Bool). is_some (find p x) || b) (split_find k ps x) ∙ sym (some_or (find p x) (finds ps x))
  where
    assoc : (a b c : Bool) → (a || b) || c ≡ a || (b || c)
    assoc true b c = refl
    assoc false b c = refl

pub pcount_first : (k : ℕ) (ps : NPats) → k ≤ pcount ps → pcount (first_p k ps) ≡ k
pcount_first zero ps h = refl
pcount_first (suc k) pno h = absurd (omega arith)
pcount_first (suc k) (pand v vs) h = ap suc (pcount_first k vs (omega arith))

pub pcount_behind : (k : ℕ) (ps : NPats) → pcount (behind_p k ps) ≡ pcount ps - k
pcount_behind zero ps = omega arith
pcount_behind (suc k) pno = omega arith
pcount_behind (suc k) (pand v vs) = pcount_behind k vs ∙ omega arith

binders_skip : (w : ℕ) (ws : List ℕ) → is_public w ≡ false → binders (w ∷ ws) ≡ binders ws
binders_skip w ws e = ap (λ (b : Bool). cond b (w ∷ binders ws) (binders ws)) e

pub binders_name : (w : ℕ) (ws : List ℕ) → is_public w ≡ true → binders (w ∷ ws) ≡ w ∷ binders ws
binders_name w ws e = ap (λ (b : Bool). cond b (w ∷ binders ws) (binders ws)) e

-- the names that a pattern binds, and how many patterns there are
abbrev pub Found : List ℕ → ℕ → ℕ → Type 0
Found p n x = (is_some (finds (reads_p p n) x) ≡ has x (binders p)) × (pcount (reads_p p n) ≡ n)

pub found : (x : ℕ) (p : List ℕ) (n : ℕ) → items is_pattern_leaf 5 p n ≡ done [] → Found p n x
unfolding items reads_p
found x [] zero h = (refl, refl)
found x [] (suc n) h = absurd (clash h)
found x (w ∷ ws) zero h = let z : suc (length ws) ≡ 0 = ap length (done_inj h) in absurd (omega arith)
found x (w ∷ ws) (suc n) h = go (is_tuple w) refl (is_pattern_leaf w) refl (is_public w) refl (found x ws (arity w + n)) (found x ws n)
  where
    go : (t : Bool) → is_tuple w ≡ t → (l : Bool) → is_pattern_leaf w ≡ l → (u : Bool) → is_public w ≡ u → (items is_pattern_leaf 5 ws (arity w + n) ≡ done [] → Found ws (arity w + n) x) →
        (items is_pattern_leaf 5 ws n ≡ done [] → Found ws n x) → Found (w ∷ ws) (suc n) x
    go true t l q u z f g =
        let r = f (sym (items_tuple is_pattern_leaf 5 w ws n (tuple_not_leaf w t) t) ∙ h) in
        let ps = reads_p ws (arity w + n) in (
          ap (λ (y : NPats). is_some (finds y x)) (reads_p_tuple w ws n t) ∙ some_or (finds (first_p (arity w) ps) x) (finds (behind_p (arity w) ps) x) ∙ split_find (arity w) ps x ∙ r.0
              ∙ ap (has x) (sym (binders_skip w ws (tuple_not_public w t))),
          ap pcount (reads_p_tuple w ws n t) ∙ omega (arith, pcount_behind (arity w) ps, r.1),
        )
    go false t false q u z f g = absurd (clash (sym (items_bad is_pattern_leaf 5 w ws n q t) ∙ h))
    go false t true q true z f g =
        let r = g (sym (items_leaf is_pattern_leaf 5 w ws n q) ∙ h) in (
          ap (λ (y : NPats). is_some (finds y x)) (reads_p_name w ws n t z) ∙ some_or (find (named w) x) (finds (reads_p ws n) x) ∙ ap₂ (λ (a b : Bool). a || b) (is_found (eqb w x) ∙ eqb_sym w x) r.0
              ∙ ap (has x) (sym (binders_name w ws z)),
          ap pcount (reads_p_name w ws n t z) ∙ ap suc r.1,
        )
      where
        is_found : (b : Bool) → is_some {A = Unit {0}} (cond b (some tt) none) ≡ b
        is_found true = refl
        is_found false = refl
    go false t true q false z f g =
        let r = g (sym (items_leaf is_pattern_leaf 5 w ws n q) ∙ h) in (
          ap (λ (y : NPats). is_some (finds y x)) (reads_p_any w ws n t z) ∙ some_or (find any x) (finds (reads_p ws n) x) ∙ r.0 ∙ ap (has x) (sym (binders_skip w ws z)),
          ap pcount (reads_p_any w ws n t z) ∙ ap suc r.1,
        )

-- one pattern
pub one_pat : (p : List ℕ) → items is_pattern_leaf 5 p 1 ≡ done [] → reads_p p 1 ≡ pand (pat_of p) pno
unfolding pat_of
one_pat p h = go (reads_p p 1) (found 0 p 1 h).1
  where
    none_left : (ps : NPats) → pcount ps ≡ 0 → ps ≡ pno
    none_left pno e = refl
    none_left (pand p ps) e = absurd (omega arith)

    go : (ps : NPats) → pcount ps ≡ 1 → ps ≡ pand (head_p ps) pno
    go pno e = absurd (omega arith)
    go (pand p ps) e = ap (pand p) (none_left ps (omega arith))

pub find_has : (p : List ℕ) (x : ℕ) → items is_pattern_leaf 5 p 1 ≡ done [] → is_some (find (pat_of p) x) ≡ has x (binders p)
find_has p x h = sym (some_or (find (pat_of p) x) (finds pno x) ∙ or_false (is_some (find (pat_of p) x))) ∙ sym (ap (λ (y : NPats). is_some (finds y x)) (one_pat p h)) ∙ (found x p 1 h).0
  where
    or_false : (b : Bool) → b || false ≡ b
    or_false true = refl
    or_false false = refl

-- WHERE THE PROCESS IS DEFINED
pub look_none : (ns : List ℕ) (vs : List (List ℕ)) (x : ℕ) (d : List ℕ) → has x ns ≡ false → lookup ns vs x d ≡ d
look_none [] vs x d h = refl
look_none (m ∷ ns) [] x d h = refl
look_none (m ∷ ns) (v ∷ vs) x d h =
    let a = or_none (eqb x m) (has x ns) h in
    look_none ns vs x (cond (eqb m x) v d) a.1 ∙ ap (λ (b : Bool). cond b v d) (eqb_sym m x ∙ a.0)

bound_is : {B N : Type 0} (o : Option B) (v : Val N) → (is_some o ≡ false → IsName v) → IsName (bound_or o v)
bound_is (some b) v h = tt
bound_is none v h = transport (IsName-ren v inr) (h refl)

-- a name for a name
abbrev pub Names : Env → (s : Scope) → CEnv s → Type 0
Names ρ s π = (x : ℕ) → is_public x ≡ true → is_name_in ρ x ≡ true → IsName (π x)

names_new : (ρ : Env) (s : Scope) (π : CEnv s) (n : ℕ) (d : List ℕ) → Sized ρ → Names ρ s π → Names (extend ρ (n ∷ []) (d ∷ [])) (var ∷ s) (under_pat (named n) π)
names_new ρ s π n d l h x p e = go (eqb n x) (subst (λ (v : List ℕ). ltb (get_or v 0 0) 4000000 ≡ true) (look_append ρ.names ρ.vals (n ∷ []) (d ∷ []) x (x ∷ []) l) e)
  where
    go : (b : Bool) → ltb (get_or (cond b d (value ρ x)) 0 0) 4000000 ≡ true → IsName (bound_or {B = Unit {0}} (cond b (some tt) none) (π x))
    go true q = tt
    go false q = transport (IsName-ren (π x) inr) (h x p q)

names_pat : (ρ : Env) (s : Scope) (π : CEnv s) (p : List ℕ) (vs : List (List ℕ)) → items is_pattern_leaf 5 p 1 ≡ done [] → Sized ρ → Names ρ s π → Names (extend ρ (binders p) vs) (shape (pat_of p) ∷ s) (under_pat (pat_of p) π)
names_pat ρ s π p vs ip l h x pu e = bound_is (find (pat_of p) x) (π x) (λ q. h x pu
    (subst (λ (v : List ℕ). ltb (get_or v 0 0) 4000000 ≡ true) (look_append ρ.names ρ.vals (binders p) vs x (x ∷ []) l ∙ look_none (binders p) vs x (value ρ x) (sym (find_has p x ip) ∙ q)) e))

tag_names : (ρ : Env) (s : Scope) (π : CEnv s) → Names ρ s π → (g : ℕ) → leb g 65 ≡ true → tag_defined ρ g ≡ true → AllI (itag_of g) (λ n. IsName (π n))
tag_names ρ s π h zero l e = tt
tag_names ρ s π h (suc zero) l e = tt
tag_names ρ s π h (suc (suc n)) l e = let a = leb-true (suc (suc n)) 65 l in h n (le-leb n 63 (omega arith)) e

pub fits_sound : {t : Table} {σ : List ℕ} {a : Term} → Sits t σ a → (s : Scope) (ρ : Env) (π : CEnv s) → Sized ρ → Names ρ s π → defined a ρ ≡ true → CSound s (code_of a) π
unfolding defined code_of CSound
fits_sound s_nil s ρ π l h e = tt
fits_sound (s_par a b) s ρ π l h e = (fits_sound a s ρ π l h (fst _ _ e), fits_sound b s ρ π l h (snd _ _ e))
fits_sound (s_box {x = x} p a) s ρ π l h e = (h x p (fst _ _ e), fits_sound a s ρ π l h (snd _ _ e))
fits_sound (s_new {x = x} pn a) s ρ π l h e =
    fits_sound a (var ∷ s) (extend ρ (x ∷ []) ((0 ∷ []) ∷ [])) (under_pat (named x) π) (sized_extend ρ (x ∷ []) ((0 ∷ []) ∷ []) refl l) (names_new ρ s π x (0 ∷ []) l h) e
fits_sound (s_out {c = c} {g = g} pc pg iv lv) s ρ π l h e = (h c pc (fst _ _ e), tag_names ρ s π h g pg (snd _ _ e))
fits_sound (s_inp {c = c} {g = g} {p = p} pc pg ip pd ln kn tm sc a) s ρ π l h e = (
  h c pc (fst _ _ e),
  tag_names ρ s π h g pg (fst _ _ (snd _ _ e)),
  fits_sound a (shape (pat_of p) ∷ s) (extend ρ (binders p) (any_names (binders p))) (under_pat (pat_of p) π) (sized_extend ρ (binders p) (any_names (binders p)) (length_any (binders p)) l)
      (names_pat ρ s π p (any_names (binders p)) ip l h) (snd _ _ (snd _ _ e)),
)
