-- Matching by words is matching by values; the names that a pattern binds stand for what they took.
use mathlib.Core.Path.{◌≡◌, refl, sym, ap, ap₂, ◌∙◌, subst, subst₂, fun_ext}
use mathlib.Core.Bool.{Bool, true, false, not, ◌&&◌, ◌||◌, cond, false≢true}
use mathlib.Core.List.{List, [], ◌∷◌, ◌++◌}
use mathlib.Core.Logic.{◌⊎◌, ⊎_elim}
use mathlib.Core.Option.{Option, none, some}
use Prim.Native.Nat.{ℕ, zero, suc, ◌+◌}
use native.Mathlib.Omega.{arith}
use borrow.Author.Tests.{leb-true, ltb-false, eqb-true, not-true}
use lib.Dec.{ltb, eqb}
use lib.ListN.{length}
use Rattle.calculus.specs.Syntax.{Val, Vals, nm, tup, vnil, vcons, Vars, Varss, both, match}
use Rattle.calculus.specs.Syntax.{matches as cmatches}
use Rattle.calculus.specs.Named.{NPat, NPats, any, named, parts, pno, pand, shape, shapes, find, finds, or_else, value_or, with_pat}
use Rattle.model.specs.Basics.{done, has}
use Rattle.model.specs.Values.{items, is_tuple, is_name, is_public, is_pattern_leaf, arity, distinct, binders, Fit, matches, first_of, rest_of, Env, extend, value, lookup}
use Rattle.model.specs.Process.{vcount, first_v, behind_v, reads, head_v, val_of, first_p, behind_p, reads_p, pat_of, env_of}
use Rattle.model.proofs.Basics.Tests.{bind_done, and_left, and_right, some_inj, no_some}
use Rattle.model.proofs.Formed.Keeping.{done_inj}
use Rattle.model.proofs.Basics.Items.{clash, items_leaf, items_tuple, items_bad, first_rest, tuple_not_name, tuple_not_leaf, tuple_not_public}
use Rattle.model.proofs.Basics.Environments.{Sized, look_append}
use Rattle.model.proofs.Processes.ValueWords.{reads_tuple, write_back}
use Rattle.model.proofs.Processes.HandlerTerms.{reads_p_tuple, reads_p_name, reads_p_any, binders_name, one_pat, find_has, look_none, is_some}
use Rattle.model.proofs.Sound.Substitutions.{value_front}

or_value : {A B : Type 0} (σ : A → Val ℕ) (τ : B → Val ℕ) (a : Option A) (b : Option B) (d : Val ℕ) → value_or (⊎_elim σ τ) (or_else a b) d ≡ value_or σ a (value_or τ b d)
or_value σ τ (some a) b d = refl
or_value σ τ none (some b) d = refl
or_value σ τ none none d = refl

both_inv : {A B : Type 0} (a : Option (A → Val ℕ)) (b : Option (B → Val ℕ)) (σ : A ⊎ B → Val ℕ) → both a b ≡ some σ → (α : A → Val ℕ) × (β : B → Val ℕ) × (a ≡ some α) × (b ≡ some β) × (⊎_elim α β ≡ σ)
both_inv none b σ e = absurd (no_some e)
both_inv (some α) none σ e = absurd (no_some e)
both_inv (some α) (some β) σ e = (α, β, refl, refl, some_inj e)

both_some : {A B : Type 0} (a : Option (A → Val ℕ)) (b : Option (B → Val ℕ)) (α : A → Val ℕ) (β : B → Val ℕ) → a ≡ some α → b ≡ some β → both a b ≡ some (⊎_elim α β)
both_some a b α β p q = ap₂ both p q

-- patterns that take values, and what a name then stands for
pub record Takes (Q : NPats) (W : Vals ℕ) (F : ℕ → Val ℕ → Val ℕ) : Type 0 where
  pub σ : Varss (shapes Q) → Val ℕ
  pub is : cmatches (shapes Q) W ≡ some σ
  pub at : (x : ℕ) (d : Val ℕ) → value_or σ (finds Q x) d ≡ F x d

takes_none : Takes pno vnil (λ x d. d)
takes_none = record { σ = λ x. absurd x; is = refl; at = λ x d. refl }

takes_and : (q : NPat) (Q : NPats) (v : Val ℕ) (W : Vals ℕ) (α : Vars (shape q) → Val ℕ) (F : ℕ → Val ℕ → Val ℕ) → match (shape q) v ≡ some α → Takes Q W F → Takes (pand q Q) (vcons v W) (λ x d. value_or α (find q x) (F x d))
takes_and q Q v W α F e t = record {
  σ = ⊎_elim α t.σ;
  is = both_some (match (shape q) v) (cmatches (shapes Q) W) α t.σ e t.is;
  at = λ x d. or_value α t.σ (find q x) (finds Q x) d ∙ ap (value_or α (find q x)) (t.at x d);
}

pub record Halves (k : ℕ) (Q : NPats) (W : Vals ℕ) (F : ℕ → Val ℕ → Val ℕ) : Type 0 where
  pub F1 : ℕ → Val ℕ → Val ℕ
  pub F2 : ℕ → Val ℕ → Val ℕ
  pub first : Takes (first_p k Q) (first_v k W) F1
  pub behind : Takes (behind_p k Q) (behind_v k W) F2
  pub joined : (x : ℕ) (d : Val ℕ) → F1 x (F2 x d) ≡ F x d

halves : (k : ℕ) (Q : NPats) (W : Vals ℕ) (σ : Varss (shapes Q) → Val ℕ) → cmatches (shapes Q) W ≡ some σ → Halves k Q W (λ x d. value_or σ (finds Q x) d)
halves zero Q W σ e = record { F1 = λ x d. d; F2 = λ x d. value_or σ (finds Q x) d; first = takes_none; behind = record { σ = σ; is = e; at = λ x d. refl }; joined = λ x d. refl }
halves (suc k) pno vnil σ e = record { F1 = λ x d. d; F2 = λ x d. d; first = takes_none; behind = takes_none; joined = λ x d. refl }
halves (suc k) pno (vcons v W) σ e = absurd (no_some e)
halves (suc k) (pand q Q) vnil σ e = absurd (no_some e)
halves (suc k) (pand q Q) (vcons v W) σ e =
    let i = both_inv (match (shape q) v) (cmatches (shapes Q) W) σ e in
    let r = halves k Q W i.1 i.3 in
    record {
      F1 = λ x d. value_or i.0 (find q x) (r.F1 x d);
      F2 = r.F2;
      first = takes_and q (first_p k Q) v (first_v k W) i.0 r.F1 i.2 r.first;
      behind = r.behind;
      joined = λ x d. ap (value_or i.0 (find q x)) (r.joined x d) ∙ sym (or_value i.0 i.1 (find q x) (finds Q x) d) ∙ ap (λ (s : _). value_or s (or_else (find q x) (finds Q x)) d) i.4;
    }

-- by words
pub record Matched (p : List ℕ) (n : ℕ) (v : List ℕ) (bs : List (List ℕ)) : Type 0 where
  pub F : ℕ → Val ℕ → Val ℕ
  pub takes : Takes (reads_p p n) (reads v n) F
  pub words : (x : ℕ) (d : List ℕ) → F x (val_of d) ≡ val_of (lookup (binders p) bs x d)

abbrev Does : List ℕ → Type 0
Does p = (n : ℕ) (v : List ℕ) (fit : Fit) → matches p n v ≡ done fit → items is_pattern_leaf 5 p n ≡ done [] → items is_name 11 v n ≡ done [] → distinct (binders p) ≡ true → Matched p n v fit.bound

does_nil : Does []
unfolding matches reads reads_p items
does_nil zero [] fit e ip iv di = record { F = λ x d. d; takes = takes_none; words = λ x d. refl }
does_nil zero (w ∷ v) fit e ip iv di = record { F = λ x d. d; takes = takes_none; words = λ x d. refl }
does_nil (suc n) v fit e ip iv di = absurd (clash e)

skip : (p : ℕ) (ps : List ℕ) → is_public p ≡ false → binders (p ∷ ps) ≡ binders ps
skip p ps e = ap (λ (b : Bool). cond b (p ∷ binders ps) (binders ps)) e

matched_to : (p : List ℕ) (n : ℕ) (v : List ℕ) (bs : List (List ℕ)) (Q : NPats) (W : Vals ℕ) (F : ℕ → Val ℕ → Val ℕ) → reads_p p n ≡ Q → reads v n ≡ W → Takes Q W F →
    ((x : ℕ) (d : List ℕ) → F x (val_of d) ≡ val_of (lookup (binders p) bs x d)) → Matched p n v bs
matched_to p n v bs Q W F a b t w = record { F = F; takes = subst₂ (λ (x : NPats) (y : Vals ℕ). Takes x y F) (sym a) (sym b) t; words = w }

does_tuple : (p : ℕ) (ps : List ℕ) → Does ps → is_tuple p ≡ true → (n : ℕ) (v : List ℕ) (fit : Fit) → matches (p ∷ ps) (suc n) v ≡ done fit → items is_pattern_leaf 5 (p ∷ ps) (suc n) ≡ done [] →
    items is_name 11 v (suc n) ≡ done [] → distinct (binders (p ∷ ps)) ≡ true → Matched (p ∷ ps) (suc n) v fit.bound
unfolding matches
does_tuple p ps ih t n [] fit e ip iv di = absurd (clash (rw (t, matches) at e))
does_tuple p ps ih t n (w ∷ ws) fit e ip iv di = go (eqb w p) refl
  where
    go : (b : Bool) → eqb w p ≡ b → Matched (p ∷ ps) (suc n) (w ∷ ws) fit.bound
    go false q = absurd (clash (rw (t, matches, q) at e))
    go true q =
        let same : w ≡ p = eqb-true w p q in
        let tw : is_tuple w ≡ true = rw same t in
        let iv' : items is_name 11 ws (arity w + n) ≡ done [] = sym (items_tuple is_name 11 w ws n (tuple_not_name w tw) tw) ∙ iv in
        let r = ih (arity p + n) ws fit (rw (t, matches, q) at e) (sym (items_tuple is_pattern_leaf 5 p ps n (tuple_not_leaf p t) t) ∙ ip) (rw same at iv') (subst (λ (l : List ℕ). distinct l ≡ true) (skip p ps (tuple_not_public p t)) di) in
        let Q = reads_p ps (arity p + n) in
        let W = reads ws (arity p + n) in
        let h = halves (arity p) Q W r.takes.σ r.takes.is in
        matched_to (p ∷ ps) (suc n) (w ∷ ws) fit.bound (pand (parts (first_p (arity p) Q)) (behind_p (arity p) Q)) (vcons (tup (first_v (arity p) W)) (behind_v (arity p) W))
        (λ x d. value_or h.first.σ (finds (first_p (arity p) Q) x) (h.F2 x d))
        (reads_p_tuple p ps n t) (reads_tuple w ws n tw ∙ ap (λ (y : ℕ). vcons (tup (first_v (arity y) (reads ws (arity y + n)))) (behind_v (arity y) (reads ws (arity y + n)))) same)
        (takes_and (parts (first_p (arity p) Q)) (behind_p (arity p) Q) (tup (first_v (arity p) W)) (behind_v (arity p) W) h.first.σ h.F2 h.first.is h.behind)
        (λ x d. h.first.at x (h.F2 x (val_of d)) ∙ h.joined x (val_of d) ∙ r.takes.at x (val_of d) ∙ r.words x d ∙ ap (λ (l : List ℕ). val_of (lookup l fit.bound x d)) (sym (skip p ps (tuple_not_public p t))))

does_other : (p : ℕ) (ps : List ℕ) → Does ps → is_tuple p ≡ false → (n : ℕ) (v : List ℕ) (fit : Fit) → matches (p ∷ ps) (suc n) v ≡ done fit → items is_pattern_leaf 5 (p ∷ ps) (suc n) ≡ done [] →
    items is_name 11 v (suc n) ≡ done [] → distinct (binders (p ∷ ps)) ≡ true → Matched (p ∷ ps) (suc n) v fit.bound
unfolding matches
does_other p ps ih t n v fit e ip iv di =
    let fr = first_rest v n iv in
    go (is_public p) refl fr (leafy (is_pattern_leaf p) refl) (ap (λ (x : List ℕ). reads x (suc n)) fr.0 ∙ value_front (first_of v) (rest_of v) n fr.1)
  where
    leafy : (b : Bool) → is_pattern_leaf p ≡ b → items is_pattern_leaf 5 ps n ≡ done []
    leafy true q = sym (items_leaf is_pattern_leaf 5 p ps n q) ∙ ip
    leafy false q = absurd (clash (sym (items_bad is_pattern_leaf 5 p ps n q t) ∙ ip))

    go : (b : Bool) → is_public p ≡ b → (v ≡ first_of v ++ rest_of v) × (items is_name 11 (first_of v) 1 ≡ done []) × (items is_name 11 (rest_of v) n ≡ done []) → items is_pattern_leaf 5 ps n ≡ done [] →
        reads v (suc n) ≡ vcons (val_of (first_of v)) (reads (rest_of v) n) → Matched (p ∷ ps) (suc n) v fit.bound
    go true q fr ip' rd =
        let (fit', a, b) = bind_done _ _ _ (rw (t, q, matches) at e) in
        let di' : not (has p (binders ps)) && distinct (binders ps) ≡ true = subst (λ (l : List ℕ). distinct l ≡ true) (binders_name p ps q) di in
        let r = ih n (rest_of v) fit' a ip' fr.2 (and_right (not (has p (binders ps))) (distinct (binders ps)) di') in
        matched_to (p ∷ ps) (suc n) v fit.bound (pand (named p) (reads_p ps n)) (vcons (val_of (first_of v)) (reads (rest_of v) n)) (λ x d. value_or (λ z. val_of (first_of v)) (find (named p) x) (r.F x d))
        (reads_p_name p ps n t q) rd (takes_and (named p) (reads_p ps n) (val_of (first_of v)) (reads (rest_of v) n) (λ z. val_of (first_of v)) r.F refl r.takes)
        (λ x d. by_name x (r.F x) (eqb p x) refl fit'.bound (not-true (has p (binders ps)) (and_left (not (has p (binders ps))) (distinct (binders ps)) di')) (r.words x) d
        ∙ ap₂ (λ (l : List ℕ) (u : List (List ℕ)). val_of (lookup l u x d)) (sym (binders_name p ps q)) (ap (λ (y : Fit). y.bound) (done_inj b)))
      where
        by_name : (x : ℕ) (G : Val ℕ → Val ℕ) (c : Bool) → eqb p x ≡ c → (us : List (List ℕ)) → has p (binders ps) ≡ false → ((d : List ℕ) → G (val_of d) ≡ val_of (lookup (binders ps) us x d)) → (d : List ℕ)
            → value_or {B = Unit {0}} (λ z. val_of (first_of v)) (cond (eqb p x) (some tt) none) (G (val_of d)) ≡ val_of (lookup (p ∷ binders ps) (first_of v ∷ us) x d)
        by_name x G true z us h w d = ap (λ (c : Bool). value_or {B = Unit {0}} (λ z. val_of (first_of v)) (cond c (some tt) none) (G (val_of d))) z
            ∙ sym (ap (λ (c : Bool). val_of (lookup (binders ps) us x (cond c (first_of v) d))) z ∙ ap val_of (look_none (binders ps) us x (first_of v) (subst (λ (y : ℕ). has y (binders ps) ≡ false) (eqb-true p x z) h)))
        by_name x G false z us h w d = ap (λ (c : Bool). value_or {B = Unit {0}} (λ z. val_of (first_of v)) (cond c (some tt) none) (G (val_of d))) z ∙ w d ∙ sym (ap (λ (c : Bool). val_of (lookup (binders ps) us x (cond c (first_of v) d))) z)
    go false q fr ip' rd =
        let r = ih n (rest_of v) fit (rw (t, q, matches) at e) ip' fr.2 (subst (λ (l : List ℕ). distinct l ≡ true) (skip p ps q) di) in
        matched_to (p ∷ ps) (suc n) v fit.bound (pand any (reads_p ps n)) (vcons (val_of (first_of v)) (reads (rest_of v) n)) (λ x d. value_or (λ z. absurd z) (find any x) (r.F x d))
        (reads_p_any p ps n t q) rd (takes_and any (reads_p ps n) (val_of (first_of v)) (reads (rest_of v) n) (λ z. absurd z) r.F refl r.takes)
        (λ x d. r.words x d ∙ ap (λ (l : List ℕ). val_of (lookup l fit.bound x d)) (sym (skip p ps q)))

does_cons : (p : ℕ) (ps : List ℕ) → Does ps → Does (p ∷ ps)
unfolding items
does_cons p ps ih zero v fit e ip iv di = let z : suc (length ps) ≡ 0 = ap length (done_inj ip) in absurd (omega arith)
does_cons p ps ih (suc n) v fit e ip iv di = go (is_tuple p) refl
  where
    go : (b : Bool) → is_tuple p ≡ b → Matched (p ∷ ps) (suc n) v fit.bound
    go true t = does_tuple p ps ih t n v fit e ip iv di
    go false t = does_other p ps ih t n v fit e ip iv di

does : (p : List ℕ) → Does p
does [] = does_nil
does (p ∷ ps) = does_cons p ps (does ps)

pub one_val : (v : List ℕ) → items is_name 11 v 1 ≡ done [] → reads v 1 ≡ vcons (val_of v) vnil
unfolding val_of
one_val v h = go (reads v 1) (write_back is_name 11 tuple_not_name v 1 h).1
  where
    none_left : (ps : Vals ℕ) → vcount ps ≡ 0 → ps ≡ vnil
    none_left vnil e = refl
    none_left (vcons p ps) e = absurd (omega arith)

    go : (ps : Vals ℕ) → vcount ps ≡ 1 → ps ≡ vcons (head_v ps) vnil
    go vnil e = absurd (omega arith)
    go (vcons p ps) e = ap (vcons p) (none_left ps (omega arith))

-- one pattern and one value
pub record Bound (p : List ℕ) (v : List ℕ) (bs : List (List ℕ)) : Type 0 where
  pub σ : Vars (shape (pat_of p)) → Val ℕ
  pub is : match (shape (pat_of p)) (val_of v) ≡ some σ
  pub at : (x : ℕ) (d : List ℕ) → value_or σ (find (pat_of p) x) (val_of d) ≡ val_of (lookup (binders p) bs x d)

pub bound : (p v : List ℕ) (fit : Fit) → matches p 1 v ≡ done fit → items is_pattern_leaf 5 p 1 ≡ done [] → items is_name 11 v 1 ≡ done [] → distinct (binders p) ≡ true → Bound p v fit.bound
bound p v fit e ip iv di =
    let m = does p 1 v fit e ip iv di in
    let t : Takes (pand (pat_of p) pno) (vcons (val_of v) vnil) m.F = subst₂ (λ (x : NPats) (y : Vals ℕ). Takes x y m.F) (one_pat p ip) (one_val v iv) m.takes in
    let i = both_inv (match (shape (pat_of p)) (val_of v)) (cmatches (shapes pno) vnil) t.σ t.is in
    record { σ = i.0; is = i.2; at = λ x d. only i.0 i.1 (find (pat_of p) x) (val_of d) ∙ ap (λ (s : _). value_or s (or_else (find (pat_of p) x) none) (val_of d)) i.4 ∙ t.at x (val_of d) ∙ m.words x d }
  where
    only : {A B : Type 0} (α : A → Val ℕ) (β : B → Val ℕ) (o : Option A) (d : Val ℕ) → value_or α o d ≡ value_or (⊎_elim α β) (or_else o none) d
    only α β (some a) d = refl
    only α β none d = refl

has_public : (p : List ℕ) (x : ℕ) → has x (binders p) ≡ true → is_public x ≡ true
has_public [] x e = absurd (false≢true e)
has_public (w ∷ p) x e = go (is_public w) refl e (has_public p x)
  where
    go : (b : Bool) → is_public w ≡ b → has x (cond b (w ∷ binders p) (binders p)) ≡ true → (has x (binders p) ≡ true → is_public x ≡ true) → is_public x ≡ true
    go true q h ih = split (eqb x w) refl h
      where
        split : (c : Bool) → eqb x w ≡ c → c || has x (binders p) ≡ true → is_public x ≡ true
        split true r h = subst (λ (y : ℕ). is_public y ≡ true) (sym (eqb-true x w r)) q
        split false r h = ih h
    go false q h ih = ih h

-- the environment with the pattern's names in force
pub env_pat : (ρ : Env) (p v : List ℕ) (bs : List (List ℕ)) → Sized ρ → items is_pattern_leaf 5 p 1 ≡ done [] → (m : Bound p v bs) → env_of (extend ρ (binders p) bs) ≡ with_pat (pat_of p) m.σ (env_of ρ)
unfolding env_of
env_pat ρ p v bs l ip m = fun_ext (λ n. go n (ltb n 64) refl)
  where
    off : {B : Type 0} (σ : B → Val ℕ) (o : Option B) → is_some o ≡ false → nm 0 ≡ value_or σ o (nm 0)
    off σ none e = refl
    off σ (some b) e = absurd (false≢true (sym e))

    go : (n : ℕ) (b : Bool) → ltb n 64 ≡ b → cond b (val_of (value (extend ρ (binders p) bs) n)) (nm 0) ≡ value_or m.σ (find (pat_of p) n) (cond b (val_of (value ρ n)) (nm 0))
    go n true q = ap val_of (look_append ρ.names ρ.vals (binders p) bs n (n ∷ []) l) ∙ sym (m.at n (value ρ n))
    go n false q = off m.σ (find (pat_of p) n) (no (has n (binders p)) (find_has p n ip) refl)
      where
        no : (c : Bool) → is_some (find (pat_of p) n) ≡ has n (binders p) → has n (binders p) ≡ c → is_some (find (pat_of p) n) ≡ false
        no true a h =
            let z = leb-true n 63 (has_public p n h) in
            let y = ltb-false n 64 q in
            absurd (omega arith)
        no false a h = a ∙ h
