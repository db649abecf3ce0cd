-- Where the calculus matches a value, matching by words gives the same bindings.
use mathlib.Core.Path.{◌≡◌, refl, sym, ap, ◌∙◌, subst, subst₂}
use mathlib.Core.Bool.{Bool, true, false, ◌&&◌, false≢true}
use mathlib.Core.List.{List, [], ◌∷◌}
use mathlib.Core.Option.{Option, none, some}
use Prim.Native.Nat.{ℕ, zero, suc, ◌+◌}
use native.Mathlib.Omega.{arith}
use borrow.Author.Tests.{leb-true, eq-eqb}
use lib.ListN.{length}
use Rattle.calculus.specs.Syntax.{Val, Vals, vnil, vcons, Vars, both, match}
use Rattle.calculus.specs.Syntax.{matches as cmatches}
use Rattle.calculus.specs.Named.{NPat, NPats, any, named, parts, pno, pand, shape, shapes}
use Rattle.model.specs.Basics.{Res, done, bind}
use Rattle.model.specs.Values.{items, is_tuple, is_name, is_public, is_pattern_leaf, arity, distinct, binders, Fit, binds, matches, first_of, rest_of}
use Rattle.model.specs.Process.{vcount, first_v, behind_v, reads, val_of, first_p, behind_p, reads_p, pat_of}
use Rattle.model.proofs.Basics.Tests.{fst, and_left, and_right, and_intro, some_inj}
use Rattle.model.proofs.Formed.Keeping.{done_inj}
use Rattle.model.proofs.Basics.Items.{clash, items_leaf, items_tuple, items_bad, first_rest, tuple_not_name, tuple_not_leaf}
use Rattle.model.proofs.Processes.ValueWords.{reads_tuple, reads_name, write_back, count_first}
use Rattle.model.proofs.Processes.HandlerTerms.{reads_p_tuple, reads_p_name, reads_p_any, one_pat, found, pcount, pcount_first, is_some}
use Rattle.model.proofs.Sound.Substitutions.{value_front}
use Rattle.model.proofs.Sound.Matching.{one_val, Bound, bound}

-- the calculus matches some patterns with some values
abbrev Fits : NPats → Vals ℕ → Type 0
Fits Q W = is_some (cmatches (shapes Q) W) ≡ true

both_some : {A B C : Type 0} (a : Option (A → C)) (b : Option (B → C)) → is_some (both a b) ≡ is_some a && is_some b
both_some none b = refl
both_some (some f) none = refl
both_some (some f) (some g) = refl

-- as many patterns as values
fits_count : (Q : NPats) (W : Vals ℕ) → Fits Q W → pcount Q ≡ vcount W
fits_count pno vnil e = refl
fits_count pno (vcons v W) e = absurd (false≢true e)
fits_count (pand q Q) vnil e = absurd (false≢true e)
fits_count (pand q Q) (vcons v W) e = ap suc (fits_count Q W (and_right (is_some (match (shape q) v)) (is_some (cmatches (shapes Q) W)) (sym (both_some (match (shape q) v) (cmatches (shapes Q) W)) ∙ e)))

-- the first k and those behind them fit: all do
fits_join : (k : ℕ) (Q : NPats) (W : Vals ℕ) → Fits (first_p k Q) (first_v k W) → Fits (behind_p k Q) (behind_v k W) → Fits Q W
fits_join zero Q W a b = b
fits_join (suc k) pno vnil a b = refl
fits_join (suc k) pno (vcons v W) a b = absurd (false≢true a)
fits_join (suc k) (pand q Q) vnil a b = absurd (false≢true a)
fits_join (suc k) (pand q Q) (vcons v W) a b =
    let m = match (shape q) v in
    let h = sym (both_some m (cmatches (shapes (first_p k Q)) (first_v k W))) ∙ a in
    both_some m (cmatches (shapes Q) W) ∙ and_intro (is_some m) (is_some (cmatches (shapes Q) W)) (and_left (is_some m) (is_some (cmatches (shapes (first_p k Q)) (first_v k W))) h)
    (fits_join k Q W (and_right (is_some m) (is_some (cmatches (shapes (first_p k Q)) (first_v k W))) h) b)

abbrev Matches : List ℕ → ℕ → List ℕ → Type 0
Matches p n v = (fit : Fit) × (matches p n v ≡ done fit)

abbrev Back : List ℕ → Type 0
Back p = (n : ℕ) (v : List ℕ) → Fits (reads_p p n) (reads v n) → items is_pattern_leaf 5 p n ≡ done [] → items is_name 11 v n ≡ done [] → Matches p n v

back_tuple : (p : ℕ) (ps : List ℕ) → Back ps → is_tuple p ≡ true → (n : ℕ) (v : List ℕ) → Fits (reads_p (p ∷ ps) (suc n)) (reads v (suc n)) → items is_pattern_leaf 5 (p ∷ ps) (suc n) ≡ done [] →
    items is_name 11 v (suc n) ≡ done [] → Matches (p ∷ ps) (suc n) v
unfolding matches items
back_tuple p ps ih t n [] e ip iv = absurd (clash iv)
back_tuple p ps ih t n (w ∷ ws) e ip iv = go (is_tuple w) refl
  where
    Q : NPats
    Q = reads_p ps (arity p + n)

    split : Fits (pand (parts (first_p (arity p) Q)) (behind_p (arity p) Q)) (reads (w ∷ ws) (suc n))
    split = subst (λ (x : NPats). Fits x (reads (w ∷ ws) (suc n))) (reads_p_tuple p ps n t) e

    ip' : items is_pattern_leaf 5 ps (arity p + n) ≡ done []
    ip' = sym (items_tuple is_pattern_leaf 5 p ps n (tuple_not_leaf p t) t) ∙ ip

    go : (b : Bool) → is_tuple w ≡ b → Matches (p ∷ ps) (suc n) (w ∷ ws)
    go false q = absurd (false≢true (subst (λ (x : Vals ℕ). Fits (pand (parts (first_p (arity p) Q)) (behind_p (arity p) Q)) x) (reads_name w ws n q) split))
    go true q =
        let W = reads ws (arity w + n) in
        let iv' : items is_name 11 ws (arity w + n) ≡ done [] = sym (items_tuple is_name 11 w ws n (tuple_not_name w q) q) ∙ iv in
        let s = subst (λ (x : Vals ℕ). Fits (pand (parts (first_p (arity p) Q)) (behind_p (arity p) Q)) x) (reads_tuple w ws n q) split in
        let h = sym (both_some (cmatches (shapes (first_p (arity p) Q)) (first_v (arity w) W)) (cmatches (shapes (behind_p (arity p) Q)) (behind_v (arity w) W))) ∙ s in
        let a = and_left (is_some (cmatches (shapes (first_p (arity p) Q)) (first_v (arity w) W))) (is_some (cmatches (shapes (behind_p (arity p) Q)) (behind_v (arity w) W))) h in
        let b = and_right (is_some (cmatches (shapes (first_p (arity p) Q)) (first_v (arity w) W))) (is_some (cmatches (shapes (behind_p (arity p) Q)) (behind_v (arity w) W))) h in
        let c1 : pcount (first_p (arity p) Q) ≡ arity p = pcount_first (arity p) Q (omega (arith, (found 0 ps (arity p + n) ip').1)) in
        let c2 : vcount (first_v (arity w) W) ≡ arity w = count_first (arity w) W (omega (arith, (write_back is_name 11 tuple_not_name ws (arity w + n) iv').1)) in
        let c3 = fits_count (first_p (arity p) Q) (first_v (arity w) W) a in
        let lp = leb-true 4000000 p (fst _ _ t) in
        let lw = leb-true 4000000 w (fst _ _ q) in
        let same : w ≡ p = omega (arith, c1, c2, c3, lp, lw) in
        on same (fits_join (arity p) Q (reads ws (arity p + n)) (subst (λ (x : ℕ). Fits (first_p (arity p) Q) (first_v (arity x) (reads ws (arity x + n)))) same a)
        (subst (λ (x : ℕ). Fits (behind_p (arity p) Q) (behind_v (arity x) (reads ws (arity x + n)))) same b))
        (subst (λ (x : ℕ). items is_name 11 ws (arity x + n) ≡ done []) same iv')
      where
        on : w ≡ p → Fits Q (reads ws (arity p + n)) → items is_name 11 ws (arity p + n) ≡ done [] → Matches (p ∷ ps) (suc n) (w ∷ ws)
        on same f i = let r = ih (arity p + n) ws f ip' i in (r.0, rw (t, eq-eqb w p same, matches) r.1)

back_other : (p : ℕ) (ps : List ℕ) → Back ps → is_tuple p ≡ false → (n : ℕ) (v : List ℕ) → Fits (reads_p (p ∷ ps) (suc n)) (reads v (suc n)) → items is_pattern_leaf 5 (p ∷ ps) (suc n) ≡ done [] →
    items is_name 11 v (suc n) ≡ done [] → Matches (p ∷ ps) (suc n) v
unfolding matches bind
back_other p ps ih t n v e ip iv = let fr = first_rest v n iv in
    go (is_public p) refl fr.2 (leafy (is_pattern_leaf p) refl) (subst (λ (x : Vals ℕ). Fits (reads_p (p ∷ ps) (suc n)) x) (ap (λ (x : List ℕ). reads x (suc n)) fr.0 ∙ value_front (first_of v) (rest_of v) n fr.1) e)
  where
    leafy : (b : Bool) → is_pattern_leaf p ≡ b → items is_pattern_leaf 5 ps n ≡ done []
    leafy true q = sym (items_leaf is_pattern_leaf 5 p ps n q) ∙ ip
    leafy false q = absurd (clash (sym (items_bad is_pattern_leaf 5 p ps n q t) ∙ ip))

    behind : (q : NPat) → is_some (match (shape q) (val_of (first_of v))) ≡ true → Fits (pand q (reads_p ps n)) (vcons (val_of (first_of v)) (reads (rest_of v) n)) → Fits (reads_p ps n) (reads (rest_of v) n)
    behind q h f = and_right (is_some (match (shape q) (val_of (first_of v)))) (is_some (cmatches (shapes (reads_p ps n)) (reads (rest_of v) n)))
        (sym (both_some (match (shape q) (val_of (first_of v))) (cmatches (shapes (reads_p ps n)) (reads (rest_of v) n))) ∙ f)

    go : (b : Bool) → is_public p ≡ b → items is_name 11 (rest_of v) n ≡ done [] → items is_pattern_leaf 5 ps n ≡ done [] → Fits (reads_p (p ∷ ps) (suc n)) (vcons (val_of (first_of v)) (reads (rest_of v) n)) → Matches (p ∷ ps) (suc n) v
    go true q iv' ip' f =
        let r = ih n (rest_of v) (behind (named p) refl (subst (λ (x : NPats). Fits x (vcons (val_of (first_of v)) (reads (rest_of v) n))) (reads_p_name p ps n t q) f)) ip' iv' in
        (binds (first_of v) r.0, rw (t, q, matches) (ap (λ (m : Res Fit). bind m (λ m. done (binds (first_of v) m))) r.1))
    go false q iv' ip' f =
        let r = ih n (rest_of v) (behind any refl (subst (λ (x : NPats). Fits x (vcons (val_of (first_of v)) (reads (rest_of v) n))) (reads_p_any p ps n t q) f)) ip' iv' in
        (r.0, rw (t, q, matches) r.1)

back_cons : (p : ℕ) (ps : List ℕ) → Back ps → Back (p ∷ ps)
unfolding items
back_cons p ps ih zero v e ip iv = let z : suc (length ps) ≡ 0 = ap length (done_inj ip) in absurd (omega arith)
back_cons p ps ih (suc n) v e ip iv = go (is_tuple p) refl
  where
    go : (b : Bool) → is_tuple p ≡ b → Matches (p ∷ ps) (suc n) v
    go true t = back_tuple p ps ih t n v e ip iv
    go false t = back_other p ps ih t n v e ip iv

back_nil : Back []
unfolding matches items
back_nil zero v e ip iv = (record { pattern = []; value = v; bound = [] }, refl)
back_nil (suc n) v e ip iv = absurd (clash ip)

back : (p : List ℕ) → Back p
back [] = back_nil
back (p ∷ ps) = back_cons p ps (back ps)

-- a pattern that the calculus matches with a value, matched by words
pub record MatchedBack (p v : List ℕ) (σ : Vars (shape (pat_of p)) → Val ℕ) : Type 0 where
  pub fit : Fit
  pub is : matches p 1 v ≡ done fit
  pub bd : Bound p v fit.bound
  pub same : bd.σ ≡ σ

pub match_back : (p v : List ℕ) (σ : Vars (shape (pat_of p)) → Val ℕ) → match (shape (pat_of p)) (val_of v) ≡ some σ → items is_pattern_leaf 5 p 1 ≡ done [] → items is_name 11 v 1 ≡ done [] → distinct (binders p) ≡ true → MatchedBack p v σ
match_back p v σ e ip iv di =
    let r = back p 1 v (subst₂ Fits (sym (one_pat p ip)) (sym (one_val v iv)) (both_some (match (shape (pat_of p)) (val_of v)) (cmatches (shapes pno) vnil) ∙ ap (λ (o : Option (Vars (shape (pat_of p)) → Val ℕ)). is_some o && true) e)) ip iv in
    let m = bound p v r.0 r.1 ip iv di in
    record { fit = r.0; is = r.1; bd = m; same = some_inj (sym m.is ∙ e) }
