-- Laws of `items`, `matches` and substitution.
use mathlib.Core.Path.{◌≡◌, refl, sym, ap, ◌∙◌, subst}
use mathlib.Core.Bool.{Bool, true, false, false≢true}
use mathlib.Core.List.{List, [], ◌∷◌, ◌++◌}
use mathlib.Core.Logic.{⊎_elim}
use Prim.Native.Nat.{ℕ, zero, suc, ◌+◌, ◌-◌, ◌≤◌}
use native.Mathlib.Nat.{zero-add, suc-add, add_assoc}
use native.Mathlib.Omega.{arith}
use borrow.Author.Tests.{leb-true, eqb-true, le-leb, lt-leb}
use lib.Dec.{eqb}
use lib.ListN.{length, take, drop, length-append, length-take}
use lib.Seq.{take_at}
use Rattle.model.specs.Basics.{bind, Res, refuse, done, every}
use Rattle.model.specs.Values.{items, is_tuple, is_name, is_public, is_value, shaped, arity, is_pattern_leaf, at, rest_of, first_of, binders, Fit, matches}
use Rattle.model.specs.WellFormed.{Counts, held_word, wf_value}
use Rattle.model.proofs.Basics.Tests.{fst, snd, both, alt, bind_done}
use Rattle.model.proofs.Basics.Names.{name_small}
use Rattle.model.proofs.Formed.Keeping.{done_inj}

pub clash : {A : Type 0} {n : ℕ} {a : A} → refuse n ≡ done a → ⊥
clash p = let z : ◌≡◌ {A = ℕ} 0 1 = cc in omega arith

module _ (leaf : ℕ → Bool) (e : ℕ) where
  pub items_zero : (ws : List ℕ) → items leaf e ws 0 ≡ done ws
  unfolding items
  items_zero [] = refl
  items_zero (w ∷ ws) = refl

  -- the three ways that an item goes
  pub items_leaf : (w : ℕ) (ws : List ℕ) (n : ℕ) → leaf w ≡ true → items leaf e (w ∷ ws) (suc n) ≡ items leaf e ws n
  unfolding items
  items_leaf w ws n p = rw (p, items)

  pub items_tuple : (w : ℕ) (ws : List ℕ) (n : ℕ) → leaf w ≡ false → is_tuple w ≡ true → items leaf e (w ∷ ws) (suc n) ≡ items leaf e ws (arity w + n)
  unfolding items
  items_tuple w ws n p q = rw (p, q, items)

  pub items_bad : (w : ℕ) (ws : List ℕ) (n : ℕ) → leaf w ≡ false → is_tuple w ≡ false → items leaf e (w ∷ ws) (suc n) ≡ refuse e
  unfolding items
  items_bad w ws n p q = rw (p, q, items)

  -- a items and then b
  pub items_add : (ws : List ℕ) (a b : ℕ) → items leaf e ws (a + b) ≡ bind (items leaf e ws a) (λ r. items leaf e r b)
  unfolding items bind
  items_add [] zero b = rw zero-add
  items_add [] (suc a) b = rw suc-add
  items_add (w ∷ ws) zero b = rw zero-add
  items_add (w ∷ ws) (suc a) b = rw suc-add (go (leaf w) (is_tuple w) (items_add ws a b) (items_add ws (arity w + a) b))
    where
      go : (t u : Bool) → items leaf e ws (a + b) ≡ bind (items leaf e ws a) (λ r. items leaf e r b) →
          items leaf e ws ((arity w + a) + b) ≡ bind (items leaf e ws (arity w + a)) (λ r. items leaf e r b) →
          elim t [ true ↦ items leaf e ws (a + b) | false ↦ elim u [ true ↦ items leaf e ws (arity w + (a + b)) | false ↦ refuse e ] ] ≡
          bind (elim t [ true ↦ items leaf e ws a | false ↦ elim u [ true ↦ items leaf e ws (arity w + a) | false ↦ refuse e ] ]) (λ r. items leaf e r b)
      go true u p q = p
      go false true p q = rw (← add_assoc (arity w) a b) q
      go false false p q = refl

  -- whole items, with words behind them
  pub items_append : (u : List ℕ) (n : ℕ) (r : List ℕ) → items leaf e u n ≡ done [] → items leaf e (u ++ r) n ≡ done r
  unfolding items
  items_append [] zero r p = items_zero r
  items_append [] (suc n) r p = absurd (clash p)
  items_append (w ∷ ws) zero r p = let z : suc (length ws) ≡ 0 = ap length (done_inj p) in absurd (omega arith)
  items_append (w ∷ ws) (suc n) r p = go (leaf w) refl (is_tuple w) refl (items_append ws n r) (items_append ws (arity w + n) r)
    where
      go : (t : Bool) → leaf w ≡ t → (u : Bool) → is_tuple w ≡ u → (items leaf e ws n ≡ done [] → items leaf e (ws ++ r) n ≡ done r) →
          (items leaf e ws (arity w + n) ≡ done [] → items leaf e (ws ++ r) (arity w + n) ≡ done r) → items leaf e (w ∷ (ws ++ r)) (suc n) ≡ done r
      go true a u b f g = items_leaf w (ws ++ r) n a ∙ f (rw (a, items) at p)
      go false a true b f g = items_tuple w (ws ++ r) n a b ∙ g (rw (a, b, items) at p)
      go false a false b f g = absurd (clash (rw (a, b, items) at p))

  -- the words that n items take
  pub Taken : List ℕ → ℕ → List ℕ → Type 0
  Taken ws n r = (u : List ℕ) × (ws ≡ u ++ r) × (items leaf e u n ≡ done [])

  pub items_split : (ws : List ℕ) (n : ℕ) (r : List ℕ) → items leaf e ws n ≡ done r → Taken ws n r
  unfolding items Taken
  items_split [] zero r p = ([], done_inj p, refl)
  items_split [] (suc n) r p = absurd (clash p)
  items_split (w ∷ ws) zero r p = ([], done_inj p, refl)
  items_split (w ∷ ws) (suc n) r p = go (leaf w) refl (is_tuple w) refl (items_split ws n r) (items_split ws (arity w + n) r)
    where
      go : (t : Bool) → leaf w ≡ t → (u : Bool) → is_tuple w ≡ u → (items leaf e ws n ≡ done r → Taken ws n r) →
          (items leaf e ws (arity w + n) ≡ done r → Taken ws (arity w + n) r) → Taken (w ∷ ws) (suc n) r
      go true a u b f g = let h = f (rw (a, items) at p) in (w ∷ h.0, ap (λ (l : List ℕ). w ∷ l) h.1, items_leaf w h.0 n a ∙ h.2)
      go false a true b f g = let h = g (rw (a, b, items) at p) in (w ∷ h.0, ap (λ (l : List ℕ). w ∷ l) h.1, items_tuple w h.0 n a b ∙ h.2)
      go false a false b f g = absurd (clash (rw (a, b, items) at p))

-- what stands before r, found by the lengths
front : (w u r : List ℕ) → w ≡ u ++ r → take (length w - length r) w ≡ u
front w u r e = rw e (take_at u r (length (u ++ r) - length r) (omega (arith, length-append u r)))

-- what `at` gives is one item and nothing more
pub at_whole : (leaf : ℕ → Bool) (pool : List ℕ) (p : ℕ) (v : List ℕ) → at leaf pool p ≡ done v → items leaf 5 v 1 ≡ done []
unfolding at Taken
at_whole leaf pool p v h = go (items leaf 5 (take 16 (drop p pool)) 1) refl
  where
    go : (q : Res (List ℕ)) → items leaf 5 (take 16 (drop p pool)) 1 ≡ q → items leaf 5 v 1 ≡ done []
    go (refuse n) q = absurd (clash (rw (q, at) at h))
    go (done r) q =
        let a = items_split leaf 5 (take 16 (drop p pool)) 1 r q in
        let b = done_inj (rw (q, at) at h) in
        rw (← b, front (take 16 (drop p pool)) a.0 r a.1) a.2

pub at_short : (leaf : ℕ → Bool) (pool : List ℕ) (p : ℕ) (v : List ℕ) → at leaf pool p ≡ done v → length v ≤ 16
unfolding at
at_short leaf pool p v h = go (items leaf 5 (take 16 (drop p pool)) 1) refl
  where
    go : (q : Res (List ℕ)) → items leaf 5 (take 16 (drop p pool)) 1 ≡ q → length v ≤ 16
    go (refuse n) q = absurd (clash (rw (q, at) at h))
    go (done r) q =
        let w = take 16 (drop p pool) in
        let b = done_inj (rw (q, at) at h) in
        rw (← b) (omega (arith, length-take (length w - length r) w, length-take 16 (drop p pool)))

pub shaped_items : (v : List ℕ) → shaped v ≡ true → items is_name 11 v 1 ≡ done []
unfolding shaped
shaped_items v e = go (items is_name 11 v 1) refl
  where
    empty : (r : List ℕ) → length r ≡ 0 → r ≡ []
    empty [] z = refl
    empty (x ∷ xs) z = absurd (omega arith)

    go : (r : Res (List ℕ)) → items is_name 11 v 1 ≡ r → items is_name 11 v 1 ≡ done []
    go (refuse n) p = absurd (false≢true (rw (p, shaped) at e))
    go (done r) p = p ∙ ap done (empty r (eqb-true (length r) 0 (rw (p, shaped) at e)))

pub items_shaped : (v : List ℕ) → items is_name 11 v 1 ≡ done [] → shaped v ≡ true
unfolding shaped
items_shaped v e = rw (e, shaped)

-- a value's first item and what is behind it
pub first_rest : (v : List ℕ) (n : ℕ) → items is_name 11 v (suc n) ≡ done [] →
    (v ≡ first_of v ++ rest_of v) × (items is_name 11 (first_of v) 1 ≡ done []) × (items is_name 11 (rest_of v) n ≡ done [])
unfolding first_of rest_of Taken
first_rest v n e =
    let e' : items is_name 11 v (1 + n) ≡ done [] = rw next e in
    let (r, p, q) = bind_done _ _ _ (sym (items_add is_name 11 v 1 n) ∙ e') in
    on r p q
  where
    next : 1 + n ≡ suc n
    next = omega arith

    on : (r : List ℕ) → items is_name 11 v 1 ≡ done r → items is_name 11 r n ≡ done [] → (v ≡ first_of v ++ rest_of v) × (items is_name 11 (first_of v) 1 ≡ done []) × (items is_name 11 (rest_of v) n ≡ done [])
    on r p q =
        let a = items_split is_name 11 v 1 r p in
        let rest : rest_of v ≡ r = rw p in
        let fst' : first_of v ≡ a.0 = rw rest (front v a.0 r a.1) in
        (a.1 ∙ sym (rw (fst', rest)), rw fst' a.2, rw rest q)

pub value_wf : (k : Counts) (v : List ℕ) → length v ≤ 16 → items is_name 11 v 1 ≡ done [] → every (held_word k) v ≡ true → wf_value k v ≡ true
unfolding wf_value is_value
value_wf k v l i h = both _ _ (both _ _ (le-leb _ _ l) (items_shaped v i)) h

pub every_front : {A : Type 0} (f : A → Bool) (l m : List A) → every f (l ++ m) ≡ true → every f l ≡ true
every_front f [] m e = refl
every_front f (x ∷ xs) m e = both _ _ (fst _ _ e) (every_front f xs m (snd _ _ e))

pub every_back : {A : Type 0} (f : A → Bool) (l m : List A) → every f (l ++ m) ≡ true → every f m ≡ true
every_back f [] m e = e
every_back f (x ∷ xs) m e = every_back f xs m (snd _ _ e)

pub tuple_not_name : (w : ℕ) → is_tuple w ≡ true → is_name w ≡ false
tuple_not_name w e = go (is_name w) refl
  where
    go : (t : Bool) → is_name w ≡ t → is_name w ≡ false
    go false p = p
    go true p =
        let a = leb-true 4000000 w (fst _ _ e) in absurd (omega (arith, name_small w p))

pub tuple_not_leaf : (w : ℕ) → is_tuple w ≡ true → is_pattern_leaf w ≡ false
tuple_not_leaf w e = go (is_pattern_leaf w) refl
  where
    go : (t : Bool) → is_pattern_leaf w ≡ t → is_pattern_leaf w ≡ false
    go false p = p
    go true p =
        let a = leb-true 4000000 w (fst _ _ e) in
        let a' = leb-true w 4000015 (snd _ _ e) in
        absurd (⊎_elim (λ q. let b = leb-true w 63 q in omega arith) (λ q. let b = eqb-true w 4999999 q in omega arith) (alt _ _ p))

pub tuple_not_public : (w : ℕ) → is_tuple w ≡ true → is_public w ≡ false
tuple_not_public w e = let a = leb-true 4000000 w (fst _ _ e) in lt-leb w 63 (omega arith)

-- WHAT A PATTERN BINDS: as many values as it has names, each well formed
abbrev pub Binds : Counts → List ℕ → Type 0
Binds k p = (n : ℕ) (v : List ℕ) (fit : Fit) → matches p n v ≡ done fit →
    items is_pattern_leaf 5 p n ≡ done [] → items is_name 11 v n ≡ done [] → length v ≤ 16 → every (held_word k) v ≡ true →
    (length fit.bound ≡ length (binders p)) × (every (wf_value k) fit.bound ≡ true)

binds_nil : (k : Counts) → Binds k []
unfolding matches
binds_nil k zero v fit e ip iv l h = (ap (λ (y : Fit). length y.bound) (sym (done_inj e)), rw (← done_inj e))
binds_nil k (suc n) v fit e ip iv l h = absurd (clash e)

binds_tuple : (k : Counts) (p : ℕ) (ps : List ℕ) → Binds k ps → is_tuple p ≡ true → (n : ℕ) (v : List ℕ) (fit : Fit) → matches (p ∷ ps) (suc n) v ≡ done fit →
    items is_pattern_leaf 5 (p ∷ ps) (suc n) ≡ done [] → items is_name 11 v (suc n) ≡ done [] → length v ≤ 16 → every (held_word k) v ≡ true →
    (length fit.bound ≡ length (binders (p ∷ ps))) × (every (wf_value k) fit.bound ≡ true)
unfolding matches
binds_tuple k p ps ih t n [] fit e ip iv l h = absurd (clash (rw (t, matches) at e))
binds_tuple k p ps ih t n (w ∷ ws) fit e ip iv l h = go (eqb w p) refl
  where
    go : (b : Bool) → eqb w p ≡ b → (length fit.bound ≡ length (binders (p ∷ ps))) × (every (wf_value k) fit.bound ≡ true)
    go false q = absurd (clash (rw (t, matches, q) at e))
    go true q =
        let same : w ≡ p = eqb-true w p q in
        let tw : is_tuple w ≡ true = rw same t in
        let iv' : items is_name 11 ws (arity w + n) ≡ done [] = sym (items_tuple is_name 11 w ws n (tuple_not_name w tw) tw) ∙ iv in
        let r = ih (arity p + n) ws fit (rw (t, matches, q) at e) (sym (items_tuple is_pattern_leaf 5 p ps n (tuple_not_leaf p t) t) ∙ ip) (rw same at iv') (omega arith) (snd _ _ h) in
        (rw (tuple_not_public p t) r.0, r.1)

binds_other : (k : Counts) (p : ℕ) (ps : List ℕ) → Binds k ps → is_tuple p ≡ false → (n : ℕ) (v : List ℕ) (fit : Fit) → matches (p ∷ ps) (suc n) v ≡ done fit →
    items is_pattern_leaf 5 (p ∷ ps) (suc n) ≡ done [] → items is_name 11 v (suc n) ≡ done [] → length v ≤ 16 → every (held_word k) v ≡ true →
    (length fit.bound ≡ length (binders (p ∷ ps))) × (every (wf_value k) fit.bound ≡ true)
unfolding matches
binds_other k p ps ih t n v fit e ip iv l h =
    let fr = first_rest v n iv in
    let hv : every (held_word k) (first_of v ++ rest_of v) ≡ true = subst (λ (x : List ℕ). every (held_word k) x ≡ true) fr.0 h in
    let ln : length v ≡ length (first_of v) + length (rest_of v) = ap length fr.0 ∙ length-append (first_of v) (rest_of v) in
    go (is_public p) refl fr hv ln (leafy (is_pattern_leaf p) refl)
  where
    leafy : (b : Bool) → is_pattern_leaf p ≡ b → items is_pattern_leaf 5 ps n ≡ done []
    leafy true q = sym (items_leaf is_pattern_leaf 5 p ps n q) ∙ ip
    leafy false q = absurd (clash (sym (items_bad is_pattern_leaf 5 p ps n q t) ∙ ip))

    go : (b : Bool) → is_public p ≡ b → (v ≡ first_of v ++ rest_of v) × (items is_name 11 (first_of v) 1 ≡ done []) × (items is_name 11 (rest_of v) n ≡ done []) →
        every (held_word k) (first_of v ++ rest_of v) ≡ true → length v ≡ length (first_of v) + length (rest_of v) → items is_pattern_leaf 5 ps n ≡ done [] →
        (length fit.bound ≡ length (binders (p ∷ ps))) × (every (wf_value k) fit.bound ≡ true)
    go true q fr hv ln ip' =
        let (fit', a, b) = bind_done _ _ _ (rw (t, q, matches) at e) in
        let r = ih n (rest_of v) fit' a ip' fr.2 (omega arith) (every_back (held_word k) (first_of v) (rest_of v) hv) in
        let wf = value_wf k (first_of v) (omega arith) fr.1 (every_front (held_word k) (first_of v) (rest_of v) hv) in
        (ap (λ (y : Fit). length y.bound) (sym (done_inj b)) ∙ rw q (ap suc r.0), subst (λ (y : Fit). every (wf_value k) y.bound ≡ true) (done_inj b) (both _ _ wf r.1))
    go false q fr hv ln ip' =
        let r = ih n (rest_of v) fit (rw (t, q, matches) at e) ip' fr.2 (omega arith) (every_back (held_word k) (first_of v) (rest_of v) hv) in
        (rw q r.0, r.1)

binds_cons : (k : Counts) (p : ℕ) (ps : List ℕ) → Binds k ps → Binds k (p ∷ ps)
unfolding items
binds_cons k p ps ih zero v fit e ip iv l h = let z : suc (length ps) ≡ 0 = ap length (done_inj ip) in absurd (omega arith)
binds_cons k p ps ih (suc n) v fit e ip iv l h = go (is_tuple p) refl
  where
    go : (b : Bool) → is_tuple p ≡ b → (length fit.bound ≡ length (binders (p ∷ ps))) × (every (wf_value k) fit.bound ≡ true)
    go true t = binds_tuple k p ps ih t n v fit e ip iv l h
    go false t = binds_other k p ps ih t n v fit e ip iv l h

pub matches_wf : (k : Counts) (p : List ℕ) → Binds k p
matches_wf k [] = binds_nil k
matches_wf k (p ∷ ps) = binds_cons k p ps (matches_wf k ps)
