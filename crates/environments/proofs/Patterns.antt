-- What a pattern of a table binds: as many values as it has names, each no longer than the value.
use mathlib.Core.Path.{◌≡◌, refl, sym, ap, ◌∙◌, subst}
use mathlib.Core.Bool.{Bool, true, false}
use mathlib.Core.List.{List, [], ◌∷◌}
use Prim.Native.Nat.{ℕ, zero, suc, ◌+◌, ◌-◌, ◌≤◌}
use native.Mathlib.Omega.{arith}
use borrow.Author.Tests.{le-leb}
use lib.Dec.{leb, eqb}
use lib.ListN.{length, length-drop, length-take}
use Rattle.model.specs.Basics.{Res, refuse, done, bind, is_done, or_else, every}
use Rattle.model.specs.Values.{items, at, is_tuple, is_name, is_public, is_pattern_leaf, arity, binders, rest_of, first_of, Fit, matches}
use Rattle.model.specs.Values.{binds as with_bound}
use Rattle.model.proofs.Basics.Tests.{both, bind_done}
use Rattle.model.proofs.Formed.Keeping.{done_inj}
use Rattle.model.proofs.Basics.Items.{clash, items_leaf, items_tuple, items_bad, at_whole, tuple_not_leaf, tuple_not_public}
use Rattle.values.proofs.Spans.{items_tail}
use Rattle.environments.specs.Matching.{pattern_at}

-- a value of at most 16 words
abbrev pub is_short : List ℕ → Bool
is_short v = leb (length v) 16

-- the parts of a value are no longer than it
rest_le : (v : List ℕ) → length (rest_of v) ≤ length v
unfolding rest_of
rest_le v = go (items is_name 11 v 1) refl
  where
    go : (q : Res (List ℕ)) → items is_name 11 v 1 ≡ q → length (or_else q []) ≤ length v
    go (refuse k) e = omega arith
    go (done r) e = let s = items_tail is_name 11 v 1 r e in omega (arith, ap length s.1, length-drop s.0 v)

first_short : (v : List ℕ) → length v ≤ 16 → is_short (first_of v) ≡ true
unfolding first_of
first_short v h = le-leb (length (first_of v)) 16 (omega (arith, length-take (length v - length (rest_of v)) v))

-- THE LAW, by the pattern's words
abbrev Binds : List ℕ → Type 0
Binds p = (n : ℕ) (v : List ℕ) (m : Fit) → matches p n v ≡ done m → items is_pattern_leaf 5 p n ≡ done [] → length v ≤ 16 →
    (length m.bound ≡ length (binders p)) × (every is_short m.bound ≡ true)

binds_nil : Binds []
unfolding matches
binds_nil zero v m e ip l = (ap (λ (y : Fit). length y.bound) (sym (done_inj e)), rw (← done_inj e))
binds_nil (suc n) v m e ip l = absurd (clash e)

module _ (p : ℕ) (ps : List ℕ) (ih : Binds ps) (n : ℕ) where
  abbrev Bound : Fit → Type 0
  Bound m = (length m.bound ≡ length (binders (p ∷ ps))) × (every is_short m.bound ≡ true)

  binds_tuple : is_tuple p ≡ true → (v : List ℕ) (m : Fit) → matches (p ∷ ps) (suc n) v ≡ done m → items is_pattern_leaf 5 (p ∷ ps) (suc n) ≡ done [] → length v ≤ 16 → Bound m
  unfolding matches
  binds_tuple t [] m e ip l = absurd (clash (rw (t, matches) at e))
  binds_tuple t (w ∷ ws) m e ip l = go (eqb w p) refl
    where
      go : (b : Bool) → eqb w p ≡ b → Bound m
      go false q = absurd (clash (rw (t, matches, q) at e))
      go true q =
          let r = ih (arity p + n) ws m (rw (t, matches, q) at e) (sym (items_tuple is_pattern_leaf 5 p ps n (tuple_not_leaf p t) t) ∙ ip) (omega arith) in
          (rw (tuple_not_public p t) r.0, r.1)

  binds_other : is_tuple p ≡ false → (v : List ℕ) (m : Fit) → matches (p ∷ ps) (suc n) v ≡ done m → items is_pattern_leaf 5 (p ∷ ps) (suc n) ≡ done [] → length v ≤ 16 → Bound m
  unfolding matches
  binds_other t v m e ip l = go (is_public p) refl (leafy (is_pattern_leaf p) refl)
    where
      leafy : (b : Bool) → is_pattern_leaf p ≡ b → items is_pattern_leaf 5 ps n ≡ done []
      leafy true q = sym (items_leaf is_pattern_leaf 5 p ps n q) ∙ ip
      leafy false q = absurd (clash (sym (items_bad is_pattern_leaf 5 p ps n q t) ∙ ip))

      go : (b : Bool) → is_public p ≡ b → items is_pattern_leaf 5 ps n ≡ done [] → Bound m
      go true q ip' =
          let (m', a, b) = bind_done _ _ _ (rw (t, q, matches) at e) in
          let r = ih n (rest_of v) m' a ip' (omega (arith, rest_le v)) in
          let shorts = subst (λ (y : Fit). every is_short y.bound ≡ true) (done_inj b) (both _ _ (first_short v l) r.1) in
          (ap (λ (y : Fit). length y.bound) (sym (done_inj b)) ∙ rw q (ap suc r.0), shorts)
      go false q ip' =
          let r = ih n (rest_of v) m (rw (t, q, matches) at e) ip' (omega (arith, rest_le v)) in
          (rw q r.0, r.1)

binds_cons : (p : ℕ) (ps : List ℕ) → Binds ps → Binds (p ∷ ps)
unfolding items
binds_cons p ps ih zero v m e ip l = let z : suc (length ps) ≡ 0 = ap length (done_inj ip) in absurd (omega arith)
binds_cons p ps ih (suc n) v m e ip l = go (is_tuple p) refl
  where
    go : (b : Bool) → is_tuple p ≡ b → (length m.bound ≡ length (binders (p ∷ ps))) × (every is_short m.bound ≡ true)
    go true t = binds_tuple p ps ih n t v m e ip l
    go false t = binds_other p ps ih n t v m e ip l

binds : (p : List ℕ) → Binds p
binds [] = binds_nil
binds (p ∷ ps) = binds_cons p ps (binds ps)

-- a pattern that stands in a pool is one item
pub pattern_binds : (pool : List ℕ) (place : ℕ) (v : List ℕ) (m : Fit) → matches (pattern_at pool place) 1 v ≡ done m → length v ≤ 16 →
    (length m.bound ≡ length (binders (pattern_at pool place))) × (every is_short m.bound ≡ true)
unfolding matches
pattern_binds pool place v m = go (at is_pattern_leaf pool place) refl
  where
    go : (q : Res (List ℕ)) → at is_pattern_leaf pool place ≡ q → matches (or_else q []) 1 v ≡ done m → length v ≤ 16 →
        (length m.bound ≡ length (binders (or_else q []))) × (every is_short m.bound ≡ true)
    go (refuse k) a e l = absurd (clash e)
    go (done p) a e l = binds p 1 v m e (at_whole is_pattern_leaf pool place p a) l

-- A MATCH IS REFUSED with 14 alone
abbrev number_of : Res Fit → ℕ
number_of (refuse k) = k
number_of (done m) = 14

number_14 : (p : List ℕ) (n : ℕ) (v : List ℕ) → number_of (matches p n v) ≡ 14
unfolding matches bind
number_14 [] zero v = refl
number_14 [] (suc n) v = refl
number_14 (p ∷ ps) zero v = refl
number_14 (p ∷ ps) (suc n) v = go (is_tuple p) (is_public p) v (number_14 ps (arity p + n)) (number_14 ps n (rest_of v))
  where
    tuple : (t : Bool) (q : Res Fit) → number_of q ≡ 14 → number_of (elim t [ true ↦ q | false ↦ refuse 14 ]) ≡ 14
    tuple true q e = e
    tuple false q e = refl

    name : (x : List ℕ) (q : Res Fit) → number_of q ≡ 14 → number_of (bind q (λ m. done (with_bound x m))) ≡ 14
    name x (refuse k) e = e
    name x (done m) e = refl

    go : (t u : Bool) (v : List ℕ) → ((ws : List ℕ) → number_of (matches ps (arity p + n) ws) ≡ 14) → number_of (matches ps n (rest_of v)) ≡ 14 →
        number_of (elim t [
          | true ↦ elim v [ [] ↦ refuse 14 | w ∷ ws ↦ elim (eqb w p) [ true ↦ matches ps (arity p + n) ws | false ↦ refuse 14 ] ]
          | false ↦ elim u [ true ↦ bind (matches ps n (rest_of v)) (λ m. done (with_bound (first_of v) m)) | false ↦ matches ps n (rest_of v) ]
        ]) ≡ 14
    go true u [] e f = refl
    go true u (w ∷ ws) e f = tuple (eqb w p) (matches ps (arity p + n) ws) (e ws)
    go false true v e f = name (first_of v) (matches ps n (rest_of v)) f
    go false false v e f = f

-- the two answers of a match
pub match_no : (p v : List ℕ) → is_done (matches p 1 v) ≡ false → matches p 1 v ≡ refuse 14
match_no p v = go (matches p 1 v) (number_14 p 1 v)
  where
    go : (q : Res Fit) → number_of q ≡ 14 → is_done q ≡ false → q ≡ refuse 14
    go (refuse k) e z = ap refuse e
    go (done m) e z = absurd (let y : ◌≡◌ {A = ℕ} 0 1 = cc in omega arith)

pub match_yes : (p v : List ℕ) → is_done (matches p 1 v) ≡ true → (m : Fit) × (matches p 1 v ≡ done m)
match_yes p v = go (matches p 1 v)
  where
    go : (q : Res Fit) → is_done q ≡ true → (m : Fit) × (q ≡ done m)
    go (refuse k) z = absurd (let y : ◌≡◌ {A = ℕ} 0 1 = cc in omega arith)
    go (done m) z = (m, refl)
