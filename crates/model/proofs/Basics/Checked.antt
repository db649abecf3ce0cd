-- What load's checks say of a table: its tree, its scopes, and the process at each node.
use mathlib.Core.Path.{◌≡◌, refl, sym, ap, ◌∙◌, subst}
use mathlib.Core.Bool.{Bool, true, false, false≢true}
use mathlib.Core.List.{List, [], ◌∷◌, ◌++◌, append_assoc, append-nil}
use mathlib.Core.Logic.{◌⊎◌, ⊎_elim}
use Prim.Native.Nat.{ℕ, zero, suc, ◌+◌, ◌<◌, ◌≤◌}
use native.Mathlib.Nat.{eq-or-lt_of_le}
use native.Mathlib.Omega.{arith}
use borrow.Author.Tests.{leb-true, ltb-true, eqb-true, eq-eqb, ne_eqb, le-leb}
use lib.Dec.{leb, ltb, eqb}
use lib.ListN.{length}
use Rattle.model.specs.Basics.{◌&◌, implies, Res, refuse, done, or_else, is_done}
use Rattle.model.specs.Values.{items, is_public, is_pattern_leaf, binders, distinct, at}
use Rattle.model.specs.Table.{Table, count, kind, field, Term, nil, par, box, new, out, inp, build, term, child_times, bound, scope_up, scope}
use Rattle.model.specs.Checks.{found, check1, fields_ok, first_bad, fault, Fault, check2, check3, check4, check5, pattern_ok, times_child}
use Rattle.model.proofs.Basics.Tests.{choose_done, fst, snd, alt}
use Rattle.model.proofs.Basics.Items.{clash, at_whole, at_short}
use Rattle.model.proofs.Basics.Terms.{Child, left, right, in_box, in_new, in_body, Tree, term_at_lem}

-- what the four tests say at every node
pub record Checked (t : Table) : Type 0 where
  pub c2 : (n : ℕ) → n < count t → check2 t n ≡ true
  pub c3 : (n : ℕ) → n < count t → check3 t n ≡ true
  pub c4 : (n : ℕ) → n < count t → check4 t n ≡ true
  pub c5 : (n : ℕ) → n < count t → check5 t n ≡ true
  pub some : 0 < count t

pub no_bad : (f : ℕ → Bool) (k i e : ℕ) → first_bad f k i ≡ refuse e → (j : ℕ) → i ≤ j → j < i + k → f j ≡ true
unfolding first_bad
no_bad f zero i e p j l h = absurd (omega arith)
no_bad f (suc k) i e p j l h = go (f i) refl (no_bad f k (i + 1) e)
  where
    go : (b : Bool) → f i ≡ b → (first_bad f k (i + 1) ≡ refuse e → (j : ℕ) → i + 1 ≤ j → j < i + 1 + k → f j ≡ true) → f j ≡ true
    go false q ih = absurd (clash (sym (rw (q, first_bad) at p)))
    go true q ih = ⊎_elim (λ s. rw (← s) q) (λ s. ih (rw (q, first_bad) at p) j (omega arith) (omega arith)) (eq-or-lt_of_le l)

pub not_found : (x : Res ℕ) (k : ℕ) (r : Res Fault) (e : ℕ) → found x k r ≡ refuse e → ((e' : ℕ) × (x ≡ refuse e')) × (r ≡ refuse e)
unfolding found
not_found (done n) k r e p = absurd (clash (sym p))
not_found (refuse e') k r e p = ((e', refl), p)

pub checked : (t : Table) (e : ℕ) → fault t ≡ refuse e → Checked t
unfolding fault check1
checked t e p = ⊎_elim
    (λ a.
    let f2 = not_found _ _ _ _ a.1 in
    let f3 = not_found _ _ _ _ f2.1 in
    let f4 = not_found _ _ _ _ f3.1 in
    let f5 = not_found _ _ _ _ f4.1 in
    let all : (f : ℕ → Bool) (e : ℕ) → first_bad f (count t) 0 ≡ refuse e → (n : ℕ) → n < count t → f n ≡ true = λ f e q n l. no_bad f (count t) 0 e q n (omega arith) (omega arith) in
    record { c2 = all _ _ f2.0.1; c3 = all _ _ f3.0.1; c4 = all _ _ f4.0.1; c5 = all _ _ f5.0.1; some = leb-true 1 (count t) (fst _ _ (snd _ _ a.0)) })
    (λ a. absurd (clash (sym a.1)))
    (choose_done _ _ _ _ p)

pub lt_both : (n m x : ℕ) → ltb n m & ltb m x ≡ true → (n < m) × (m < x)
lt_both n m x h = (ltb-true n m (fst _ _ h), ltb-true m x (snd _ _ h))

-- a test of the fields of an input node, kind 5 or 6
body_fields : (t : Table) → Checked t → (f : ℕ → ℕ → Bool) (n e : ℕ) → n < count t → kind t n ≡ suc (suc (suc (suc (suc e)))) → fields_ok t f n ≡ true →
    f 2 (field t n 1) & (f 3 (field t n 2) & (f 5 (field t n 3) & (f 1 (field t n 4) & true))) ≡ true
unfolding check2
body_fields t c f n zero l e h = rw e at h
body_fields t c f n (suc zero) l e h = rw e at h
body_fields t c f n (suc (suc k)) l e h = let z = leb-true (kind t n) 6 (fst _ _ (c.c2 n l)) in absurd (omega (arith, e))

-- A CHECKED TABLE IS A TREE
child_above : (t : Table) → Checked t → (n : ℕ) → n < count t → (κ m : ℕ) → kind t n ≡ κ → Child t n κ m → (n < m) × (m < count t)
unfolding check3
child_above t c n l κ m e left = let f = rw e at (fst _ _ (c.c3 n l)) in lt_both _ _ _ (fst _ _ f)
child_above t c n l κ m e right = let f = rw e at (fst _ _ (c.c3 n l)) in lt_both _ _ _ (fst _ _ (snd _ _ f))
child_above t c n l κ m e in_box = let f = rw e at (fst _ _ (c.c3 n l)) in lt_both _ _ _ (fst _ _ (snd _ _ f))
child_above t c n l κ m e in_new = let f = rw e at (fst _ _ (c.c3 n l)) in lt_both _ _ _ (fst _ _ (snd _ _ f))
child_above t c n l κ m e (in_body {e = k}) = let f = body_fields t c (λ u w. implies (eqb u 1) (ltb n w & ltb w (count t))) n k l e (fst _ _ (c.c3 n l)) in lt_both _ _ _ (fst _ _ (snd _ _ (snd _ _ (snd _ _ f))))

pub is_tree : (t : Table) → Checked t → Tree t
is_tree t c n m l ch = child_above t c n l (kind t n) m refl ch

-- EXACTLY ONE PARENT
body_counts : (t : Table) → Checked t → (n : ℕ) → n < count t → (e : ℕ) → kind t n ≡ suc (suc (suc (suc (suc e)))) → 1 ≤ child_times t (field t n 4) n
unfolding check2 child_times
body_counts t c n l zero e = rw (e, eq-eqb (field t n 4) (field t n 4) refl) (omega arith)
body_counts t c n l (suc zero) e = rw (e, eq-eqb (field t n 4) (field t n 4) refl) (omega arith)
body_counts t c n l (suc (suc k)) e = let z = leb-true (kind t n) 6 (fst _ _ (c.c2 n l)) in absurd (omega (arith, e))

pub split : (j k : ℕ) → j < suc k → (j ≡ k) ⊎ (j < k)
split j k h = eq-or-lt_of_le (omega arith)

up_zero : (t : Table) (k m : ℕ) (acc : List ℕ) → child_times t m k ≡ 0 → scope_up t (suc k) m acc ≡ scope_up t k m acc
unfolding scope_up
up_zero t k m acc e = rw (e, scope_up)

up_found : (t : Table) (k m : ℕ) (acc : List ℕ) → ((child_times t m k ≡ 0) → ⊥) → scope_up t (suc k) m acc ≡ scope_up t k k (bound t k ++ acc)
unfolding scope_up
up_found t k m acc e = rw (ne_eqb (child_times t m k) 0 e, scope_up)

child_counts : (t : Table) → Checked t → (n : ℕ) → n < count t → (κ m : ℕ) → kind t n ≡ κ → Child t n κ m → 1 ≤ child_times t m n
unfolding child_times
child_counts t c n l κ m e left = rw (e, eq-eqb (field t n 1) (field t n 1) refl) (omega arith)
child_counts t c n l κ m e right = rw (e, eq-eqb (field t n 2) (field t n 2) refl) (omega arith)
child_counts t c n l κ m e in_box = rw (e, eq-eqb (field t n 2) (field t n 2) refl) (omega arith)
child_counts t c n l κ m e in_new = rw (e, eq-eqb (field t n 2) (field t n 2) refl) (omega arith)
child_counts t c n l κ m e (in_body {e = k}) = body_counts t c n l k e

pub parent_counts : (t : Table) → Checked t → (n m : ℕ) → n < count t → Child t n (kind t n) m → 1 ≤ child_times t m n
parent_counts t c n m l ch = child_counts t c n l (kind t n) m refl ch

pub one_le : (t : Table) (m k j : ℕ) → j < k → child_times t m j ≤ times_child t m k
unfolding times_child
one_le t m zero j h = absurd (omega arith)
one_le t m (suc k) j h = ⊎_elim (λ e. rw e (omega arith)) (λ l. omega (arith, one_le t m k j l)) (split j k h)

pub two_le : (t : Table) (m k i j : ℕ) → i < k → j < k → ((i ≡ j) → ⊥) → child_times t m i + child_times t m j ≤ times_child t m k
unfolding times_child
two_le t m zero i j h h' d = absurd (omega arith)
two_le t m (suc k) i j h h' d =
    ⊎_elim (λ e. ⊎_elim (λ e'. absurd (d (e ∙ sym e'))) (λ l. rw e (omega (arith, one_le t m k j l))) (split j k h'))
    (λ l. ⊎_elim (λ e'. rw e' (omega (arith, one_le t m k i l))) (λ l'. omega (arith, two_le t m k i j l l' d)) (split j k h'))
    (split i k h)

only_parent : (t : Table) → Checked t → (n m : ℕ) → n < count t → Child t n (kind t n) m → (j : ℕ) → j < count t → ((j ≡ n) → ⊥) → child_times t m j ≡ 0
unfolding check3
only_parent t c n m l ch j h d =
    let a = is_tree t c n m l ch in
    let once = ⊎_elim (λ z. let q = eqb-true m 0 z in absurd (omega arith)) (λ z. eqb-true (times_child t m (count t)) 1 z) (alt _ _ (snd _ _ (c.c3 m a.1))) in
    omega (arith, two_le t m (count t) j n h l d, parent_counts t c n m l ch, once)

-- THE SCOPE OF A CHILD
skip : (t : Table) (n m : ℕ) (acc : List ℕ) (k : ℕ) → n < k → ((j : ℕ) → n < j → j < k → child_times t m j ≡ 0) → scope_up t k m acc ≡ scope_up t (suc n) m acc
skip t n m acc zero h f = absurd (omega arith)
skip t n m acc (suc k) h f = ⊎_elim (λ e. rw e) (λ l. up_zero t k m acc (f k l (omega arith)) ∙ skip t n m acc k l (λ j a b. f j a (omega arith))) (split n k h)

pub up_acc : (t : Table) (k cur : ℕ) (acc : List ℕ) → scope_up t k cur acc ≡ scope_up t k cur [] ++ acc
unfolding scope_up
up_acc t zero cur acc = refl
up_acc t (suc m) cur acc = go (eqb (child_times t cur m) 0) refl (up_acc t m cur acc) (up_acc t m m (bound t m ++ acc)) (up_acc t m m (bound t m ++ []))
  where
    go : (b : Bool) → eqb (child_times t cur m) 0 ≡ b → scope_up t m cur acc ≡ scope_up t m cur [] ++ acc →
        scope_up t m m (bound t m ++ acc) ≡ scope_up t m m [] ++ (bound t m ++ acc) → scope_up t m m (bound t m ++ []) ≡ scope_up t m m [] ++ (bound t m ++ []) →
        scope_up t (suc m) cur acc ≡ scope_up t (suc m) cur [] ++ acc
    go true e p q r = rw (e, scope_up) p
    go false e p q r = rw (e, scope_up, q, r, append-nil, append_assoc)

pub scope_child : (t : Table) → Checked t → (n m : ℕ) → n < count t → Child t n (kind t n) m → scope t m ≡ scope t n ++ bound t n
scope_child t c n m l ch =
    let a = is_tree t c n m l ch in
    let p = parent_counts t c n m l ch in
    skip t n m [] m a.0 (λ j x y. only_parent t c n m l ch j (omega arith) (λ q. omega arith)) ∙
    up_found t n m [] (λ q. omega arith) ∙ up_acc t n n (bound t n ++ []) ∙ ap (λ (x : List ℕ). scope t n ++ x) (append-nil (bound t n))

-- a process that stands in the table, with these names in force at its head
pub data Sits (t : Table) : List ℕ → Term → Type 0 where
  s_nil : {σ : List ℕ} {n : ℕ} → Sits t σ (nil n)
  s_par : {σ : List ℕ} {n : ℕ} {a b : Term} → Sits t σ a → Sits t σ b → Sits t σ (par n a b)
  s_box : {σ : List ℕ} {n x : ℕ} {a : Term} → is_public x ≡ true → Sits t σ a → Sits t σ (box n x a)
  s_new : {σ : List ℕ} {n x : ℕ} {a : Term} → is_public x ≡ true → Sits t (σ ++ (x ∷ [])) a → Sits t σ (new n x a)
  s_out : {σ : List ℕ} {n c g : ℕ} {v : List ℕ} → is_public c ≡ true → leb g 65 ≡ true → items is_public 5 v 1 ≡ done [] → length v ≤ 16 → Sits t σ (out n c g v)
  s_inp : {σ : List ℕ} {n c g : ℕ} {r : Bool} {p : List ℕ} {a : Term} → is_public c ≡ true → leb g 65 ≡ true → items is_pattern_leaf 5 p 1 ≡ done [] → distinct (binders p) ≡ true →
      n < count t → leb 5 (kind t n) ≡ true → term t n ≡ inp n r c g p a → scope t n ≡ σ → Sits t (σ ++ binders p) a → Sits t σ (inp n r c g p a)

done_or : (r : Res (List ℕ)) → is_done r ≡ true → r ≡ done (or_else r [])
done_or (refuse n) e = absurd (false≢true e)
done_or (done v) e = refl

pat_whole : (pool : List ℕ) (p : ℕ) → pattern_ok pool p ≡ true → items is_pattern_leaf 5 (or_else (at is_pattern_leaf pool p) []) 1 ≡ done []
unfolding pattern_ok
pat_whole pool p e = go (at is_pattern_leaf pool p) refl
  where
    go : (r : Res (List ℕ)) → at is_pattern_leaf pool p ≡ r → items is_pattern_leaf 5 (or_else (at is_pattern_leaf pool p) []) 1 ≡ done []
    go (refuse n) q = absurd (false≢true (rw (q, pattern_ok) at e))
    go (done v) q = rw q (at_whole is_pattern_leaf pool p v q)

pat_distinct : (pool : List ℕ) (p : ℕ) → pattern_ok pool p ≡ true → distinct (binders (or_else (at is_pattern_leaf pool p) [])) ≡ true
unfolding pattern_ok
pat_distinct pool p e = go (at is_pattern_leaf pool p) refl
  where
    go : (r : Res (List ℕ)) → at is_pattern_leaf pool p ≡ r → distinct (binders (or_else (at is_pattern_leaf pool p) [])) ≡ true
    go (refuse n) q = absurd (false≢true (rw (q, pattern_ok) at e))
    go (done v) q = rw q (rw (q, pattern_ok) at e)

module _ (t : Table) (c : Checked t) where
  bound_body : (n : ℕ) → 5 ≤ kind t n → bound t n ≡ binders (or_else (at is_pattern_leaf t.pool (field t n 3)) [])
  bound_body n h = rw (ne_eqb (kind t n) 3 (λ q. omega arith), le-leb 5 (kind t n) h)

  sits_build : (n : ℕ) → n < count t → (κ : ℕ) → kind t n ≡ κ → term t n ≡ build κ t n (term t) →
      ((m : ℕ) → Child t n κ m → Sits t (scope t n ++ bound t n) (term t m)) → Sits t (scope t n) (build κ t n (term t))
  unfolding build check4 check5
  sits_build n l zero e q h = s_nil
  sits_build n l (suc zero) e q h = s_par (rw (e, append-nil) at (h _ left)) (rw (e, append-nil) at (h _ right))
  sits_build n l (suc (suc zero)) e q h = s_box (fst _ _ (fst _ _ (rw e at (c.c4 n l)))) (rw (e, append-nil) at (h _ in_box))
  sits_build n l (suc (suc (suc zero))) e q h = s_new (fst _ _ (fst _ _ (rw e at (c.c4 n l)))) (rw e at (h _ in_new))
  sits_build n l (suc (suc (suc (suc zero)))) e q h =
      let f4 = rw e at (c.c4 n l) in
      let f5 = rw e at (c.c5 n l) in
      let ok = fst _ _ (fst _ _ (snd _ _ (snd _ _ f5))) in
      s_out (fst _ _ (fst _ _ f4)) (snd _ _ (fst _ _ (snd _ _ f4))) (at_whole is_public t.pool (field t n 3) _ (done_or _ ok)) (at_short is_public t.pool (field t n 3) _ (done_or _ ok))
  sits_build n l (suc (suc (suc (suc (suc k))))) e q h =
      let f4 = body_fields t c (λ u w. implies (eqb u 2) (leb w 63) & implies (eqb u 3) (leb w 65)) n k l e (c.c4 n l) in
      let f5 = body_fields t c (λ u w. implies (eqb u 4) (is_done (at is_public t.pool w)) & implies (eqb u 5) (pattern_ok t.pool w)) n k l e (c.c5 n l) in
      let five : 5 ≤ kind t n = omega (arith, e) in
      s_inp (fst _ _ (fst _ _ f4)) (snd _ _ (fst _ _ (snd _ _ f4))) (pat_whole t.pool (field t n 3) (snd _ _ (fst _ _ (snd _ _ (snd _ _ f5))))) (pat_distinct t.pool (field t n 3) (snd _ _ (fst _ _ (snd _ _ (snd _ _ f5)))))
      l (le-leb 5 (kind t n) five) q refl (subst (λ (x : List ℕ). Sits t (scope t n ++ x) (term t (field t n 4))) (bound_body n five) (h _ in_body))

  sits_fuel : (k n : ℕ) → count t ≤ n + k → n < count t → Sits t (scope t n) (term t n)
  sits_fuel zero n h l = absurd (omega arith)
  sits_fuel (suc k) n h l =
      let q = term_at_lem t (is_tree t c) n l in
      subst (λ (x : Term). Sits t (scope t n) x) (sym q)
      (sits_build n l (kind t n) refl q λ m ch.
      let a = is_tree t c n m l ch in
      subst (λ (x : List ℕ). Sits t x (term t m)) (scope_child t c n m l ch) (sits_fuel k m (omega arith) a.1))

  pub sits : (n : ℕ) → n < count t → Sits t (scope t n) (term t n)
  sits n l = sits_fuel (count t) n (omega arith) l
