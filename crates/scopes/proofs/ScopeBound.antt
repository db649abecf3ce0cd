-- In a table that passes the checks at most 8 bound names are in force at every node.
use mathlib.Core.Path.{◌≡◌, refl, sym, ap, ◌∙◌, subst}
use mathlib.Core.Bool.{Bool, true, false, cond}
use mathlib.Core.Logic.{⊎_elim}
use Prim.Native.Nat.{ℕ, zero, suc, ◌+◌, ◌<◌, ◌≤◌}
use native.Mathlib.Omega.{arith}
use borrow.Author.Tests.{leb-true, le-leb, ltb-false, eqb-true, eqb-false, ne_eqb}
use lib.Dec.{leb, ltb, eqb}
use lib.ListN.{length, length-append}
use Rattle.model.specs.Basics.{Res, refuse, done, is_done, choose}
use Rattle.model.specs.Table.{Table, count, kind, field, child_times, Term, build, term, bound, scope_up, scope}
use Rattle.model.specs.Checks.{Fault, fault, check1, check2, check3, times_child, over, over_all}
use Rattle.model.proofs.Basics.Tests.{choose_done, fst, snd, alt}
use Rattle.model.proofs.Basics.Items.{clash}
use Rattle.model.proofs.Basics.Terms.{Child, left, right, in_box, in_new, in_body, term_at_lem}
use Rattle.model.proofs.Basics.Checked.{Checked, checked, is_tree, scope_child, not_found}
use Rattle.tables.specs.Scope.{Walks}
use Rattle.tables.specs.Checks.{Passes}
use Rattle.tables.proofs.CheckLaws.{few}
use Rattle.scopes.specs.Names.{last_eight}
use Rattle.scopes.proofs.NameLaws.{last_few}

-- EACH NODE BUT 0 HAS A PARENT
some_parent : (t : Table) (m k : ℕ) → 1 ≤ times_child t m k → (j : ℕ) × (j < k) × (1 ≤ child_times t m j)
unfolding times_child
some_parent t m zero h = absurd (omega arith)
some_parent t m (suc k) h = go (eqb (child_times t m k) 0) refl (some_parent t m k)
  where
    go : (b : Bool) → eqb (child_times t m k) 0 ≡ b → (1 ≤ times_child t m k → (j : ℕ) × (j < k) × (1 ≤ child_times t m j)) → (j : ℕ) × (j < suc k) × (1 ≤ child_times t m j)
    go true e ih = let z = eqb-true (child_times t m k) 0 e in let a = ih (omega arith) in (a.0, omega (arith, a.1), a.2)
    go false e ih = (k, omega arith, one (child_times t m k) (eqb-false (child_times t m k) 0 e))
      where
        one : (x : ℕ) → ((x ≡ 0) → ⊥) → 1 ≤ x
        one x h = omega arith

module _ (t : Table) (n m : ℕ) where
  child_is : (κ w : ℕ) → Child t n κ w → eqb w m ≡ true → Child t n κ m
  child_is κ w c e = subst (λ (k : ℕ). Child t n κ k) (eqb-true w m e) c

  two_fields : (p q : ℕ) → Child t n 1 p → Child t n 1 q → 1 ≤ cond (eqb p m) 1 0 + cond (eqb q m) 1 0 → Child t n 1 m
  two_fields p q cp cq h = go (eqb p m) refl (eqb q m) refl h
    where
      go : (a : Bool) → eqb p m ≡ a → (b : Bool) → eqb q m ≡ b → 1 ≤ cond a 1 0 + cond b 1 0 → Child t n 1 m
      go true e b f h = child_is 1 p cp e
      go false e true f h = child_is 1 q cq f
      go false e false f h = absurd (omega arith)

  one_field : (κ p : ℕ) → Child t n κ p → 1 ≤ cond (eqb p m) 1 0 → Child t n κ m
  one_field κ p c h = go (eqb p m) refl h
    where
      go : (a : Bool) → eqb p m ≡ a → 1 ≤ cond a 1 0 → Child t n κ m
      go true e h = child_is κ p c e
      go false e h = absurd (omega arith)

  counted : (κ : ℕ) → kind t n ≡ κ → κ ≤ 6 → 1 ≤ child_times t m n → Child t n κ m
  unfolding child_times
  counted zero e l h = absurd (omega (arith, rw e at h))
  counted (suc zero) e l h = let g = rw e at h in two_fields (field t n 1) (field t n 2) left right (omega (arith, g))
  counted (suc (suc zero)) e l h = let g = rw e at h in one_field 2 (field t n 2) in_box (omega (arith, g))
  counted (suc (suc (suc zero))) e l h = let g = rw e at h in one_field 3 (field t n 2) in_new (omega (arith, g))
  counted (suc (suc (suc (suc zero)))) e l h = absurd (omega (arith, rw e at h))
  counted (suc (suc (suc (suc (suc zero))))) e l h = let g = rw e at h in one_field 5 (field t n 4) in_body (omega (arith, g))
  counted (suc (suc (suc (suc (suc (suc zero)))))) e l h = let g = rw e at h in one_field 6 (field t n 4) in_body (omega (arith, g))
  counted (suc (suc (suc (suc (suc (suc (suc k))))))) e l h = absurd (omega arith)

pub parent : (t : Table) → Checked t → (m : ℕ) → 0 < m → m < count t → (n : ℕ) × (n < count t) × Child t n (kind t n) m
unfolding check2 check3
parent t c m h l =
    let once = ⊎_elim (λ z. let q = eqb-true m 0 z in absurd (omega arith)) (λ z. eqb-true (times_child t m (count t)) 1 z) (alt _ _ (snd _ _ (c.c3 m l))) in
    let p = some_parent t m (count t) (omega (arith, once)) in
    (p.0, p.1, counted t p.0 m (kind t p.0) refl (leb-true (kind t p.0) 6 (fst _ _ (c.c2 p.0 p.1))) p.2)

-- FROM A NODE TO ITS CHILDREN: where no node below is over, none is below the child, with the names that the node binds
module _ (t : Table) (n k : ℕ) where
  deeper : (κ m : ℕ) → kind t n ≡ κ → Child t n κ m → 256 ≤ over k (build κ t n (term t)) → 256 ≤ over (k + length (bound t n)) (term t m)
  unfolding over build
  deeper κ m e left h = more (rw e (omega arith)) (omega (arith, h))
    where
      more : k ≡ k + length (bound t n) → 256 ≤ over k (term t (field t n 1)) → 256 ≤ over (k + length (bound t n)) (term t (field t n 1))
      more q g = subst (λ (j : ℕ). 256 ≤ over j (term t (field t n 1))) q g
  deeper κ m e right h = more (rw e (omega arith)) (omega (arith, h))
    where
      more : k ≡ k + length (bound t n) → 256 ≤ over k (term t (field t n 2)) → 256 ≤ over (k + length (bound t n)) (term t (field t n 2))
      more q g = subst (λ (j : ℕ). 256 ≤ over j (term t (field t n 2))) q g
  deeper κ m e in_box h = more (rw e (omega arith)) (omega (arith, h))
    where
      more : k ≡ k + length (bound t n) → 256 ≤ over k (term t (field t n 2)) → 256 ≤ over (k + length (bound t n)) (term t (field t n 2))
      more q g = subst (λ (j : ℕ). 256 ≤ over j (term t (field t n 2))) q g
  deeper κ m e in_new h = more (rw e (omega arith)) (omega (arith, h))
    where
      more : k + 1 ≡ k + length (bound t n) → 256 ≤ over (k + 1) (term t (field t n 2)) → 256 ≤ over (k + length (bound t n)) (term t (field t n 2))
      more q g = subst (λ (j : ℕ). 256 ≤ over j (term t (field t n 2))) q g
  deeper κ m e (in_body {e = i}) h = rw (ne_eqb (kind t n) 3 (λ q. omega (arith, e, q)), le-leb 5 (kind t n) (omega (arith, e))) (omega (arith, h))

  own : (κ : ℕ) → 256 ≤ over k (build κ t n (term t)) → 256 ≤ cond (leb k 8) 256 n
  unfolding over build
  own zero h = h
  own (suc zero) h = omega (arith, h)
  own (suc (suc zero)) h = omega (arith, h)
  own (suc (suc (suc zero))) h = omega (arith, h)
  own (suc (suc (suc (suc zero)))) h = h
  own (suc (suc (suc (suc (suc i))))) h = omega (arith, h)

at_most : (k n : ℕ) → n < 256 → 256 ≤ cond (leb k 8) 256 n → k ≤ 8
at_most k n l h = go (leb k 8) refl h
  where
    go : (b : Bool) → leb k 8 ≡ b → 256 ≤ cond b 256 n → k ≤ 8
    go true e h = leb-true k 8 e
    go false e h = absurd (omega arith)

-- from the root to every node
module _ (t : Table) (c : Checked t) (root : 256 ≤ over 0 (term t 0)) where
  at_node : (f n : ℕ) → n < f → n < count t → 256 ≤ over (length (scope t n)) (term t n)
  unfolding scope_up
  at_node zero n h l = absurd (omega arith)
  at_node (suc f) zero h l = root
  at_node (suc f) (suc n) h l =
      let p = parent t c (suc n) (omega arith) l in
      let a = is_tree t c p.0 (suc n) p.1 p.2 in
      let ih = at_node f p.0 (omega (arith, a.0)) p.1 in
      let g = subst (λ (b : Term). 256 ≤ over (length (scope t p.0)) b) (term_at_lem t (is_tree t c) p.0 p.1) ih in
      let d = deeper t p.0 (length (scope t p.0)) (kind t p.0) (suc n) refl p.2 g in
      let s = ap length (scope_child t c p.0 (suc n) p.1 p.2) ∙ length-append (scope t p.0) (bound t p.0) in
      subst (λ (j : ℕ). 256 ≤ over j (term t (suc n))) (sym s) d

  few_at : count t ≤ 256 → (n : ℕ) → n < count t → length (scope t n) ≤ 8
  few_at h n l =
      at_most (length (scope t n)) n (omega arith)
      (own t n (length (scope t n)) (kind t n)
      (subst (λ (b : Term). 256 ≤ over (length (scope t n)) b) (term_at_lem t (is_tree t c) n l) (at_node (suc n) n (omega arith) l)))

-- WHAT PASSING THE CHECKS SAYS

none_over : (t : Table) (e : ℕ) → over_all t ≡ refuse e → 256 ≤ over 0 (term t 0)
unfolding over_all choose
none_over t e p = go (ltb (over 0 (term t 0)) 256) refl p
  where
    go : (b : Bool) → ltb (over 0 (term t 0)) 256 ≡ b → choose b (done (over 0 (term t 0))) (refuse 0) ≡ refuse e → 256 ≤ over 0 (term t 0)
    go true q z = absurd (clash (sym z))
    go false q z = ltb-false (over 0 (term t 0)) 256 q

sizes : (t : Table) (e : ℕ) → fault t ≡ refuse e → (check1 t ≡ true) × (256 ≤ over 0 (term t 0))
unfolding fault
sizes t e p = ⊎_elim
    (λ a.
    let f2 = not_found _ _ _ _ a.1 in
    let f3 = not_found _ _ _ _ f2.1 in
    let f4 = not_found _ _ _ _ f3.1 in
    let f5 = not_found _ _ _ _ f4.1 in
    let f6 = not_found _ _ _ _ f5.1 in
    (a.0, none_over t _ f6.0.1))
    (λ a. absurd (clash (sym a.1)))
    (choose_done _ _ _ _ p)

-- AT MOST 8 BOUND NAMES IN FORCE AT A NODE
pub scope_few : (t : Table) (e : ℕ) → fault t ≡ refuse e → (n : ℕ) → n < count t → length (scope t n) ≤ 8
scope_few t e p = let s = sizes t e p in few_at t (checked t e p) s.1 (few t s.0)

pub count_few : (t : Table) (e : ℕ) → fault t ≡ refuse e → count t ≤ 256
count_few t e p = few t (sizes t e p).0

-- a table that passes has no fault, and is checked
pub no_fault : (t : Table) → Passes t → (e : ℕ) × (fault t ≡ refuse e)
no_fault t p = go (fault t) p
  where
    go : (q : Res Fault) → is_done q ≡ false → (e : ℕ) × (q ≡ refuse e)
    go (refuse e) z = (e, refl)
    go (done f) z = let y : ◌≡◌ {A = ℕ} 0 1 = cc in absurd (omega arith)

pub passes_checked : (t : Table) → Passes t → Checked t
passes_checked t p = let q = no_fault t p in checked t q.0 q.1

-- a walk may start at each of its nodes
pub walks_at : (t : Table) → Passes t → (n : ℕ) → n < count t → Walks t n
walks_at t p n l = record { tree = is_tree t (passes_checked t p); inside = l }

-- in such a table `names_in_force` gives all the names in force
pub scope_whole : (t : Table) → Passes t → (n : ℕ) → n < count t → last_eight (scope t n) ≡ scope t n
scope_whole t p n l = let q = no_fault t p in last_few (scope t n) (scope_few t q.0 q.1 n l)
