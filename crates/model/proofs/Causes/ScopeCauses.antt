-- Row 6: in a table that passes 1 to 5, the walk over its tree finds the lowest node with over 8 bound names in force.
use mathlib.Core.Path.{◌≡◌, refl, sym, ap, ◌∙◌, subst}
use mathlib.Core.Bool.{Bool, true, false, cond}
use mathlib.Core.List.{[]}
use mathlib.Core.Logic.{◌⊎◌, inl, inr, ⊎_elim}
use Prim.Native.Nat.{ℕ, zero, suc, ◌+◌, ◌≤◌, ◌<◌, min}
use native.Mathlib.Omega.{arith}
use borrow.Author.Tests.{leb-true, leb-false, eqb-true, eqb-false, lt-leb, ne_eqb, le-leb}
use lib.Dec.{leb, eqb}
use lib.ListN.{length, length-append}
use Rattle.model.specs.Basics.{or_else}
use Rattle.model.specs.Values.{at, is_pattern_leaf, binders}
use Rattle.model.specs.Table.{Table, count, field, kind, child_times, Term, build, term, bound, scope_up, scope}
use Rattle.model.specs.Checks.{check2, check3, times_child, over}
use Rattle.model.proofs.Basics.Tests.{fst, snd, alt}
use Rattle.model.proofs.Basics.Terms.{Child, left, right, in_box, in_new, in_body, term_at_lem}
use Rattle.model.proofs.Basics.Checked.{Checked, is_tree, scope_child}

min_found : (P : ℕ → Type 0) (a b : ℕ) → (a < 256 → P a) → (b < 256 → P b) → min a b < 256 → P (min a b)
min_found P a b f g l = go (leb a b) refl
  where
    go : (t : Bool) → leb a b ≡ t → P (min a b)
    go true e =
        let z = leb-true a b e in
        let q : a ≡ min a b = omega arith in
        subst P q (f (omega arith))
    go false e =
        let z = leb-false a b e in
        let q : b ≡ min a b = omega arith in
        subst P q (g (omega arith))

times_pos : (t : Table) (q k : ℕ) → 1 ≤ times_child t q k → (p : ℕ) × (p < k) × (1 ≤ child_times t q p)
unfolding times_child
times_pos t q zero l = absurd (omega arith)
times_pos t q (suc k) l = go (leb 1 (child_times t q k)) refl (times_pos t q k)
  where
    go : (b : Bool) → leb 1 (child_times t q k) ≡ b → (1 ≤ times_child t q k → (p : ℕ) × (p < k) × (1 ≤ child_times t q p)) → (p : ℕ) × (p < suc k) × (1 ≤ child_times t q p)
    go true e ih = (k, omega arith, leb-true 1 _ e)
    go false e ih =
        let z = leb-false 1 (child_times t q k) e in
        let r = ih (omega (arith, l)) in
        (r.0, omega (arith, r.1), r.2)

child_of_lem : (t : Table) (p q κ : ℕ) → kind t p ≡ κ → κ ≤ 6 → 1 ≤ child_times t q p → Child t p κ q
unfolding child_times
child_of_lem t p q zero e l h = absurd (let z : 1 ≤ 0 = rw e at h in omega arith)
child_of_lem t p q (suc zero) e l h = go (eqb (field t p 1) q) (eqb (field t p 2) q) refl refl (rw e at h)
  where
    go : (a b : Bool) → eqb (field t p 1) q ≡ a → eqb (field t p 2) q ≡ b → 1 ≤ cond a 1 0 + (cond b 1 0 + 0) → Child t p 1 q
    go true b x y z = subst (Child t p 1) (eqb-true (field t p 1) q x) left
    go false true x y z = subst (Child t p 1) (eqb-true (field t p 2) q y) right
    go false false x y z = absurd (omega arith)
child_of_lem t p q (suc (suc zero)) e l h = go (eqb (field t p 2) q) refl (rw e at h)
  where
    go : (b : Bool) → eqb (field t p 2) q ≡ b → 1 ≤ 0 + (cond b 1 0 + 0) → Child t p 2 q
    go true y z = subst (Child t p 2) (eqb-true (field t p 2) q y) in_box
    go false y z = absurd (omega arith)
child_of_lem t p q (suc (suc (suc zero))) e l h = go (eqb (field t p 2) q) refl (rw e at h)
  where
    go : (b : Bool) → eqb (field t p 2) q ≡ b → 1 ≤ 0 + (cond b 1 0 + 0) → Child t p 3 q
    go true y z = subst (Child t p 3) (eqb-true (field t p 2) q y) in_new
    go false y z = absurd (omega arith)
child_of_lem t p q (suc (suc (suc (suc zero)))) e l h = absurd (let z : 1 ≤ 0 = rw e at h in omega arith)
child_of_lem t p q (suc (suc (suc (suc (suc zero))))) e l h = go (eqb (field t p 4) q) refl (rw e at h)
  where
    go : (b : Bool) → eqb (field t p 4) q ≡ b → 1 ≤ 0 + (0 + (0 + (cond b 1 0 + 0))) → Child t p 5 q
    go true y z = subst (Child t p 5) (eqb-true (field t p 4) q y) in_body
    go false y z = absurd (omega arith)
child_of_lem t p q (suc (suc (suc (suc (suc (suc zero)))))) e l h = go (eqb (field t p 4) q) refl (rw e at h)
  where
    go : (b : Bool) → eqb (field t p 4) q ≡ b → 1 ≤ 0 + (0 + (0 + (cond b 1 0 + 0))) → Child t p 6 q
    go true y z = subst (Child t p 6) (eqb-true (field t p 4) q y) in_body
    go false y z = absurd (omega arith)
child_of_lem t p q (suc (suc (suc (suc (suc (suc (suc κ))))))) e l h = absurd (omega arith)

module _ (t : Table) (c : Checked t) where
  abbrev N : ℕ → ℕ
  N p = length (scope t p)

  abbrev O : ℕ → ℕ
  O p = over (N p) (term t p)

  abbrev Deep : ℕ → Type 0
  Deep p = (p < count t) × (8 < N p)

  -- as many names at a child as at its parent and those that the parent binds
  more : (p q : ℕ) → p < count t → Child t p (kind t p) q → N q ≡ N p + length (bound t p)
  more p q l ch = ap length (scope_child t c p q l ch) ∙ length-append (scope t p) (bound t p)

  more_at : (p q κ : ℕ) → p < count t → kind t p ≡ κ → Child t p κ q → N q ≡ N p + length (bound t p)
  more_at p q κ l e ch = more p q l (subst (λ (k : ℕ). Child t p k q) (sym e) ch)

  bound_0 : (p : ℕ) → (kind t p ≡ 1) ⊎ (kind t p ≡ 2) → length (bound t p) ≡ 0
  bound_0 p q = ⊎_elim (λ e. rw e) (λ e. rw e) q

  bound_1 : (p : ℕ) → kind t p ≡ 3 → length (bound t p) ≡ 1
  bound_1 p e = rw e

  bound_5 : (p k : ℕ) → kind t p ≡ suc (suc (suc (suc (suc k)))) → length (bound t p) ≡ length (binders (or_else (at is_pattern_leaf t.pool (field t p 3)) []))
  bound_5 p k e = rw (ne_eqb (kind t p) 3 (λ q. omega (arith, e)), le-leb 5 (kind t p) (omega (arith, e)))

  head_deep : (p : ℕ) → p < count t → cond (leb (N p) 8) 256 p < 256 → Deep (cond (leb (N p) 8) 256 p)
  head_deep p l = go (leb (N p) 8) refl
    where
      go : (b : Bool) → leb (N p) 8 ≡ b → cond b 256 p < 256 → Deep (cond b 256 p)
      go true e h = absurd (omega arith)
      go false e h = (l, leb-false (N p) 8 e)

  deep_build : (p : ℕ) → p < count t → (κ : ℕ) → kind t p ≡ κ → ((q : ℕ) → Child t p κ q → O q < 256 → Deep (O q)) → over (N p) (build κ t p (term t)) < 256 → Deep (over (N p) (build κ t p (term t)))
  unfolding build over
  deep_build p l zero e ih h = head_deep p l h
  deep_build p l (suc zero) e ih h =
      let a : N (field t p 1) ≡ N p = more_at p (field t p 1) 1 l e left ∙ ap (λ (z : ℕ). N p + z) (bound_0 p (inl e)) ∙ plus-0 (N p) in
      let d : N (field t p 2) ≡ N p = more_at p (field t p 2) 1 l e right ∙ ap (λ (z : ℕ). N p + z) (bound_0 p (inl e)) ∙ plus-0 (N p) in
      min_found Deep _ _ (head_deep p l)
      (min_found Deep _ _ (subst (λ (z : ℕ). over z (term t (field t p 1)) < 256 → Deep (over z (term t (field t p 1)))) a (ih _ left))
      (subst (λ (z : ℕ). over z (term t (field t p 2)) < 256 → Deep (over z (term t (field t p 2)))) d (ih _ right))) h
    where
      plus-0 : (z : ℕ) → z + 0 ≡ z
      plus-0 z = omega arith
  deep_build p l (suc (suc zero)) e ih h =
      let a : N (field t p 2) ≡ N p = more_at p (field t p 2) 2 l e in_box ∙ ap (λ (z : ℕ). N p + z) (bound_0 p (inr e)) ∙ plus-0 (N p) in
      min_found Deep _ _ (head_deep p l) (subst (λ (z : ℕ). over z (term t (field t p 2)) < 256 → Deep (over z (term t (field t p 2)))) a (ih _ in_box)) h
    where
      plus-0 : (z : ℕ) → z + 0 ≡ z
      plus-0 z = omega arith
  deep_build p l (suc (suc (suc zero))) e ih h =
      let a : N (field t p 2) ≡ N p + 1 = more_at p (field t p 2) 3 l e in_new ∙ ap (λ (z : ℕ). N p + z) (bound_1 p e) in
      min_found Deep _ _ (head_deep p l) (subst (λ (z : ℕ). over z (term t (field t p 2)) < 256 → Deep (over z (term t (field t p 2)))) a (ih _ in_new)) h
  deep_build p l (suc (suc (suc (suc zero)))) e ih h = head_deep p l h
  deep_build p l (suc (suc (suc (suc (suc k))))) e ih h =
      let a = more_at p (field t p 4) (suc (suc (suc (suc (suc k))))) l e in_body ∙ ap (λ (z : ℕ). N p + z) (bound_5 p k e) in
      min_found Deep _ _ (head_deep p l) (subst (λ (z : ℕ). over z (term t (field t p 4)) < 256 → Deep (over z (term t (field t p 4)))) a (ih _ in_body)) h

  deep_fuel : (k p : ℕ) → count t ≤ p + k → p < count t → O p < 256 → Deep (O p)
  deep_fuel zero p h l o = absurd (omega arith)
  deep_fuel (suc k) p h l o =
      let e = term_at_lem t (is_tree t c) p l in
      subst (λ (x : Term). Deep (over (N p) x)) (sym e) (deep_build p l (kind t p) refl (λ q ch. let a = is_tree t c p q l ch in deep_fuel k q (omega arith) a.1) (subst (λ (x : Term). over (N p) x < 256) e o))

  -- a walk below a child is part of the walk below its parent
  part_build : (p : ℕ) → p < count t → (κ q : ℕ) → kind t p ≡ κ → Child t p κ q → over (N p) (build κ t p (term t)) ≤ O q
  unfolding build over
  part_build p l κ q e left =
      let a : N (field t p 1) ≡ N p = let z = more_at p (field t p 1) 1 l e left in let y = bound_0 p (inl e) in omega arith in
      rw a (omega arith)
  part_build p l κ q e right =
      let a : N (field t p 2) ≡ N p = let z = more_at p (field t p 2) 1 l e right in let y = bound_0 p (inl e) in omega arith in
      rw a (omega arith)
  part_build p l κ q e in_box =
      let a : N (field t p 2) ≡ N p = let z = more_at p (field t p 2) 2 l e in_box in let y = bound_0 p (inr e) in omega arith in
      rw a (omega arith)
  part_build p l κ q e in_new =
      let a : N (field t p 2) ≡ N p + 1 = more_at p (field t p 2) 3 l e in_new ∙ ap (λ (z : ℕ). N p + z) (bound_1 p e) in
      rw a (omega arith)
  part_build p l κ q e (in_body {e = k}) =
      let a = more_at p (field t p 4) (suc (suc (suc (suc (suc k))))) l e in_body ∙ ap (λ (z : ℕ). N p + z) (bound_5 p k e) in
      rw a (omega arith)

  part : (p q : ℕ) → p < count t → Child t p (kind t p) q → O p ≤ O q
  part p q l ch = subst (λ (x : Term). over (N p) x ≤ O q) (sym (term_at_lem t (is_tree t c) p l)) (part_build p l (kind t p) q refl ch)

  parent_of : (q : ℕ) → q < count t → (q ≡ 0 → ⊥) → (p : ℕ) × (p < count t) × Child t p (kind t p) q
  unfolding check3 check2
  parent_of q l n0 =
      let once = ⊎_elim (λ z. absurd (n0 (eqb-true q 0 z))) (λ z. eqb-true (times_child t q (count t)) 1 z) (alt _ _ (snd _ _ (c.c3 q l))) in
      let r = times_pos t q (count t) (omega (arith, once)) in
      (r.0, r.1, child_of_lem t r.0 q (kind t r.0) refl (leb-true (kind t r.0) 6 (fst _ _ (c.c2 r.0 r.1))) r.2)

  all_fuel : (k q : ℕ) → q < k → q < count t → over 0 (term t 0) ≤ O q
  unfolding scope_up
  all_fuel zero q h l = absurd (omega arith)
  all_fuel (suc k) q h l = go (eqb q 0) refl (all_fuel k)
    where
      go : (b : Bool) → eqb q 0 ≡ b → ((q : ℕ) → q < k → q < count t → over 0 (term t 0) ≤ O q) → over 0 (term t 0) ≤ O q
      go true e ih = subst (λ (z : ℕ). over 0 (term t 0) ≤ O z) (sym (eqb-true q 0 e)) (omega arith)
      go false e ih =
          let r = parent_of q l (eqb-false q 0 e) in
          let a = is_tree t c r.0 q r.1 r.2 in
          let i = ih r.0 (omega (arith, a.0)) r.1 in
          let j = part r.0 q r.1 r.2 in
          omega arith

  head_low : (q : ℕ) → q < count t → 8 < N q → (κ : ℕ) → over (N q) (build κ t q (term t)) ≤ q
  unfolding build over
  head_low q l h zero = rw (lt-leb (N q) 8 h) (omega arith)
  head_low q l h (suc zero) = rw (lt-leb (N q) 8 h) (omega arith)
  head_low q l h (suc (suc zero)) = rw (lt-leb (N q) 8 h) (omega arith)
  head_low q l h (suc (suc (suc zero))) = rw (lt-leb (N q) 8 h) (omega arith)
  head_low q l h (suc (suc (suc (suc zero)))) = rw (lt-leb (N q) 8 h) (omega arith)
  head_low q l h (suc (suc (suc (suc (suc k))))) = rw (lt-leb (N q) 8 h) (omega arith)

  pub over_low : (q : ℕ) → q < count t → 8 < N q → over 0 (term t 0) ≤ q
  over_low q l h =
      let a = all_fuel (suc q) q (omega arith) l in
      let d = subst (λ (x : Term). over (N q) x ≤ q) (sym (term_at_lem t (is_tree t c) q l)) (head_low q l h (kind t q)) in
      omega arith

  pub over_deep : over 0 (term t 0) < 256 → (over 0 (term t 0) < count t) × (8 < N (over 0 (term t 0)))
  unfolding scope_up
  over_deep o = deep_fuel (count t) 0 (omega arith) c.some o
