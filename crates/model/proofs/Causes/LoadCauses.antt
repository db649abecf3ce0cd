-- What load refuses a table for is a cause, and a table with a cause is refused for it or for one before it.
use mathlib.Core.Path.{◌≡◌, refl, sym, ap, ◌∙◌, subst}
use mathlib.Core.Bool.{Bool, true, false, false≢true}
use mathlib.Core.List.{List, [], ◌∷◌}
use mathlib.Core.Logic.{◌⊎◌, inl, inr, ⊎_elim}
use mathlib.Core.Option.{some}
use Prim.Native.Nat.{ℕ, zero, suc, ◌+◌, ◌-◌, ◌%◌, ◌≤◌, ◌<◌}
use native.Mathlib.Nat.{eq-or-lt_of_le}
use native.Mathlib.Omega.{arith}
use borrow.Author.Tests.{leb-true, leb-false, ltb-true, ltb-false, eqb-true, eqb-false, ne_eqb, lt-leb, le-ltb}
use lib.Dec.{leb, ltb, eqb}
use lib.ListN.{length, get_elem?, take, drop}
use Rattle.model.specs.Basics.{◌&◌, ◌or◌, implies, choose, Res, refuse, done, is_done}
use Rattle.model.specs.Values.{items, at, is_public, is_pattern_leaf, no_names}
use Rattle.model.specs.Table.{Table, count, field, kind, uses, term, scope}
use Rattle.model.specs.Checks.{every_field, fields_ok, check1, check2, check3, check4, check5, pattern_ok, times_child, over, over_all, first_bad, Fault, found, fault}
use Rattle.model.specs.Side.{within_limits, empty_contents}
use Rattle.model.specs.Unfolding.{particles_in, boxes_in, new_names_in}
use Rattle.model.specs.Load.{start, side_fault}
use Rattle.model.specs.Causes.{Used, words_at, leaf_of, Broken, TableCause, words, no_nodes, many_nodes, long_pool, unknown_kind, unused_field, child_low, child_out, not_once, name_high}
use Rattle.model.specs.Causes.{tag_high, bad_item, repeated, bound_names, start_particles, start_boxes, start_minted}
use Rattle.model.proofs.Basics.Tests.{fst, snd, one_fails}
use Rattle.model.proofs.Basics.Items.{clash}
use Rattle.model.proofs.Formed.Counts.{unfolds_adds}
use Rattle.model.proofs.Basics.Checked.{Checked, no_bad}
use Rattle.model.proofs.Causes.ScopeCauses.{over_low, over_deep}
use Rattle.model.proofs.Causes.ItemCauses.{broken_refused, refused_broken}
use Rattle.model.proofs.Causes.CauseTools.{fail_left, fail_right, neither}

-- what is said of a search for a fault: Q of the fault, Z where there is none
abbrev pub At : (Fault → Type 0) → Type 0 → Res Fault → Type 0
At Q Z (done f) = Q f
At Q Z (refuse e) = Z

abbrev pub mk : ℕ → ℕ → Fault
mk k p = record { number = k; node = p }

first_bad_lem : (f : ℕ → Bool) (k i q : ℕ) → first_bad f k i ≡ done q → (i ≤ q) × (q < i + k) × (f q ≡ false) × ((j : ℕ) → i ≤ j → j < q → f j ≡ true)
unfolding first_bad
first_bad_lem f zero i q e = absurd (clash e)
first_bad_lem f (suc k) i q e = go (f i) refl (first_bad_lem f k (i + 1) q)
  where
    done-is : {a c : ℕ} → ◌≡◌ {A = Res ℕ} (done a) (done c) → a ≡ c
    done-is e = cc

    go : (b : Bool) → f i ≡ b → (first_bad f k (i + 1) ≡ done q → (i + 1 ≤ q) × (q < i + 1 + k) × (f q ≡ false) × ((j : ℕ) → i + 1 ≤ j → j < q → f j ≡ true)) →
        (i ≤ q) × (q < i + suc k) × (f q ≡ false) × ((j : ℕ) → i ≤ j → j < q → f j ≡ true)
    go false p ih =
        let z = done-is (rw (p, first_bad) at e) in
        (omega (arith, z), omega (arith, z), subst (λ (y : ℕ). f y ≡ false) z p, (λ j l u. absurd (omega (arith, z))))
    go true p ih =
        let (a, c, d, r) = ih (rw (p, first_bad) at e) in
        (omega (arith, a), omega (arith, c), d, (λ j l u. ⊎_elim (λ z. subst (λ (y : ℕ). f y ≡ true) z p) (λ z. r j (omega (arith, z)) u) (eq-or-lt_of_le l)))

module _ (t : Table) (Q : Fault → Type 0) (Z : Type 0) where
  -- all nodes pass a test; or p is the first that fails
  abbrev All : (ℕ → Bool) → Type 0
  All f = (p : ℕ) → p < count t → f p ≡ true

  abbrev First : (ℕ → Bool) → ℕ → Type 0
  First f p = (p < count t) × (f p ≡ false) × ((j : ℕ) → j < p → f j ≡ true)

  found_at : (f : ℕ → Bool) (k : ℕ) (r : Res Fault) → ((p : ℕ) → First f p → Q (mk k p)) → (All f → At Q Z r) → At Q Z (found (first_bad f (count t) 0) k r)
  unfolding found
  found_at f k r g h = go (first_bad f (count t) 0) refl
    where
      go : (x : Res ℕ) → first_bad f (count t) 0 ≡ x → At Q Z (found x k r)
      go (done p) e = let z = first_bad_lem f (count t) 0 p e in g p (omega (arith, z.1), z.2, (λ j l. z.3 j (omega arith) l))
      go (refuse x) e = h (λ p l. no_bad f (count t) 0 x e p (omega arith) (omega arith))

  -- THE WALK over the checks, once for all that is said of it
  pub fault_at_lem : (check1 t ≡ false → Q (mk 1 0)) → (check1 t ≡ true → (p : ℕ) → First (check2 t) p → Q (mk 2 p))
      → (All (check2 t) → (p : ℕ) → First (check3 t) p → Q (mk 3 p))
      → (All (check2 t) → All (check3 t) → (p : ℕ) → First (check4 t) p → Q (mk 4 p))
      → (All (check2 t) → All (check3 t) → All (check4 t) → (p : ℕ) → First (check5 t) p → Q (mk 5 p))
      → (check1 t ≡ true → Checked t → over 0 (term t 0) < 256 → Q (mk 6 (over 0 (term t 0))))
      → (check1 t ≡ true → Checked t → 256 ≤ over 0 (term t 0) → Z) → At Q Z (fault t)
  unfolding fault choose check1 over_all found
  fault_at_lem q1 q2 q3 q4 q5 q6 z = on (check1 t) refl
    where
      six : check1 t ≡ true → Checked t → At Q Z (found (over_all t) 6 (refuse 0))
      six a c = go (ltb (over 0 (term t 0)) 256) refl
        where
          go : (u : Bool) → ltb (over 0 (term t 0)) 256 ≡ u → At Q Z (found (over_all t) 6 (refuse 0))
          go true e = rw (e, over_all) (q6 a c (ltb-true _ 256 e))
          go false e = rw (e, over_all) (z a c (ltb-false _ 256 e))

      some_nodes : check1 t ≡ true → 0 < count t
      some_nodes a = leb-true 1 (count t) (fst _ _ (snd _ _ a))

      on : (u : Bool) → check1 t ≡ u →
          At Q Z (choose u (found (first_bad (check2 t) (count t) 0) 2
          (found (first_bad (check3 t) (count t) 0) 3 (found (first_bad (check4 t) (count t) 0) 4 (found (first_bad (check5 t) (count t) 0) 5 (found (over_all t) 6 (refuse 0)))))) (done (mk 1 0)))
      on false a = q1 a
      on true a = found_at (check2 t) 2 _ (q2 a) λ c2. found_at (check3 t) 3 _ (q3 c2) λ c3. found_at (check4 t) 4 _ (q4 c2 c3) λ c4. found_at (check5 t) 5 _ (q5 c2 c3 c4) λ c5.
          six a (record { c2 = c2; c3 = c3; c4 = c4; c5 = c5; some = some_nodes a })

-- FIELDS
fields_fail : (f : ℕ → ℕ → Bool) (t : Table) (p k : ℕ) (us : List ℕ) → every_field f t p k us ≡ false → (m : ℕ) × (u : ℕ) × (get_elem? us m ≡ some u) × (f u (field t p (k + m)) ≡ false)
fields_fail f t p k [] e = absurd (false≢true (sym e))
fields_fail f t p k (u ∷ us) e = ⊎_elim (λ q. (0, u, refl, subst (λ (z : ℕ). f u (field t p z) ≡ false) (zero-at k) q))
    (λ q. let (m, w, g, z) = fields_fail f t p (k + 1) us q in (suc m, w, g, subst (λ (y : ℕ). f w (field t p y) ≡ false) (next k m) z)) (one_fails _ _ e)
  where
    zero-at : (k : ℕ) → k ≡ k + 0
    zero-at k = omega arith

    next : (k m : ℕ) → k + 1 + m ≡ k + suc m
    next k m = omega arith

fail_fields : (f : ℕ → ℕ → Bool) (t : Table) (p k : ℕ) (us : List ℕ) (m u : ℕ) → get_elem? us m ≡ some u → f u (field t p (k + m)) ≡ false → every_field f t p k us ≡ false
fail_fields f t p k [] m u g e = absurd (let z : ◌≡◌ {A = ℕ} 0 1 = cc in omega arith)
fail_fields f t p k (w ∷ us) zero u g e =
    let q : w ≡ u = cc in
    fail_left _ _ (subst (λ (z : ℕ). f z (field t p k) ≡ false) (sym q) (subst (λ (z : ℕ). f u (field t p z) ≡ false) (zero-at k) e))
  where
    zero-at : (k : ℕ) → k + 0 ≡ k
    zero-at k = omega arith
fail_fields f t p k (w ∷ us) (suc m) u g e = fail_right _ _ (fail_fields f t p (k + 1) us m u g (subst (λ (z : ℕ). f u (field t p z) ≡ false) (next k m) e))
  where
    next : (k m : ℕ) → k + suc m ≡ k + 1 + m
    next k m = omega arith

implies_fail : (a b : Bool) → implies a b ≡ false → (a ≡ true) × (b ≡ false)
implies_fail true b e = (refl, e)
implies_fail false b e = absurd (false≢true (sym e))

used_as : (t : Table) (p k u v : ℕ) → p < count t → get_elem? (uses (kind t p)) k ≡ some u → eqb u v ≡ true → Used t p k v
used_as t p k u v l g q = (l, g ∙ ap some (eqb-true u v q))

-- ROWS 1 TO 5: a check fails exactly where its row applies
row_1 : (t : Table) → check1 t ≡ false → TableCause t 1 0
unfolding check1
row_1 t q = ⊎_elim (λ z. words (eqb-false (length t.nodes % 5) 0 z))
    (λ z. ⊎_elim (λ y. let l = leb-false 1 (count t) y in no_nodes (omega arith)) (λ y. ⊎_elim (λ w. many_nodes (leb-false (count t) 256 w)) (λ w. long_pool (leb-false (length t.pool) 1024 w)) (one_fails _ _ y)) (one_fails _ _ z))
    (one_fails _ _ q)

row_2 : (t : Table) (p : ℕ) → p < count t → check2 t p ≡ false → TableCause t 2 p
unfolding check2
row_2 t p l q = ⊎_elim (λ z. unknown_kind l (leb-false (kind t p) 6 z))
    (λ z. let (k, u, g, y) = fields_fail (λ u w. implies (eqb u 0) (eqb w 0)) t p 1 (uses (kind t p)) z in let w = implies_fail (eqb u 0) _ y in unused_field k (used_as t p k u 0 l g w.0) (eqb-false (field t p (1 + k)) 0 w.1))
    (one_fails _ _ q)

row_3 : (t : Table) (p : ℕ) → p < count t → check3 t p ≡ false → TableCause t 3 p
unfolding check3
row_3 t p l q = ⊎_elim
    (λ z. let (k, u, g, y) = fields_fail (λ u w. implies (eqb u 1) (ltb p w & ltb w (count t))) t p 1 (uses (kind t p)) z in let w = implies_fail (eqb u 1) _ y in
    ⊎_elim (λ r. child_low k (used_as t p k u 1 l g w.0) (ltb-false p (field t p (1 + k)) r)) (λ r. child_out k (used_as t p k u 1 l g w.0) (ltb-false (field t p (1 + k)) (count t) r)) (one_fails _ _ w.1))
    (λ z. let w = neither _ _ z in not_once l (eqb-false p 0 w.0) (eqb-false (times_child t p (count t)) 1 w.1))
    (one_fails _ _ q)

row_4 : (t : Table) (p : ℕ) → p < count t → check4 t p ≡ false → TableCause t 4 p
unfolding check4
row_4 t p l q = let (k, u, g, y) = fields_fail (λ u w. implies (eqb u 2) (leb w 63) & implies (eqb u 3) (leb w 65)) t p 1 (uses (kind t p)) q in
    ⊎_elim (λ z. let w = implies_fail (eqb u 2) _ z in name_high k (used_as t p k u 2 l g w.0) (leb-false (field t p (1 + k)) 63 w.1))
    (λ z. let w = implies_fail (eqb u 3) _ z in tag_high k (used_as t p k u 3 l g w.0) (leb-false (field t p (1 + k)) 65 w.1)) (one_fails _ _ y)

not_done : (r : Res (List ℕ)) → is_done r ≡ false → (e : ℕ) × (r ≡ refuse e)
not_done (refuse e) q = (e, refl)
not_done (done v) q = absurd (false≢true (sym q))

-- nothing stands at a place exactly where what stands there is broken
at_broken : (leaf : ℕ → Bool) (pool : List ℕ) (p e : ℕ) → at leaf pool p ≡ refuse e → Broken leaf (drop p pool)
unfolding at
at_broken leaf pool p e q = go (items leaf 5 (take 16 (drop p pool)) 1) refl q
  where
    go : (r : Res (List ℕ)) → items leaf 5 (take 16 (drop p pool)) 1 ≡ r
        → ◌≡◌ {A = Res (List ℕ)} (elim r as (λ r. Res (List ℕ)) [ refuse n ↦ refuse n | done v ↦ done (take (length (take 16 (drop p pool)) - length v) (take 16 (drop p pool))) ]) (refuse e) → Broken leaf (drop p pool)
    go (refuse n) h q = refused_broken leaf (drop p pool) n h
    go (done v) h q = absurd (clash (sym q))

broken_at : (leaf : ℕ → Bool) (pool : List ℕ) (p : ℕ) → Broken leaf (drop p pool) → at leaf pool p ≡ refuse 5
unfolding at
broken_at leaf pool p h = rw (broken_refused leaf (drop p pool) h, at)

row_5 : (t : Table) (p : ℕ) → p < count t → check5 t p ≡ false → TableCause t 5 p
unfolding check5 pattern_ok
row_5 t p l q = let (k, u, g, y) = fields_fail (λ u w. implies (eqb u 4) (is_done (at is_public t.pool w)) & implies (eqb u 5) (pattern_ok t.pool w)) t p 1 (uses (kind t p)) q in
    ⊎_elim (λ z. let w = implies_fail (eqb u 4) _ z in let d = not_done (at is_public t.pool (field t p (1 + k))) w.1 in
    bad_item k 4 (used_as t p k u 4 l g w.0, inl refl) (at_broken is_public t.pool (field t p (1 + k)) d.0 d.1))
    (λ z. let w = implies_fail (eqb u 5) _ z in pattern (at is_pattern_leaf t.pool (field t p (1 + k))) k (used_as t p k u 5 l g w.0) refl w.1) (one_fails _ _ y)
  where
    pattern : (r : Res (List ℕ)) (k : ℕ) → Used t p k 5 → at is_pattern_leaf t.pool (field t p (1 + k)) ≡ r → pattern_ok t.pool (field t p (1 + k)) ≡ false → TableCause t 5 p
    pattern (refuse e) k h a z = bad_item k 5 (h, inr refl) (at_broken is_pattern_leaf t.pool (field t p (1 + k)) e a)
    pattern (done v) k h a z = repeated k h a (rw (a, pattern_ok) at z)

-- and back
abbrev fails_field : (f : ℕ → ℕ → Bool) (t : Table) (p k u : ℕ) → Used t p k u → f u (field t p (1 + k)) ≡ false → fields_ok t f p ≡ false
fails_field f t p k u h q = fail_fields f t p 1 (uses (kind t p)) k u h.1 q

-- I: WHAT A TABLE IS REFUSED FOR IS A CAUSE
few_nodes : (t : Table) → check1 t ≡ true → count t ≤ 256
unfolding check1
few_nodes t q = leb-true (count t) 256 (fst _ _ (snd _ _ (snd _ _ q)))

abbrev Is : Table → Fault → Type 0
Is t f = TableCause t f.number f.node

start_sizes : (n : ℕ) (t : Table) → (length (start n t).particles ≡ particles_in (term t 0)) × (length (start n t).boxes ≡ 1 + boxes_in (term t 0)) × ((start n t).minted ≡ new_names_in (term t 0))
unfolding start
start_sizes n t =
    let ad = unfolds_adds n (term t 0) no_names 0 empty_contents in
    (omega (arith, ad.particles), omega (arith, ad.boxes), omega (arith, ad.minted))

start_over : (n : ℕ) (t : Table) → within_limits (start n t) ≡ false → TableCause t 7 0
start_over n t q = let (a, d, m) = start_sizes n t in
    ⊎_elim (λ z. start_particles (subst (λ (k : ℕ). 32 < k) a (leb-false (length (start n t).particles) 32 z)))
    (λ z. ⊎_elim (λ y. start_boxes (subst (λ (k : ℕ). 16 < k) d (leb-false (length (start n t).boxes) 16 y))) (λ y. start_minted (subst (λ (k : ℕ). 256 < k) m (leb-false (start n t).minted 256 y))) (one_fails _ _ z))
    (one_fails _ _ q)

-- a side's fault: the checks', or 7
side_at : (n : ℕ) (t : Table) (Q : Fault → Type 0) (Z : Type 0) → At Q ((within_limits (start n t) ≡ true → Z) × (within_limits (start n t) ≡ false → Q (mk 7 0))) (fault t) → At Q Z (side_fault n t)
unfolding side_fault
side_at n t Q Z h = go (fault t) (within_limits (start n t)) refl h
  where
    go : (r : Res Fault) (c : Bool) → within_limits (start n t) ≡ c → At Q ((within_limits (start n t) ≡ true → Z) × (within_limits (start n t) ≡ false → Q (mk 7 0))) r →
        At Q Z (elim r as (λ r. Res Fault) [ done f ↦ done f | refuse e ↦ elim c as (λ c. Res Fault) [ true ↦ refuse 0 | false ↦ done (mk 7 0) ] ])
    go (done f) c e h = h
    go (refuse k) true e h = h.0 e
    go (refuse k) false e h = h.1 e

pub side_cause : (n : ℕ) (t : Table) → At (Is t) (Unit {0}) (side_fault n t)
side_cause n t = side_at n t (Is t) (Unit {0}) (fault_at_lem t (Is t) _ (row_1 t) (λ a p f. row_2 t p f.0 f.1) (λ c2 p f. row_3 t p f.0 f.1) (λ c2 c3 p f. row_4 t p f.0 f.1) (λ c2 c3 c4 p f. row_5 t p f.0 f.1)
    (λ a c o. let z = over_deep t c o in bound_names z.0 z.1) (λ a c o. ((λ q. tt), start_over n t)))

-- II: A TABLE WITH A CAUSE IS REFUSED FOR IT OR FOR ONE BEFORE IT
abbrev pub Lex : ℕ → ℕ → Fault → Type 0
Lex k p f = (f.number < k) ⊎ ((f.number ≡ k) × (f.node ≤ p))

not_after : (f : ℕ → Bool) (q p : ℕ) → ((j : ℕ) → j < q → f j ≡ true) → f p ≡ false → q ≤ p
not_after f q p h e = go (leb q p) refl
  where
    go : (b : Bool) → leb q p ≡ b → q ≤ p
    go true z = leb-true q p z
    go false z = absurd (false≢true (sym e ∙ h p (leb-false q p z)))

first_fails : (t : Table) → check1 t ≡ false → fault t ≡ done (mk 1 0)
unfolding fault choose
first_fails t q = rw q

module _ (n : ℕ) (t : Table) where
  low_1 : check1 t ≡ false → At (Lex 1 0) ⊥ (side_fault n t)
  low_1 q = side_at n t (Lex 1 0) ⊥ (subst (At (Lex 1 0) _) (sym is-1) (inr (refl, omega arith)))
    where
      is-1 : fault t ≡ done (mk 1 0)
      is-1 = first_fails t q

  low_2 : (p : ℕ) → p < count t → check2 t p ≡ false → At (Lex 2 p) ⊥ (side_fault n t)
  low_2 p l e = side_at n t (Lex 2 p) ⊥ (fault_at_lem t (Lex 2 p) _ (λ q. inl (omega arith)) (λ a q f. inr (refl, not_after (check2 t) q p f.2 e))
      (λ c2 q f. absurd (false≢true (sym e ∙ c2 p l))) (λ c2 c3 q f. absurd (false≢true (sym e ∙ c2 p l))) (λ c2 c3 c4 q f. absurd (false≢true (sym e ∙ c2 p l)))
      (λ a c o. absurd (false≢true (sym e ∙ c.c2 p l))) (λ a c o. absurd (false≢true (sym e ∙ c.c2 p l))))

  low_3 : (p : ℕ) → p < count t → check3 t p ≡ false → At (Lex 3 p) ⊥ (side_fault n t)
  low_3 p l e = side_at n t (Lex 3 p) ⊥ (fault_at_lem t (Lex 3 p) _ (λ q. inl (omega arith)) (λ a q f. inl (omega arith))
      (λ c2 q f. inr (refl, not_after (check3 t) q p f.2 e)) (λ c2 c3 q f. absurd (false≢true (sym e ∙ c3 p l))) (λ c2 c3 c4 q f. absurd (false≢true (sym e ∙ c3 p l)))
      (λ a c o. absurd (false≢true (sym e ∙ c.c3 p l))) (λ a c o. absurd (false≢true (sym e ∙ c.c3 p l))))

  low_4 : (p : ℕ) → p < count t → check4 t p ≡ false → At (Lex 4 p) ⊥ (side_fault n t)
  low_4 p l e = side_at n t (Lex 4 p) ⊥ (fault_at_lem t (Lex 4 p) _ (λ q. inl (omega arith)) (λ a q f. inl (omega arith))
      (λ c2 q f. inl (omega arith)) (λ c2 c3 q f. inr (refl, not_after (check4 t) q p f.2 e)) (λ c2 c3 c4 q f. absurd (false≢true (sym e ∙ c4 p l)))
      (λ a c o. absurd (false≢true (sym e ∙ c.c4 p l))) (λ a c o. absurd (false≢true (sym e ∙ c.c4 p l))))

  low_5 : (p : ℕ) → p < count t → check5 t p ≡ false → At (Lex 5 p) ⊥ (side_fault n t)
  low_5 p l e = side_at n t (Lex 5 p) ⊥ (fault_at_lem t (Lex 5 p) _ (λ q. inl (omega arith)) (λ a q f. inl (omega arith))
      (λ c2 q f. inl (omega arith)) (λ c2 c3 q f. inl (omega arith)) (λ c2 c3 c4 q f. inr (refl, not_after (check5 t) q p f.2 e)) (λ a c o. absurd (false≢true (sym e ∙ c.c5 p l))) (λ a c o. absurd (false≢true (sym e ∙ c.c5 p l))))

  low_6 : (p : ℕ) → p < count t → 8 < length (scope t p) → At (Lex 6 p) ⊥ (side_fault n t)
  low_6 p l d = side_at n t (Lex 6 p) ⊥ (fault_at_lem t (Lex 6 p) _ (λ q. inl (omega arith)) (λ a q f. inl (omega arith))
      (λ c2 q f. inl (omega arith)) (λ c2 c3 q f. inl (omega arith)) (λ c2 c3 c4 q f. inl (omega arith)) (λ a c o. inr (refl, over_low t c p l d)) (λ a c o. absurd (let z = over_low t c p l d in let y = few_nodes t a in omega arith)))

  low_7 : within_limits (start n t) ≡ false → At (Lex 7 0) ⊥ (side_fault n t)
  low_7 e = side_at n t (Lex 7 0) ⊥ (fault_at_lem t (Lex 7 0) _ (λ q. inl (omega arith)) (λ a q f. inl (omega arith))
      (λ c2 q f. inl (omega arith)) (λ c2 c3 q f. inl (omega arith)) (λ c2 c3 c4 q f. inl (omega arith)) (λ a c o. inl (omega arith)) (λ a c o. ((λ q. absurd (false≢true (sym e ∙ q))), (λ q. inr (refl, omega arith)))))

  -- check 5 fails at a node whose value, or pattern, is broken
  item_4 : (p f u : ℕ) → Used t p f u → Broken (leaf_of u) (words_at t p f) → u ≡ 4 → check5 t p ≡ false
  unfolding check5
  item_4 p f u h q e =
      let broken : Broken is_public (words_at t p f) = subst (λ (z : ℕ). Broken (leaf_of z) (words_at t p f)) e q in
      fails_field (λ u w. implies (eqb u 4) (is_done (at is_public t.pool w)) & implies (eqb u 5) (pattern_ok t.pool w)) t p f 4 (subst (Used t p f) e h)
      (fail_left _ _ (ap is_done (broken_at is_public t.pool (field t p (1 + f)) broken)))

  item_5 : (p f u : ℕ) → Used t p f u → Broken (leaf_of u) (words_at t p f) → u ≡ 5 → check5 t p ≡ false
  unfolding check5 pattern_ok
  item_5 p f u h q e =
      let broken : Broken is_pattern_leaf (words_at t p f) = subst (λ (z : ℕ). Broken (leaf_of z) (words_at t p f)) e q in
      fails_field (λ u w. implies (eqb u 4) (is_done (at is_public t.pool w)) & implies (eqb u 5) (pattern_ok t.pool w)) t p f 5 (subst (Used t p f) e h)
      (fail_right _ _ (rw (broken_at is_pattern_leaf t.pool (field t p (1 + f)) broken, pattern_ok)))

  pub side_low : (k p : ℕ) → TableCause t k p → At (Lex k p) ⊥ (side_fault n t)
  unfolding check1 check2 check3 check4 check5 pattern_ok ◌or◌
  side_low k p (words q) = low_1 (fail_left _ _ (ne_eqb (length t.nodes % 5) 0 q))
  side_low k p (no_nodes q) = low_1 (fail_right _ _ (fail_left _ _ (lt-leb 1 (count t) (omega (arith, q)))))
  side_low k p (many_nodes q) = low_1 (fail_right _ _ (fail_right _ _ (fail_left _ _ (lt-leb (count t) 256 q))))
  side_low k p (long_pool q) = low_1 (fail_right _ _ (fail_right _ _ (fail_right _ _ (lt-leb (length t.pool) 1024 q))))
  side_low k p (unknown_kind l q) = low_2 p l (fail_left _ _ (lt-leb (kind t p) 6 q))
  side_low k p (unused_field f h q) = low_2 p h.0 (fail_right _ _ (fails_field (λ u w. implies (eqb u 0) (eqb w 0)) t p f 0 h (ne_eqb (field t p (1 + f)) 0 q)))
  side_low k p (child_low f h q) = low_3 p h.0 (fail_left _ _ (fails_field (λ u w. implies (eqb u 1) (ltb p w & ltb w (count t))) t p f 1 h (fail_left _ _ (le-ltb p (field t p (1 + f)) q))))
  side_low k p (child_out f h q) = low_3 p h.0 (fail_left _ _ (fails_field (λ u w. implies (eqb u 1) (ltb p w & ltb w (count t))) t p f 1 h (fail_right _ _ (le-ltb (field t p (1 + f)) (count t) q))))
  side_low k p (not_once l z q) = low_3 p l (fail_right _ _ (rw (ne_eqb p 0 z, ne_eqb (times_child t p (count t)) 1 q)))
  side_low k p (name_high f h q) = low_4 p h.0 (fails_field (λ u w. implies (eqb u 2) (leb w 63) & implies (eqb u 3) (leb w 65)) t p f 2 h (fail_left _ _ (lt-leb (field t p (1 + f)) 63 q)))
  side_low k p (tag_high f h q) = low_4 p h.0 (fails_field (λ u w. implies (eqb u 2) (leb w 63) & implies (eqb u 3) (leb w 65)) t p f 3 h (fail_right _ _ (lt-leb (field t p (1 + f)) 65 q)))
  side_low k p (bad_item f u h q) = low_5 p h.0.0 (⊎_elim (item_4 p f u h.0 q) (item_5 p f u h.0 q) h.1)
  side_low k p (repeated f h q d) = low_5 p h.0 (fails_field (λ u w. implies (eqb u 4) (is_done (at is_public t.pool w)) & implies (eqb u 5) (pattern_ok t.pool w)) t p f 5 h (fail_right _ _ (rw (q, pattern_ok) d)))
  side_low k p (bound_names l q) = low_6 p l q
  side_low k p (start_particles q) = low_7 (fail_left _ _ (lt-leb (length (start n t).particles) 32 (let z = (start_sizes n t).0 in omega arith)))
  side_low k p (start_boxes q) = low_7 (fail_right _ _ (fail_left _ _ (lt-leb (length (start n t).boxes) 16 (let z = (start_sizes n t).1 in omega arith))))
  side_low k p (start_minted q) = low_7 (fail_right _ _ (fail_right _ _ (lt-leb (start n t).minted 256 (let z = (start_sizes n t).2 in omega arith))))
