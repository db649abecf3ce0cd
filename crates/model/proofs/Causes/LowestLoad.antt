-- Load is refused for the first cause in document 01's order.
use mathlib.Core.Path.{◌≡◌, refl, sym, ap, ◌∙◌, subst}
use mathlib.Core.Bool.{Bool, true, false, false≢true}
use mathlib.Core.List.{List, []}
use mathlib.Core.Logic.{◌⊎◌, inl, inr, ⊎_elim}
use Prim.Native.Nat.{ℕ, ◌≤◌, ◌<◌}
use native.Mathlib.Nat.{eq-or-lt_of_le}
use native.Mathlib.Omega.{arith}
use borrow.Author.Tests.{eqb-true, eqb-false}
use lib.Dec.{eqb}
use lib.ListN.{length}
use Rattle.model.specs.Basics.{◌&◌, choose, Res, refuse, done}
use Rattle.model.specs.Checks.{Fault}
use Rattle.model.specs.Wrapper.{described, has_side, is_wrapper}
use Rattle.model.specs.Side.{State}
use Rattle.model.specs.Load.{Composition, wrapper_of, table, Refused, Loaded, refused, ok, side_fault, lack_fault, load_sides, load}
use Rattle.model.specs.Causes.{Alone, TableCause, LoadCause, wrapper, of_table, alone_nodes, alone_pool, Before, LowestLoad}
use Rattle.model.proofs.Basics.Tests.{alt, one_fails}
use Rattle.model.proofs.Causes.CauseTools.{places, neither, fail_left, fail_right, no_words}
use Rattle.model.proofs.Causes.LoadCauses.{At, Lex, side_cause, side_low}

-- what is said of a load: Q of the refusal, Z where it succeeds
abbrev Lo : (Refused → Type 0) → Type 0 → Loaded → Type 0
Lo Q Z (refused r) = Q r
Lo Q Z (ok s) = Z

abbrev at_n : ℕ → Fault → Refused
at_n n f = record { number = f.number; side = n; node = f.node }

at_map : (Q Q' : Fault → Type 0) (Z Z' : Type 0) (r : Res Fault) → At Q Z r → ((f : Fault) → Q f → Q' f) → (Z → Z') → At Q' Z' r
at_map Q Q' Z Z' (done f) h a c = a f h
at_map Q Q' Z Z' (refuse e) h a c = c h

at_any : (Q : Fault → Type 0) (Z : Type 0) (r : Res Fault) → ((f : Fault) → Q f) → Z → At Q Z r
at_any Q Z (done f) a c = a f
at_any Q Z (refuse e) a c = c

module _ (b : Composition) where
  abbrev res : ℕ → Res Fault
  res n = choose (has_side (wrapper_of b) n) (side_fault n (table b n)) (lack_fault (table b n))

  two_sides : (Q : Refused → Type 0) (Z : Type 0) → (is_wrapper b.wrapper ≡ false → Q (record { number = 1; side = 0; node = 0 }))
      → (is_wrapper b.wrapper ≡ true → At (λ f. Q (at_n 1 f)) (At (λ f. Q (at_n 2 f)) Z (res 2)) (res 1)) → Lo Q Z (load b)
  unfolding load load_sides
  two_sides Q Z f g = go (is_wrapper b.wrapper) refl _
    where
      sides : (r1 r2 : Res Fault) (s : State) → At (λ f. Q (at_n 1 f)) (At (λ f. Q (at_n 2 f)) Z r2) r1
          → Lo Q Z (elim r1 as (λ r. Loaded) [ done f ↦ refused (at_n 1 f) | refuse e ↦ elim r2 as (λ r. Loaded) [ done f ↦ refused (at_n 2 f) | refuse e ↦ ok s ] ])
      sides (done f) r2 s h = h
      sides (refuse e) (done f) s h = h
      sides (refuse e) (refuse e') s h = h

      go : (t : Bool) → is_wrapper b.wrapper ≡ t → (s : State)
          → Lo Q Z (elim t as (λ t. Loaded) [
            | true ↦ elim (res 1) as
                (λ r. Loaded) [ done f ↦ refused (at_n 1 f) | refuse e ↦ elim (res 2) as (λ r. Loaded) [ done f ↦ refused (at_n 2 f) | refuse e ↦ ok s ] ]
            | false ↦ refused (record { number = 1; side = 0; node = 0 })
          ])
      go true e s = sides (res 1) (res 2) s (g e)
      go false e s = f e

  which_one : is_wrapper b.wrapper ≡ true → Alone b ⊎ (b.wrapper ≡ 2)
  which_one q = ⊎_elim (λ z. inl (inl (eqb-true b.wrapper 1 z)))
      (λ z. ⊎_elim (λ y. inr (eqb-true b.wrapper 2 y)) (λ y. inl (inr (eqb-true b.wrapper 3 y))) (alt _ _ z)) (alt _ _ q)

  -- what holds of the numbers 1 and 3
  of_alone : (F : ℕ → Type 0) → F 1 → F 3 → Alone b → F b.wrapper
  of_alone F f g w = ⊎_elim (λ z. subst F (sym z) f) (λ z. subst F (sym z) g) w

  has_1 : is_wrapper b.wrapper ≡ true → has_side (wrapper_of b) 1 ≡ true
  has_1 q = ⊎_elim (of_alone (λ w. has_side (described w) 1 ≡ true) refl refl) (λ z. subst (λ (w : ℕ). has_side (described w) 1 ≡ true) (sym z) refl) (which_one q)

  res_has : (n : ℕ) → has_side (wrapper_of b) n ≡ true → side_fault n (table b n) ≡ res n
  unfolding choose
  res_has n h = rw h

  res_lacks : (n : ℕ) → has_side (wrapper_of b) n ≡ false → lack_fault (table b n) ≡ res n
  unfolding choose
  res_lacks n h = rw h

  -- I
  abbrev Is : ℕ → Fault → Type 0
  Is n f = LoadCause b f.number n f.node

  cause_has : (n : ℕ) → has_side (wrapper_of b) n ≡ true → At (Is n) (Unit {0}) (res n)
  cause_has n h = subst (At (Is n) (Unit {0})) (res_has n h) (at_map (λ f. TableCause (table b n) f.number f.node) (Is n) (Unit {0}) (Unit {0}) (side_fault n (table b n)) (side_cause n (table b n)) (λ f c. of_table h c) (λ z. z))

  alone_lacks : Alone b → has_side (wrapper_of b) 2 ≡ false
  alone_lacks = of_alone (λ w. has_side (described w) 2 ≡ false) refl refl

  cause_lacks : Alone b → At (Is 2) (Unit {0}) (res 2)
  unfolding lack_fault choose
  cause_lacks w = subst (At (Is 2) (Unit {0})) (res_lacks 2 (alone_lacks w)) (go (eqb (length (table b 2).nodes) 0 & eqb (length (table b 2).pool) 0) refl)
    where
      go : (t : Bool) → eqb (length (table b 2).nodes) 0 & eqb (length (table b 2).pool) 0 ≡ t → At (Is 2) (Unit {0}) (choose t (refuse 0) (done (record { number = 1; node = 0 })))
      go true e = tt
      go false e = ⊎_elim (λ z. alone_nodes w (λ q. eqb-false (length (table b 2).nodes) 0 z (ap length q))) (λ z. alone_pool w (λ q. eqb-false (length (table b 2).pool) 0 z (ap length q))) (one_fails _ _ e)

  cause_2 : is_wrapper b.wrapper ≡ true → At (Is 2) (Unit {0}) (res 2)
  cause_2 q = ⊎_elim cause_lacks (λ z. cause_has 2 (subst (λ (w : ℕ). has_side (described w) 2 ≡ true) (sym z) refl)) (which_one q)

  not_wrapper : is_wrapper b.wrapper ≡ false → LoadCause b 1 0 0
  not_wrapper q = let z = neither _ _ q in let y = neither _ _ z.1 in wrapper (eqb-false b.wrapper 1 z.0) (eqb-false b.wrapper 2 y.0) (eqb-false b.wrapper 3 y.1)

  abbrev Cause : Refused → Type 0
  Cause r = LoadCause b r.number r.side r.node

  load_cause : Lo Cause (Unit {0}) (load b)
  load_cause = two_sides Cause (Unit {0}) not_wrapper (λ q. at_map (Is 1) (Is 1) (Unit {0}) _ (res 1) (cause_has 1 (has_1 q)) (λ f c. c) (λ z. cause_2 q))

  -- II
  abbrev NotAfter : (k n p : ℕ) → Refused → Type 0
  NotAfter k n p r = (r.side < n) ⊎ ((r.side ≡ n) × ((r.number < k) ⊎ ((r.number ≡ k) × (r.node ≤ p))))

  low_has : (k n p : ℕ) → has_side (wrapper_of b) n ≡ true → TableCause (table b n) k p → At (λ f. NotAfter k n p (at_n n f)) ⊥ (res n)
  low_has k n p h c = subst (At (λ f. NotAfter k n p (at_n n f)) ⊥) (res_has n h) (at_map (Lex k p) (λ f. NotAfter k n p (at_n n f)) ⊥ ⊥ (side_fault n (table b n)) (side_low n (table b n) k p c) (λ f z. inr (refl, z)) (λ z. z))

  low_lacks : Alone b → eqb (length (table b 2).nodes) 0 & eqb (length (table b 2).pool) 0 ≡ false → At (λ f. NotAfter 1 2 0 (at_n 2 f)) ⊥ (res 2)
  unfolding lack_fault choose
  low_lacks w q = subst (At (λ f. NotAfter 1 2 0 (at_n 2 f)) ⊥) (res_lacks 2 (alone_lacks w)) (go (eqb (length (table b 2).nodes) 0 & eqb (length (table b 2).pool) 0) q)
    where
      go : (t : Bool) → t ≡ false → At (λ f. NotAfter 1 2 0 (at_n 2 f)) ⊥ (choose t (refuse 0) (done (record { number = 1; node = 0 })))
      go true e = absurd (false≢true (sym e))
      go false e = inr (refl, inr (refl, omega arith))

  on_1 : (k p : ℕ) → At (λ f. NotAfter k 1 p (at_n 1 f)) ⊥ (res 1) → Lo (NotAfter k 1 p) ⊥ (load b)
  on_1 k p h = two_sides (NotAfter k 1 p) ⊥ (λ q. inl (omega arith)) (λ q. at_map _ _ ⊥ _ (res 1) h (λ f z. z) (λ z. absurd z))

  on_2 : (k p : ℕ) → At (λ f. NotAfter k 2 p (at_n 2 f)) ⊥ (res 2) → Lo (NotAfter k 2 p) ⊥ (load b)
  on_2 k p h = two_sides (NotAfter k 2 p) ⊥ (λ q. inl (omega arith)) (λ q. at_any _ _ (res 1) (λ f. inl (omega arith)) h)

  of_side : (k n p : ℕ) → has_side (wrapper_of b) n ≡ true → TableCause (table b n) k p → (n ≡ 1) ⊎ (n ≡ 2) → Lo (NotAfter k n p) ⊥ (load b)
  of_side k n p h c q = ⊎_elim
      (λ z. subst (λ (m : ℕ). Lo (NotAfter k m p) ⊥ (load b)) (sym z) (on_1 k p (subst (λ (m : ℕ). At (λ f. NotAfter k m p (at_n m f)) ⊥ (res m)) z (low_has k n p h c))))
      (λ z. subst (λ (m : ℕ). Lo (NotAfter k m p) ⊥ (load b)) (sym z) (on_2 k p (subst (λ (m : ℕ). At (λ f. NotAfter k m p (at_n m f)) ⊥ (res m)) z (low_has k n p h c)))) q

  is_side : (n : ℕ) → has_side (wrapper_of b) n ≡ true → (n ≡ 1) ⊎ (n ≡ 2)
  is_side n h = ⊎_elim (λ z. inl z.1) (λ z. ⊎_elim (λ y. inl y.1) (λ y. inr y.1) z) (places b.wrapper n h)

  some_left : (l : List ℕ) → (l ≡ [] → ⊥) → eqb (length l) 0 ≡ false
  some_left l f = go (eqb (length l) 0) refl
    where
      go : (t : Bool) → eqb (length l) 0 ≡ t → t ≡ false
      go true e = absurd (f (no_words l e))
      go false e = refl

  load_low : (k n p : ℕ) → LoadCause b k n p → Lo (NotAfter k n p) ⊥ (load b)
  load_low k n p (wrapper f g d) = two_sides (NotAfter 1 0 0) ⊥ (λ q. inr (refl, inr (refl, omega arith))) (λ q. absurd (⊎_elim (⊎_elim f d) g (which_one q)))
  load_low k n p (of_table h c) = of_side k n p h c (is_side n h)
  load_low k n p (alone_nodes w f) = on_2 1 0 (low_lacks w (fail_left _ _ (some_left (table b 2).nodes f)))
  load_low k n p (alone_pool w f) = on_2 1 0 (low_lacks w (fail_right _ _ (some_left (table b 2).pool f)))

  -- the two orders
  not_both : (k n p : ℕ) (r : Refused) → NotAfter k n p r → Before n k p r.side r.number r.node → ⊥
  not_both k n p r a c = ⊎_elim (λ x. ⊎_elim (λ y. omega arith) (λ y. let z = y.0 in omega arith) c)
      (λ x. let u = x.0 in
      ⊎_elim (λ y. omega arith)
      (λ y. ⊎_elim (λ z. ⊎_elim (λ w. omega arith) (λ w. let v = w.0 in omega arith) x.1) (λ z. let v = z.0 in let t = z.1 in ⊎_elim (λ w. omega arith) (λ w. let m = w.1 in omega arith) x.1) y.1) c) a

  first_or_same : (r r' : Refused) → NotAfter r.number r.side r.node r' → Before r'.side r'.number r'.node r.side r.number r.node ⊎ (r' ≡ r)
  first_or_same r r' a = ⊎_elim (λ x. inl (inl x)) (λ x. ⊎_elim (λ y. inl (inr (x.0, inl y))) (λ y. ⊎_elim (λ z. inr (all_same x.0 y.0 z)) (λ z. inl (inr (x.0, inr (y.0, z)))) (eq-or-lt_of_le y.1)) x.1) a
    where
      all_same : r'.side ≡ r.side → r'.number ≡ r.number → r'.node ≡ r.node → r' ≡ r
      all_same p q t i = record { number = q i; side = p i; node = t i }

pub lowest_load : LowestLoad
unfolding LowestLoad
lowest_load b = ((λ r. (refused-so r, first_so (load b) refl r)), (ok_so, none_so (load b) refl))
  where
    refused-so : (r : Refused) → load b ≡ refused r → LoadCause b r.number r.side r.node × ((k n p : ℕ) → Before n k p r.side r.number r.node → LoadCause b k n p → ⊥)
    refused-so r e = (subst (Lo (Cause b) (Unit {0})) e (load_cause b), (λ k n p c l. not_both b k n p r (subst (Lo (NotAfter b k n p) ⊥) e (load_low b k n p l)) c))

    first_so : (l : Loaded) → load b ≡ l → (r : Refused) → LoadCause b r.number r.side r.node × ((k n p : ℕ) → Before n k p r.side r.number r.node → LoadCause b k n p → ⊥) → load b ≡ refused r
    first_so (refused r') e r h = ⊎_elim (λ z. absurd (h.1 r'.number r'.side r'.node z (subst (Lo (Cause b) (Unit {0})) e (load_cause b)))) (λ z. e ∙ ap refused z)
        (first_or_same b r r' (subst (Lo (NotAfter b r.number r.side r.node) ⊥) e (load_low b r.number r.side r.node h.0)))
    first_so (ok s) e r h = absurd (subst (Lo (NotAfter b r.number r.side r.node) ⊥) e (load_low b r.number r.side r.node h.0))

    ok_so : (s : State) × (load b ≡ ok s) → (k n p : ℕ) → LoadCause b k n p → ⊥
    ok_so s k n p c = subst (Lo (NotAfter b k n p) ⊥) s.1 (load_low b k n p c)

    none_so : (l : Loaded) → load b ≡ l → ((k n p : ℕ) → LoadCause b k n p → ⊥) → (s : State) × (load b ≡ ok s)
    none_so (refused r) e h = absurd (h r.number r.side r.node (subst (Lo (Cause b) (Unit {0})) e (load_cause b)))
    none_so (ok s) e h = (s, e)
