-- The lowest cause of a step is given.
use mathlib.Core.Path.{◌≡◌, refl, sym, ap, ◌∙◌, subst}
use mathlib.Core.Bool.{Bool, true, false, false≢true}
use mathlib.Core.List.{List}
use mathlib.Core.Logic.{inl, inr, ⊎_elim}
use Prim.Native.Nat.{ℕ, zero, suc, ◌≤◌, ◌<◌}
use native.Mathlib.Nat.{eq-or-lt_of_le}
use native.Mathlib.Omega.{arith}
use Rattle.model.specs.Basics.{◌&◌, Res, refuse, done, bind, every}
use Rattle.model.specs.Wrapper.{has_side}
use Rattle.model.specs.Side.{State, limits, side}
use Rattle.model.specs.Load.{Composition, wrapper_of, setting, Loaded, load, is_ok, refused, ok}
use Rattle.model.specs.WellFormed.{shelf_of, ready}
use Rattle.model.specs.Step.{Step, Label, Moved, labelled, refusal, answer_of, short, known, local, settled, step}
use Rattle.model.specs.Agreement.{IsLabelled}
use Rattle.model.specs.Causes.{Row10, tables, state, lacks_side, Row17, StepCause, by_10, by_11, by_12, by_13, by_14, by_15, by_16, by_17, LowestStep}
use Rattle.model.proofs.Basics.Tests.{fst, snd, one_fails}
use Rattle.model.proofs.Causes.CauseTools.{Caused, need_c}
use Rattle.model.proofs.Causes.StepCauses.{X, Low, Good, above_10, L, kind_1, kind_2, kind_3, kind_4, kind_6, kind_7, kind_8, no_such}
use Rattle.model.proofs.Causes.MeetCauses.{cause_5, refused_5}
use Rattle.model.proofs.Formed.Refusals.{refusal_number, refusal_side}

-- a refusal has its cause; and with a cause there is a refusal for it or for a lower one
abbrev Verdict : (ℕ → Type 0) → Res Moved → Type 0
Verdict C r = Caused C (λ (a : Moved). Unit {0}) r × ((m : ℕ) → C m → Caused (λ k. k ≤ m) (λ (a : Moved). ⊥) r)

last : {b : Composition} {s : State} {x : Step} (r : ℕ) → StepCause b s x r → 16 ≤ r → (r ≡ 16 → ⊥) → Row17 b s x
last r (by_10 q) l f = absurd (omega arith)
last r (by_11 q) l f = absurd (omega arith)
last r (by_12 k p q d g) l f = absurd (omega arith)
last r (by_13 q) l f = absurd (omega arith)
last r (by_14 m q) l f = absurd (omega arith)
last r (by_15 m q d) l f = absurd (omega arith)
last r (by_16 m k q p g) l f = absurd (f refl)
last r (by_17 q) l f = q

module _ (b : Composition) (s : State) (n i j : ℕ) (ws : List ℕ) (e : ready b s ≡ true) (h : has_side (wrapper_of b) n ≡ true) where
  abbrev C : ℕ → ℕ → Type 0
  C k = StepCause b s (X b s n i j ws k)

  from_good : (k : ℕ) (r : Res Moved) → Caused (Low b s n i j ws k) (Good b s n i j ws k) r → Verdict (C k) (settled r)
  unfolding settled bind
  from_good k (refuse m) c = (c.0, c.1)
  from_good k (done a) c = (
    need_c (C k) (λ a. Unit {0}) (every short a.core.contents.particles) 16 _ (λ q. c.long q) (λ q. need_c (C k) (λ a. Unit {0}) (limits a.core) 17 _ (λ z. by_17 (c.full z)) (λ z. tt)),
    (λ m z. need_c (λ k. k ≤ m) (λ a. ⊥) (every short a.core.contents.particles) 16 _ (λ q. c.late m z)
        (λ q. let other : m ≡ 16 → ⊥ = λ y. false≢true (sym (c.not_long m z y) ∙ q) in
        need_c (λ k. k ≤ m) (λ a. ⊥) (limits a.core) 17 _ (λ y. let l = c.late m z in omega (arith, other)) (λ y. false≢true (sym (c.not_full (last m z (c.late m z) other)) ∙ y)))),
  )

  from_5 : (r : Res Moved) → Caused (C 5) (λ a. (every short a.core.contents.particles ≡ false → C 5 16) × (limits a.core ≡ false → Row17 b s (X b s n i j ws 5))) r → Caused (C 5) (λ (a : Moved). Unit {0}) (settled r)
  unfolding settled bind
  from_5 (refuse m) c = c
  from_5 (done a) c = need_c (C 5) (λ a. Unit {0}) (every short a.core.contents.particles) 16 _ (λ q. c.0 q) (λ q. need_c (C 5) (λ a. Unit {0}) (limits a.core) 17 _ (λ z. by_17 (c.1 z)) (λ z. tt))

  by_kind : (k : ℕ) → Verdict (C k) (settled (L b s n i j ws e h k))
  by_kind zero = from_good 0 _ (no_such b s n i j ws e h 0 (inl refl))
  by_kind (suc zero) = from_good 1 _ (kind_1 b s n i j ws e h)
  by_kind (suc (suc zero)) = from_good 2 _ (kind_2 b s n i j ws e h)
  by_kind (suc (suc (suc zero))) = from_good 3 _ (kind_3 b s n i j ws e h)
  by_kind (suc (suc (suc (suc zero)))) = from_good 4 _ (kind_4 b s n i j ws e h)
  by_kind (suc (suc (suc (suc (suc zero))))) = (from_5 _ (cause_5 b s n i j ws e h), refused_5 b s n i j ws e h)
  by_kind (suc (suc (suc (suc (suc (suc zero)))))) = from_good 6 _ (kind_6 b s n i j ws e h)
  by_kind (suc (suc (suc (suc (suc (suc (suc zero))))))) = from_good 7 _ (kind_7 b s n i j ws e h)
  by_kind (suc (suc (suc (suc (suc (suc (suc (suc zero)))))))) = from_good 8 _ (kind_8 b s n i j ws e h)
  by_kind (suc (suc (suc (suc (suc (suc (suc (suc (suc k))))))))) = from_good _ _ (no_such b s n i j ws e h _ (inr (omega arith)))

not_ready : (b : Composition) (s : State) (x : Step) → ready b s & has_side (wrapper_of b) x.side ≡ false → Row10 b s x
unfolding ready
not_ready b s x q = ⊎_elim (λ z. ⊎_elim (λ y. not-ok (load b) refl y) (λ y. state y) (one_fails _ _ z)) (λ z. lacks_side z) (one_fails _ _ q)
  where
    not-ok : (l : Loaded) → load b ≡ l → is_ok (load b) ≡ false → Row10 b s x
    not-ok (refused r) p y = tables p
    not-ok (ok t) p y = absurd (false≢true (sym y ∙ ap is_ok p))

verdict : (b : Composition) (s : State) (x : Step) → (r : Res Moved) × ((step b s x).answer ≡ answer_of x.side r) × Verdict (StepCause b s x) r
unfolding step
verdict b s x = go (ready b s & has_side (wrapper_of b) x.side) refl
  where
    go : (t : Bool) → ready b s & has_side (wrapper_of b) x.side ≡ t → (r : Res Moved) × ((step b s x).answer ≡ answer_of x.side r) × Verdict (StepCause b s x) r
    go false p = (refuse 10, rw (p, step), (by_10 (not_ready b s x p), above_10 b s x.side x.i x.j x.words x.kind))
    go true p = (settled (local (setting b x.side) (known s) (shelf_of s) (side s x.side).core x), rw (p, step), by_kind b s x.side x.i x.j x.words (fst _ _ p) (snd _ _ p) x.kind)

pub lowest_step : LowestStep
unfolding LowestStep
lowest_step b s x =
    let v = verdict b s x in
    ((λ n k. (refused-so v.0 v.1 v.2 n k, lowest_so v.0 v.1 v.2 n k)), (labelled_so v.0 v.1 v.2, none_so v.0 v.1 v.2))
  where
    refused-so : (r : Res Moved) → (step b s x).answer ≡ answer_of x.side r → Verdict (StepCause b s x) r → (n k : ℕ) → (step b s x).answer ≡ refusal n k → StepCause b s x n × ((m : ℕ) → m < n → StepCause b s x m → ⊥) × (k ≡ x.side)
    refused-so (refuse m) p v n k q =
        let w = sym q ∙ p in
        let z = refusal_number w in
        (subst (StepCause b s x) (sym z) v.0, (λ y l c. let u = v.1 y c in omega (arith, z)), refusal_side w)
    refused-so (done a) p v n k q = absurd (subst IsLabelled (sym p ∙ q) tt)

    lowest_so : (r : Res Moved) → (step b s x).answer ≡ answer_of x.side r → Verdict (StepCause b s x) r → (n k : ℕ) → StepCause b s x n × ((m : ℕ) → m < n → StepCause b s x m → ⊥) × (k ≡ x.side) → (step b s x).answer ≡ refusal n k
    lowest_so (refuse m) p v n k q = p ∙ ⊎_elim (λ z. ap (λ (y : ℕ). refusal y x.side) z ∙ ap (refusal n) (sym q.2)) (λ z. absurd (q.1 m z v.0)) (eq-or-lt_of_le (v.1 n q.0))
    lowest_so (done a) p v n k q = absurd (v.1 n q.0)

    labelled_so : (r : Res Moved) → (step b s x).answer ≡ answer_of x.side r → Verdict (StepCause b s x) r → (l : Label) × (w : List ℕ) × ((step b s x).answer ≡ labelled l x.side w) → (n : ℕ) → StepCause b s x n → ⊥
    labelled_so (refuse m) p v q n c = subst IsLabelled (sym q.2 ∙ p) tt
    labelled_so (done a) p v q n c = v.1 n c

    none_so : (r : Res Moved) → (step b s x).answer ≡ answer_of x.side r → Verdict (StepCause b s x) r → ((n : ℕ) → StepCause b s x n → ⊥) → (l : Label) × (w : List ℕ) × ((step b s x).answer ≡ labelled l x.side w)
    none_so (refuse m) p v q = absurd (q m v.0)
    none_so (done a) p v q = (a.label, a.val, p)
