-- Kind 5: what a meeting is refused for is a cause, and a meeting with a cause is refused for it or for a lower one.
use mathlib.Core.Path.{◌≡◌, refl, sym, ap, ◌∙◌, subst}
use mathlib.Core.Bool.{Bool, true, false, cond, false≢true}
use mathlib.Core.List.{List, [], ◌++◌}
use mathlib.Core.Option.{some}
use Prim.Native.Nat.{ℕ, ◌+◌, ◌≤◌, ◌<◌}
use native.Mathlib.Omega.{arith}
use borrow.Author.Tests.{leb-false, eqb-true, eq-eqb, lt-leb, ltb-true, ltb-false}
use lib.Dec.{eqb, ltb}
use lib.ListN.{length, get_elem?}
use Rattle.model.specs.Basics.{◌&◌, Res, refuse, done, bind, need, choose, every, remove}
use Rattle.model.specs.Values.{Env, Fit, matches, word}
use Rattle.model.specs.Table.{Term, nil, par, box, new, out, inp, term}
use Rattle.model.specs.Wrapper.{has_side}
use Rattle.model.specs.Side.{Core, Contents, Tag, within, to_parent, from_parent, to_child, from_child, Particle, output, input, State, limits, side}
use Rattle.model.specs.Unfolding.{tag_of, unfolds, defined, particles_in, boxes_in, new_names_in}
use Rattle.model.specs.Load.{Composition, wrapper_of, table, setting}
use Rattle.model.specs.WellFormed.{env_at, ready}
use Rattle.model.specs.Step.{Step, Moved, silent, short, with_contents, with_particles, without, tags_fit, meet_term, meet_particles, meet, inner, local, settled}
use Rattle.model.specs.Causes.{Meeting, in_force, bindings, unfolded, gone, Fitting, both_within, parent, child, Can, can_enter, can_down, can_up, can_descend, can_meet, can_pass, can_leave}
use Rattle.model.specs.Causes.{can_take, Row10, no_particle_i, no_particle_j, value_words, malformed, empty, over_16, bad_word, Row17, particles_down, particles_meet, boxes, minted, lobby_enter, lobby_pass, lobby_take}
use Rattle.model.specs.Causes.{lobby_up, shelf, StepCause, by_10, by_11, by_12, by_13, by_14, by_15, by_16, by_17}
use Rattle.model.proofs.Basics.Tests.{fst, snd, both, some_inj, append-nil, length_gone}
use Rattle.model.proofs.Basics.Splits.{get_pick, get_length}
use Rattle.model.proofs.Basics.Items.{clash}
use Rattle.model.proofs.Formed.Keeping.{done_inj}
use Rattle.model.proofs.Formed.MeetingKeeps.{every_without}
use Rattle.model.proofs.Formed.Counts.{unfolds_adds}
use Rattle.model.proofs.Causes.CauseTools.{Caused, need_c, pick_c, bind_c, no_words, some_words, every_fails, fails_every, every_split, every_later, limit_cases, over_parts, over_boxes, over_minted, unfolds_behind, match_refuses}
use Rattle.model.proofs.Causes.StepCauses.{Tens, no_ten, L, o, parts_short}

-- how many particles a meeting leaves
length_without : (again : Bool) (l : List Particle) (i j : ℕ) → i < length l → j < length l → (i ≡ j → ⊥) → length (without again l i j) + gone again ≡ length l
length_without true l i j p q n = omega (arith, length_gone l i p)
length_without false l i j p q n = go (ltb i j) refl
  where
    go : (c : Bool) → ltb i j ≡ c → length (cond c (remove (remove l j) i) (remove (remove l i) j)) + 2 ≡ length l
    go true e =
        let a = length_gone l j q in
        let lt = ltb-true i j e in
        let d = length_gone (remove l j) i (omega arith) in
        omega (arith, a, d)
    go false e =
        let a = length_gone l i p in
        let ge = ltb-false i j e in
        let d = length_gone (remove l i) j (omega (arith, n)) in
        omega (arith, a, d)

fit_true : (g t : Tag) → Fitting g t → tags_fit g t ≡ true
fit_true g t both_within = refl
fit_true g t parent = refl
fit_true g t (child {n = n}) = eq-eqb n n refl

true_fit : (g t : Tag) → tags_fit g t ≡ true → Fitting g t
true_fit within within q = both_within
true_fit within to_parent q = absurd (false≢true q)
true_fit within from_parent q = absurd (false≢true q)
true_fit within (to_child m) q = absurd (false≢true q)
true_fit within (from_child m) q = absurd (false≢true q)
true_fit to_parent t q = absurd (false≢true q)
true_fit from_parent within q = absurd (false≢true q)
true_fit from_parent to_parent q = parent
true_fit from_parent from_parent q = absurd (false≢true q)
true_fit from_parent (to_child m) q = absurd (false≢true q)
true_fit from_parent (from_child m) q = absurd (false≢true q)
true_fit (to_child k) t q = absurd (false≢true q)
true_fit (from_child k) within q = absurd (false≢true q)
true_fit (from_child k) to_parent q = absurd (false≢true q)
true_fit (from_child k) from_parent q = absurd (false≢true q)
true_fit (from_child k) (to_child m) q = subst (λ (z : ℕ). Fitting (from_child k) (to_child z)) (eqb-true k m q) child
true_fit (from_child k) (from_child m) q = absurd (false≢true q)

abbrev IsOut : Particle → Type 0
IsOut (output a c g v) = Unit {0}
IsOut (input a m vs) = ⊥

abbrev IsIn : Term → Type 0
IsIn (nil m) = ⊥
IsIn (par m l r) = ⊥
IsIn (box m x a) = ⊥
IsIn (new m x a) = ⊥
IsIn (out m c g v) = ⊥
IsIn (inp m r c g p a) = Unit {0}

module _ (b : Composition) (s : State) (n i j : ℕ) (ws : List ℕ) (e : ready b s ≡ true) (h : has_side (wrapper_of b) n ≡ true) where
  abbrev x5 : Step
  x5 = record { kind = 5; side = n; i = i; j = j; words = ws }

  abbrev core : Core
  core = (side s n).core

  abbrev parts : List Particle
  parts = core.contents.particles

  abbrev M : Type 0
  M = Meeting b s x5

  abbrev tab : ℕ → List (List ℕ) → Env
  tab k vs = env_at (table b n) k vs

  -- the contents after a meeting, and what it does once its tags fit
  abbrev then_at : M → Fit → Contents
  then_at m f = unfolds n m.body (bindings b s x5 m f) m.at (with_particles core.contents (without m.again parts i j))

  abbrev then_do : M → Res Moved
  then_do m = bind (matches m.pat 1 m.val) λ f. need (defined m.body (bindings b s x5 m f)) 15 (done (record { label = silent; val = []; core = with_contents core (then_at m f) }))

  differ : M → i ≡ j → ⊥
  differ m q = let z : output m.at m.chan m.tag m.val ≡ input m.box m.node m.vals = some_inj
      (sym m.output_i ∙ subst (λ (k : ℕ). get_elem? parts k ≡ some (input m.box m.node m.vals)) (sym q) m.input_j) in subst IsOut z tt

  tens_5 : ws ≡ [] → i < length parts → j < length parts → Tens b s n i j ws 5
  tens_5 w p q = record {
    low = omega arith;
    high = omega arith;
    message = λ q. absurd (false≢true q);
    particle_i = λ _. p;
    box_j = λ q. absurd (false≢true q);
    particle_j = λ _. q;
    place = λ q. absurd (false≢true q);
    i0 = λ q. absurd (false≢true q);
    j0 = λ q. absurd (false≢true q);
    words0 = λ _. w;
    taker = λ q. absurd (omega arith);
  }

  abbrev test : (a c : ℕ) (g : Tag) (a' : ℕ) (ρ : Env) (c' g' : ℕ) → Bool
  test a c g a' ρ c' g' = eqb a a' & (eqb c (word ρ c') & tags_fit g (tag_of ρ g'))

  -- a meeting that can be: its test passes
  can_test : Can b s x5 → (m : M) × (test m.at m.chan m.tag m.box (in_force b s x5 m) m.in_chan m.in_tag ≡ true)
  can_test (can_meet m p q t) = (m, both _ _ (eq-eqb m.at m.box p) (both _ _ (eq-eqb m.chan _ q) (fit_true _ _ t)))
  can_test (can_enter k) = absurd (omega arith)
  can_test (can_down k a c) = absurd (omega arith)
  can_test (can_up k a) = absurd (omega arith)
  can_test (can_descend k a c d f v) = absurd (omega arith)
  can_test (can_pass k a c d) = absurd (omega arith)
  can_test (can_leave k a c) = absurd (omega arith)
  can_test (can_take k a) = absurd (omega arith)

  test_can : (m : M) → test m.at m.chan m.tag m.box (in_force b s x5 m) m.in_chan m.in_tag ≡ true → Can b s x5
  test_can m q = can_meet m (eqb-true m.at m.box (fst _ _ q)) (eqb-true m.chan _ (fst _ _ (snd _ _ q))) (true_fit _ _ (snd _ _ (snd _ _ q)))

  -- two meetings of one step are one
  test_same : (m m' : M) → test m.at m.chan m.tag m.box (in_force b s x5 m) m.in_chan m.in_tag ≡ test m'.at m'.chan m'.tag m'.box (in_force b s x5 m') m'.in_chan m'.in_tag
  test_same m m' = go m.at m.chan m.tag m.val m.box m.node m.vals m.number m.again m.in_chan m.in_tag m.pat m.body (some_inj (sym m.output_i ∙ m'.output_i))
      (some_inj (sym m.input_j ∙ m'.input_j)) m.at_node
    where
      go : (a c : ℕ) (g : Tag) (v : List ℕ) (a' k : ℕ) (vs : List (List ℕ)) (q : ℕ) (r : Bool) (c' g' : ℕ) (p : List ℕ) (d : Term) → output a c g v ≡ output m'.at m'.chan m'.tag m'.val →
          input a' k vs ≡ input m'.box m'.node m'.vals
          → term (table b n) k ≡ inp q r c' g' p d → test a c g a' (tab k vs) c' g' ≡ test m'.at m'.chan m'.tag m'.box (tab m'.node m'.vals) m'.in_chan m'.in_tag
      go a c g v a' k vs q r c' g' p d u w t =
          let k1 : a ≡ m'.at = cc in
          let k2 : c ≡ m'.chan = cc in
          let k3 : g ≡ m'.tag = cc in
          let k4 : a' ≡ m'.box = cc in
          let k5 : k ≡ m'.node = cc in
          let k6 : vs ≡ m'.vals = cc in
          let at : inp q r c' g' p d ≡ inp m'.number m'.again m'.in_chan m'.in_tag m'.pat m'.body = sym t ∙ ap (term (table b n)) k5 ∙ m'.at_node in
          let k7 : c' ≡ m'.in_chan = cc in
          let k8 : g' ≡ m'.in_tag = cc in
          rw (k1, k2, k3, k4, k5, k6, k7, k8)

  -- THE WALK, once for all that is said of it
  module _ (D : ℕ → Type 0) (P : Moved → Type 0) (no-w : (ws ≡ [] → ⊥) → D 10) (no-i : length parts ≤ i → D 10) (no-j : length parts ≤ j → D 10)
      (no-can : Tens b s n i j ws 5 → (Can b s x5 → ⊥) → D 13) (meets : Tens b s n i j ws 5 → (m : M) → Can b s x5 → Caused D P (then_do m)) where
    at_term : Tens b s n i j ws 5 → (a c : ℕ) (g : Tag) (v : List ℕ) → get_elem? parts i ≡ some (output a c g v) → (a' k : ℕ) (vs : List (List ℕ)) → get_elem? parts j ≡ some (input a' k vs)
        → (t : Term) → term (table b n) k ≡ t → Caused D P (meet_term (setting b n) core i j a c g v a' (tab k vs) t)
    unfolding meet_term
    at_term t a c g v p a' k vs q (inp m r c' g' pt d) z =
        let M0 : M = record { meets = refl; at = a; chan = c; tag = g; val = v; output_i = p; box = a'; node = k; vals = vs; input_j = q; number = m; again = r; in_chan = c'; in_tag = g'; pat = pt; body = d; at_node = z } in
        need_c D P (test a c g a' (tab k vs) c' g') 13 _ (λ y. no-can t (λ can. let w = can_test can in false≢true (sym y ∙ test_same M0 w.0 ∙ w.1))) (λ y. meets t M0 (test_can M0 y))
    at_term t a c g v p a' k vs q (nil m) z = no-can t (λ can. let w = can_test can in not-inp w.0)
      where
        not-inp : M → ⊥
        not-inp m' =
            let u : input a' k vs ≡ input m'.box m'.node m'.vals = some_inj (sym q ∙ m'.input_j) in
            let k5 : m'.node ≡ k = cc in
            subst IsIn (sym m'.at_node ∙ ap (term (table b n)) k5 ∙ z) tt
    at_term t a c g v p a' k vs q (par m l r) z = no-can t (λ can. let w = can_test can in not-inp w.0)
      where
        not-inp : M → ⊥
        not-inp m' =
            let u : input a' k vs ≡ input m'.box m'.node m'.vals = some_inj (sym q ∙ m'.input_j) in
            let k5 : m'.node ≡ k = cc in
            subst IsIn (sym m'.at_node ∙ ap (term (table b n)) k5 ∙ z) tt
    at_term t a c g v p a' k vs q (box m x d) z = no-can t (λ can. let w = can_test can in not-inp w.0)
      where
        not-inp : M → ⊥
        not-inp m' =
            let u : input a' k vs ≡ input m'.box m'.node m'.vals = some_inj (sym q ∙ m'.input_j) in
            let k5 : m'.node ≡ k = cc in
            subst IsIn (sym m'.at_node ∙ ap (term (table b n)) k5 ∙ z) tt
    at_term t a c g v p a' k vs q (new m x d) z = no-can t (λ can. let w = can_test can in not-inp w.0)
      where
        not-inp : M → ⊥
        not-inp m' =
            let u : input a' k vs ≡ input m'.box m'.node m'.vals = some_inj (sym q ∙ m'.input_j) in
            let k5 : m'.node ≡ k = cc in
            subst IsIn (sym m'.at_node ∙ ap (term (table b n)) k5 ∙ z) tt
    at_term t a c g v p a' k vs q (out m c' g' v') z = no-can t (λ can. let w = can_test can in not-inp w.0)
      where
        not-inp : M → ⊥
        not-inp m' =
            let u : input a' k vs ≡ input m'.box m'.node m'.vals = some_inj (sym q ∙ m'.input_j) in
            let k5 : m'.node ≡ k = cc in
            subst IsIn (sym m'.at_node ∙ ap (term (table b n)) k5 ∙ z) tt

    at_parts : Tens b s n i j ws 5 → (p q : Particle) → get_elem? parts i ≡ some p → get_elem? parts j ≡ some q → Caused D P (meet_particles (setting b n) core i j p q)
    unfolding meet_particles
    at_parts t (output a c g v) (input a' k vs) p q = at_term t a c g v p a' k vs q (term (table b n) k) refl
    at_parts t (output a c g v) (output a' c' g' v') p q = no-can t (λ can. let m = (can_test can).0 in subst IsOut (some_inj (sym q ∙ m.input_j)) tt)
    at_parts t (input a k vs) y p q = no-can t (λ can. let m = (can_test can).0 in subst IsOut (some_inj (sym m.output_i ∙ p)) tt)

    pub walk : Caused D P (L b s n i j ws e h 5)
    unfolding local inner choose meet
    walk =
        need_c D P _ 10 _ (λ q. no-w (some_words ws q)) λ w.
        pick_c D P parts i _ no-i λ p g.
        pick_c D P parts j _ no-j λ q k.
        at_parts (tens_5 (no_words ws w) (get_length parts i p g) (get_length parts j q k)) p q g k

  -- and from a meeting
  via : (m : M) (D : ℕ → Type 0) (P : Moved → Type 0) → D 10 → D 13 → Caused D P (then_do m) → Caused D P (L b s n i j ws e h 5)
  unfolding local inner choose meet meet_particles meet_term
  via m D P a c k = need_c D P _ 10 _ (λ q. a) λ w.
      subst (Caused D P) (sym
      (get_pick parts i _ (output m.at m.chan m.tag m.val) m.output_i ∙ get_pick parts j _ (input m.box m.node m.vals) m.input_j
      ∙ ap (meet_term (setting b n) core i j m.at m.chan m.tag m.val m.box (tab m.node m.vals)) m.at_node))
      (need_c D P (test m.at m.chan m.tag m.box (in_force b s x5 m) m.in_chan m.in_tag) 13 _ (λ q. c) (λ q. k))

  -- THE CONTENTS AFTER: the particles left, and behind them what has unfolded
  left_parts : M → List Particle
  left_parts m = without m.again parts i j

  behind : (m : M) (f : Fit) → (then_at m f).particles ≡ left_parts m ++ unfolded b s x5 m f
  unfolding left_parts
  behind m f = ap (λ (l : List Particle). (unfolds n m.body (bindings b s x5 m f) m.at (record { particles = l; boxes = core.contents.boxes; minted = core.contents.minted })).particles) (sym (append-nil (left_parts m)))
      ∙ ap (λ (u : Contents). u.particles) (unfolds_behind n m.body (bindings b s x5 m f) m.at (left_parts m) [] core.contents.boxes core.contents.minted)

  left_short : (m : M) → every short (left_parts m) ≡ true
  unfolding left_parts
  left_short m = every_without short m.again parts i j (parts_short b s n i j ws e h)

  is_long : (p : Particle) → short p ≡ false → (a : ℕ) × (c : ℕ) × (g : Tag) × (v : List ℕ) × (p ≡ output a c g v) × (16 < length v)
  is_long (output a c g v) q = (a, c, g, v, refl, leb-false (length v) 16 q)
  is_long (input a k vs) q = absurd (false≢true (sym q))

  long_after : (m : M) (f : Fit) → matches m.pat 1 m.val ≡ done f → every short (then_at m f).particles ≡ false → StepCause b s x5 16
  long_after m f d q =
      let (k, p, g, z) = every_fails short (unfolded b s x5 m f) (every_split short (left_parts m) (unfolded b s x5 m f) (left_short m) (subst (λ (l : List Particle). every short l ≡ false) (behind m f) q)) in
      let (a, c, t, v, y, l) = is_long p z in
      by_16 {f = f} {at = a} {ch = c} {g = t} {v = v} m k d (g ∙ ap some y) l

  after_long : (m : M) (f : Fit) (k a c : ℕ) (g : Tag) (v : List ℕ) → get_elem? (unfolded b s x5 m f) k ≡ some (output a c g v) → 16 < length v → every short (then_at m f).particles ≡ false
  after_long m f k a c g v q l = subst (λ (y : List Particle). every short y ≡ false) (sym (behind m f))
      (every_later short (left_parts m) (unfolded b s x5 m f) (fails_every short (unfolded b s x5 m f) k (output a c g v) q (lt-leb (length v) 16 l)))

  sizes : (m : M) (f : Fit) →
      (length (then_at m f).particles + gone m.again ≡ length parts + particles_in m.body) × (length (then_at m f).boxes ≡ length core.contents.boxes + boxes_in m.body) ×
      ((then_at m f).minted ≡ core.contents.minted + new_names_in m.body)
  sizes m f =
      let ad = unfolds_adds n m.body (bindings b s x5 m f) m.at (with_particles core.contents (without m.again parts i j)) in
      let lw = length_without m.again parts i j (get_length parts i (output m.at m.chan m.tag m.val) m.output_i) (get_length parts j (input m.box m.node m.vals) m.input_j) (differ m) in
      (omega (arith, ad.particles, lw), ad.boxes, ad.minted)

  full_after : (m : M) (f : Fit) → limits (with_contents core (then_at m f)) ≡ false → Row17 b s x5
  full_after m f q = let z = sizes m f in limit_cases (with_contents core (then_at m f)) q
      (λ y. particles_meet m (omega (arith, z.0))) (λ y. boxes m (omega (arith, z.1))) (λ y. minted m (omega (arith, z.2)))
      (λ y. absurd (let f = (o b s n i j ws e h).few_lobby in omega arith)) (λ y. absurd (let f = (o b s n i j ws e h).few_shelf in omega arith))

  -- I: what it is refused for is a cause
  abbrev Rest : Moved → Type 0
  Rest a = (every short a.core.contents.particles ≡ false → StepCause b s x5 16) × (limits a.core ≡ false → Row17 b s x5)

  pub cause_5 : Caused (StepCause b s x5) Rest (L b s n i j ws e h 5)
  cause_5 = walk (StepCause b s x5) Rest (λ q. by_10 (value_words refl q)) (λ q. by_10 (no_particle_i refl q)) (λ q. by_10 (no_particle_j refl q)) (λ t c. by_13 c)
      (λ t m c. bind_c (StepCause b s x5) Rest (matches m.pat 1 m.val) _ (λ k q. subst (StepCause b s x5) (sym (match_refuses m.pat 1 m.val k q)) (by_14 m q))
      (λ f q. need_c (StepCause b s x5) Rest (defined m.body (bindings b s x5 m f)) 15 _ (λ z. by_15 m q z) (λ z. (long_after m f q, full_after m f))))

  -- II: with a cause, it is refused for it or for a lower one
  settled_low : (r : ℕ) (P : Moved → Type 0) (R : Res Moved) → Caused (λ k. k ≤ r) P R → ((a : Moved) → P a → Caused (λ k. k ≤ r) (λ (a : Moved). ⊥) (settled (done a))) → Caused (λ k. k ≤ r) (λ (a : Moved). ⊥) (settled R)
  unfolding settled bind
  settled_low r P (refuse k) c f = c
  settled_low r P (done a) c f = f a c

  low_ten : Row10 b s x5 → Caused (λ k. k ≤ 10) (λ (a : Moved). ⊥) (L b s n i j ws e h 5)
  low_ten q = walk (λ k. k ≤ 10) (λ a. ⊥) (λ q. omega arith) (λ q. omega arith) (λ q. omega arith) (λ t c. absurd (no_ten b s n i j ws e h 5 t q)) (λ t m c. absurd (no_ten b s n i j ws e h 5 t q))

  low_13 : (Can b s x5 → ⊥) → Caused (λ k. k ≤ 13) (λ (a : Moved). ⊥) (L b s n i j ws e h 5)
  low_13 q = walk (λ k. k ≤ 13) (λ a. ⊥) (λ q. omega arith) (λ q. omega arith) (λ q. omega arith) (λ t c. omega arith) (λ t m c. absurd (q c))

  low_14 : (k : ℕ) (m : M) → matches m.pat 1 m.val ≡ refuse k → Caused (λ k. k ≤ 14) (λ (a : Moved). ⊥) (L b s n i j ws e h 5)
  low_14 k m q = via m (λ k. k ≤ 14) (λ a. ⊥) (omega arith) (omega arith)
      (bind_c (λ k. k ≤ 14) (λ a. ⊥) (matches m.pat 1 m.val) _ (λ k z. let y = match_refuses m.pat 1 m.val k z in omega arith) (λ f z. absurd (clash (sym q ∙ z))))

  low_15 : (f : Fit) (m : M) → matches m.pat 1 m.val ≡ done f → defined m.body (bindings b s x5 m f) ≡ false → Caused (λ k. k ≤ 15) (λ (a : Moved). ⊥) (L b s n i j ws e h 5)
  low_15 f m q d = via m (λ k. k ≤ 15) (λ a. ⊥) (omega arith) (omega arith)
      (bind_c (λ k. k ≤ 15) (λ a. ⊥) (matches m.pat 1 m.val) _ (λ k z. absurd (clash (sym z ∙ q)))
      (λ f' z. need_c (λ k. k ≤ 15) (λ a. ⊥) _ 15 _ (λ y. omega arith) (λ y. false≢true (sym d ∙ subst (λ (u : Fit). defined m.body (bindings b s x5 m u) ≡ true) (done_inj (sym z ∙ q)) y))))

  low_16 : (f : Fit) (m : M) (k a c : ℕ) (g : Tag) (v : List ℕ) → matches m.pat 1 m.val ≡ done f → get_elem? (unfolded b s x5 m f) k ≡ some (output a c g v) → 16 < length v
      → Caused (λ k. k ≤ 16) (λ (a : Moved). every short a.core.contents.particles ≡ false) (L b s n i j ws e h 5)
  low_16 f m k a c g v q p l = via m (λ k. k ≤ 16) (λ a. every short a.core.contents.particles ≡ false) (omega arith) (omega arith)
      (bind_c (λ k. k ≤ 16) (λ a. every short a.core.contents.particles ≡ false) (matches m.pat 1 m.val) _ (λ k z. absurd (clash (sym z ∙ q)))
      (λ f' z. need_c (λ k. k ≤ 16) (λ a. every short a.core.contents.particles ≡ false) _ 15 _ (λ y. omega arith)
      (λ y. after_long m f' k a c g v (subst (λ (u : Fit). get_elem? (unfolded b s x5 m u) k ≡ some (output a c g v)) (done_inj (sym q ∙ z)) p) l)))

  low_17 : (m : M) → ((f : Fit) → limits (with_contents core (then_at m f)) ≡ false) → Caused (λ k. k ≤ 17) (λ (a : Moved). limits a.core ≡ false) (L b s n i j ws e h 5)
  low_17 m q = via m (λ k. k ≤ 17) (λ a. limits a.core ≡ false) (omega arith) (omega arith)
      (bind_c (λ k. k ≤ 17) (λ a. limits a.core ≡ false) (matches m.pat 1 m.val) _ (λ k z. let y = match_refuses m.pat 1 m.val k z in omega arith)
      (λ f z. need_c (λ k. k ≤ 17) (λ a. limits a.core ≡ false) _ 15 _ (λ y. omega arith) (λ y. q f)))

  row_17 : Row17 b s x5 → Caused (λ k. k ≤ 17) (λ (a : Moved). limits a.core ≡ false) (L b s n i j ws e h 5)
  row_17 (particles_meet m l) = low_17 m (λ f. over_parts (with_contents core (then_at m f)) (let z = (sizes m f).0 in omega arith))
  row_17 (boxes m l) = low_17 m (λ f. over_boxes (with_contents core (then_at m f)) (let z = (sizes m f).1 in omega arith))
  row_17 (minted m l) = low_17 m (λ f. over_minted (with_contents core (then_at m f)) (let z = (sizes m f).2 in omega arith))
  row_17 (particles_down q l) = absurd (omega arith)
  row_17 (lobby_enter q l) = absurd (omega arith)
  row_17 (lobby_pass q l) = absurd (omega arith)
  row_17 (lobby_take q l) = absurd (omega arith)
  row_17 (lobby_up q g t l) = absurd (omega arith)
  row_17 (shelf q g t l) = absurd (omega arith)

  pub refused_5 : (r : ℕ) → StepCause b s x5 r → Caused (λ k. k ≤ r) (λ (a : Moved). ⊥) (settled (L b s n i j ws e h 5))
  unfolding settled bind
  refused_5 r (by_10 q) = settled_low 10 (λ a. ⊥) (L b s n i j ws e h 5) (low_ten q) (λ a z. absurd z)
  refused_5 r (by_11 (malformed p q)) = absurd (omega arith)
  refused_5 r (by_11 (empty p q)) = absurd (omega arith)
  refused_5 r (by_11 (over_16 p q)) = absurd (omega arith)
  refused_5 r (by_11 (bad_word k p q d f)) = absurd (omega arith)
  refused_5 r (by_12 k p q d f) = absurd (omega arith)
  refused_5 r (by_13 q) = settled_low 13 (λ a. ⊥) (L b s n i j ws e h 5) (low_13 q) (λ a z. absurd z)
  refused_5 r (by_14 {e = k} m q) = settled_low 14 (λ a. ⊥) (L b s n i j ws e h 5) (low_14 k m q) (λ a z. absurd z)
  refused_5 r (by_15 {f = f} m q d) = settled_low 15 (λ a. ⊥) (L b s n i j ws e h 5) (low_15 f m q d) (λ a z. absurd z)
  refused_5 r (by_16 {f = f} {at = a} {ch = c} {g = g} {v = v} m k q p l) = settled_low 16 (λ a. every short a.core.contents.particles ≡ false) (L b s n i j ws e h 5) (low_16 f m k a c g v q p l)
      (λ a z. need_c (λ k. k ≤ 16) (λ a. ⊥) (every short a.core.contents.particles) 16 _ (λ y. omega arith) (λ y. absurd (false≢true (sym z ∙ y))))
  refused_5 r (by_17 q) = settled_low 17 (λ a. limits a.core ≡ false) (L b s n i j ws e h 5) (row_17 q)
      (λ a z. need_c (λ k. k ≤ 17) (λ a. ⊥) (every short a.core.contents.particles) 16 _ (λ y. omega arith)
      (λ y. need_c (λ k. k ≤ 17) (λ a. ⊥) (limits a.core) 17 _ (λ y. omega arith) (λ y. absurd (false≢true (sym z ∙ y)))))
