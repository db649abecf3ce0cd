-- For each kind but 5: what its step is refused for is a cause, and no lower one applies.
use mathlib.Core.Path.{◌≡◌, refl, sym, ap, ◌∙◌, subst}
use mathlib.Core.Bool.{Bool, true, false, not, false≢true}
use mathlib.Core.List.{List, [], ◌∷◌, ◌++◌}
use mathlib.Core.Logic.{◌⊎◌, inl, inr, ⊎_elim}
use mathlib.Core.Option.{some}
use Prim.Native.Nat.{ℕ, zero, suc, ◌+◌, ◌≤◌, ◌<◌}
use native.Mathlib.Omega.{arith}
use borrow.Author.Tests.{leb-true, leb-false, eqb-true, eqb-false, eq-eqb, ltb-true, ne_eqb}
use lib.Dec.{leb, eqb}
use lib.ListN.{length, set, get_elem?, length-append, length-set}
use Rattle.model.specs.Basics.{◌&◌, ◌or◌, Res, refuse, done, choose, every, one_of, remove}
use Rattle.model.specs.Values.{is_minted, is_value, shaped, items}
use Rattle.model.specs.Wrapper.{Route, described, has_side, shelves}
use Rattle.model.specs.Side.{Core, Tag, within, to_parent, from_parent, to_child, from_child, Particle, output, input, Box, Status, down, arrived, leaving, Message, State, limits, side, has_taken}
use Rattle.model.specs.Load.{Composition, wrapper_of, setting, load, is_ok, refused, Refused}
use Rattle.model.specs.WellFormed.{shelf_of, ready, counts, wf_particle, wf_message, wf_value}
use Rattle.model.specs.Step.{Step, Moved, short, known, copied, with_lobby, with_contents, with_particles, is_down, is_arrived, is_leaving, is_to_parent, is_to_child, enter, go_down, up_from, up_particle, up}
use Rattle.model.specs.Step.{descend_particle, descend, pass, leave, takes, route_to, inner, local}
use Rattle.model.specs.Causes.{Kind, Can, can_enter, can_down, can_up, can_descend, can_meet, can_pass, can_leave, can_take, ToShelf, Row10, tables, state, no_kind, lacks_side, no_message}
use Rattle.model.specs.Causes.{no_particle_i, no_box_j, no_particle_j, no_shelf_place, unused_i, unused_j, value_words, kind_8_alone, kind_8_side_1, Row11, malformed, empty, over_16, bad_word}
use Rattle.model.specs.Causes.{Alone, copy_count, Row17, particles_down, particles_meet, boxes, minted, lobby_enter, lobby_pass, lobby_take, lobby_up, shelf, StepCause, by_10, by_11, by_12, by_13, by_14, by_15, by_16, by_17}
use Rattle.model.proofs.Basics.Tests.{fst, snd, both, alt, get_every, every_append, every_one, every_remove, every_set, some_inj, length_remove, one_fails}
use Rattle.model.proofs.Basics.Splits.{get_length}
use Rattle.model.proofs.Basics.Items.{clash}
use Rattle.model.proofs.Formed.Growing.{CoreOk}
use Rattle.model.proofs.Formed.Keeping.{length_copied, shaped_words}
use Rattle.model.proofs.Formed.Invariant.{core_short, side_ok, loaded, wf}
use Rattle.model.proofs.Causes.CauseTools.{Caused, need_c, pick_c, bind_c, choose_c, neither, not_false', not_true', no_words, some_words, every_fails}
use Rattle.model.proofs.Causes.CauseTools.{limit_cases, over_parts, over_lobby, over_shelf, alone_routes, copy_count_lem, places}

pub not_loaded : (b : Composition) (r : Refused) → is_ok (load b) ≡ true → load b ≡ refused r → ⊥
not_loaded b r e q = false≢true (rw q at e)

module _ (b : Composition) (s : State) (n i j : ℕ) (ws : List ℕ) where
  abbrev pub X : ℕ → Step
  X k = record { kind = k; side = n; i = i; j = j; words = ws }

  abbrev pub K : Core
  K = (side s n).core

  -- the lowest cause of a step of kind k
  abbrev pub Low : ℕ → ℕ → Type 0
  Low k m = StepCause b s (X k) m × ((r : ℕ) → StepCause b s (X k) r → m ≤ r)

  pub above_10 : (k r : ℕ) → StepCause b s (X k) r → 10 ≤ r
  above_10 k r (by_10 h) = omega arith
  above_10 k r (by_11 h) = omega arith
  above_10 k r (by_12 p a c d f) = omega arith
  above_10 k r (by_13 h) = omega arith
  above_10 k r (by_14 m h) = omega arith
  above_10 k r (by_15 m h f) = omega arith
  above_10 k r (by_16 m p h f g) = omega arith
  above_10 k r (by_17 h) = omega arith

  pub low_10 : (k : ℕ) → Row10 b s (X k) → Low k 10
  low_10 k h = (by_10 h, above_10 k)

  -- what a done step says: no cause below 16; 16 and 17 are read off the core after it
  pub record Good (k : ℕ) (a : Moved) : Type 0 where
    pub late : (r : ℕ) → StepCause b s (X k) r → 16 ≤ r
    pub long : every short a.core.contents.particles ≡ false → StepCause b s (X k) 16
    pub not_long : (r : ℕ) → StepCause b s (X k) r → r ≡ 16 → every short a.core.contents.particles ≡ false
    pub full : limits a.core ≡ false → Row17 b s (X k)
    pub not_full : Row17 b s (X k) → limits a.core ≡ false

  -- nothing in row 10 applies
  pub record Tens (k : ℕ) : Type 0 where
    pub low : 1 ≤ k
    pub high : k ≤ 8
    pub message : Kind (2 ∷ 6 ∷ 7 ∷ []) (X k) → i < length K.lobby
    pub particle_i : Kind (3 ∷ 4 ∷ 5 ∷ []) (X k) → i < length K.contents.particles
    pub box_j : Kind (4 ∷ []) (X k) → j < length K.contents.boxes
    pub particle_j : Kind (5 ∷ []) (X k) → j < length K.contents.particles
    pub place : Kind (8 ∷ []) (X k) → i < length (side s 1).core.shelf
    pub i0 : Kind (1 ∷ []) (X k) → i ≡ 0
    pub j0 : Kind (1 ∷ 2 ∷ 3 ∷ 6 ∷ 7 ∷ 8 ∷ []) (X k) → j ≡ 0
    pub words0 : Kind (2 ∷ 3 ∷ 4 ∷ 5 ∷ 6 ∷ 7 ∷ 8 ∷ []) (X k) → ws ≡ []
    pub taker : k ≡ 8 → (Alone b → ⊥) × (n ≡ 1 → ⊥)

  module _ (e : ready b s ≡ true) (h : has_side (wrapper_of b) n ≡ true) where
    pub no_ten : (k : ℕ) → Tens k → Row10 b s (X k) → ⊥
    no_ten k t (tables {r = r} q) = not_loaded b r (loaded b s e) q
    no_ten k t (state q) = false≢true (sym q ∙ wf b s e)
    no_ten k t (no_kind q) =
        let l = t.low in
        let u = t.high in
        ⊎_elim (λ z. omega arith) (λ z. omega arith) q
    no_ten k t (lacks_side q) = false≢true (sym q ∙ h)
    no_ten k t (no_message q l) = let z = t.message q in omega arith
    no_ten k t (no_particle_i q l) = let z = t.particle_i q in omega arith
    no_ten k t (no_box_j q l) = let z = t.box_j q in omega arith
    no_ten k t (no_particle_j q l) = let z = t.particle_j q in omega arith
    no_ten k t (no_shelf_place q l) = let z = t.place q in omega arith
    no_ten k t (unused_i q z) = z (t.i0 q)
    no_ten k t (unused_j q z) = z (t.j0 q)
    no_ten k t (value_words q z) = z (t.words0 q)
    no_ten k t (kind_8_alone q z) = (t.taker q).0 z
    no_ten k t (kind_8_side_1 q z) = (t.taker q).1 z

    -- kinds 2 to 8: 13 is the lowest where the thing cannot, and nothing below 16 where it can
    pub above_13 : (k : ℕ) → Tens k → (k ≡ 1 → ⊥) → (r : ℕ) → StepCause b s (X k) r → 13 ≤ r
    above_13 k t o r (by_10 q) = absurd (no_ten k t q)
    above_13 k t o r (by_11 (malformed p q)) = absurd (o p)
    above_13 k t o r (by_11 (empty p q)) = absurd (o p)
    above_13 k t o r (by_11 (over_16 p q)) = absurd (o p)
    above_13 k t o r (by_11 (bad_word a p q d f)) = absurd (o p)
    above_13 k t o r (by_12 a p c d f) = absurd (o p)
    above_13 k t o r (by_13 q) = omega arith
    above_13 k t o r (by_14 m q) = omega arith
    above_13 k t o r (by_15 m q f) = omega arith
    above_13 k t o r (by_16 m p q f g) = omega arith
    above_13 k t o r (by_17 q) = omega arith

    pub low_13 : (k : ℕ) → Tens k → (k ≡ 1 → ⊥) → (Can b s (X k) → ⊥) → Low k 13
    low_13 k t o c = (by_13 c, above_13 k t o)

    pub above_17 : (k : ℕ) → (k ≡ 5 → ⊥) → ((r : ℕ) → StepCause b s (X k) r → 13 ≤ r) → Can b s (X k) → (r : ℕ) → StepCause b s (X k) r → 17 ≤ r
    above_17 k o f c r (by_10 q) = absurd (let z = f 10 (by_10 q) in omega arith)
    above_17 k o f c r (by_11 q) = absurd (let z = f 11 (by_11 q) in omega arith)
    above_17 k o f c r (by_12 a p g d v) = absurd (let z = f 12 (by_12 a p g d v) in omega arith)
    above_17 k o f c r (by_13 q) = absurd (q c)
    above_17 k o f c r (by_14 m q) = absurd (o m.meets)
    above_17 k o f c r (by_15 m q g) = absurd (o m.meets)
    above_17 k o f c r (by_16 m p q g v) = absurd (o m.meets)
    above_17 k o f c r (by_17 q) = omega arith

    pub good : (k : ℕ) (a : Moved) → (k ≡ 5 → ⊥) → ((r : ℕ) → StepCause b s (X k) r → 13 ≤ r) → Can b s (X k) → every short a.core.contents.particles ≡ true
        → (limits a.core ≡ false → Row17 b s (X k)) → (Row17 b s (X k) → limits a.core ≡ false) → Good k a
    good k a o f c sh p q = record {
      late = λ r z. let y = above_17 k o f c r z in omega arith;
      long = λ z. absurd (false≢true (sym z ∙ sh));
      not_long = λ r z w. let y = above_17 k o f c r z in absurd (omega (arith, w));
      full = p;
      not_full = q;
    }

    abbrev pub o : CoreOk (setting b n) (counts s) K
    o = side_ok b s e n h

    pub parts_short : every short K.contents.particles ≡ true
    parts_short = core_short (setting b n) (counts s) K o

    pub few_parts : length K.contents.particles ≤ 32
    few_parts = leb-true _ _ (fst _ _ o.contents.few)

    pub few_boxes : length K.contents.boxes ≤ 16
    few_boxes = leb-true _ _ (fst _ _ (snd _ _ o.contents.few))

    pub few_minted : K.contents.minted ≤ 256
    few_minted = leb-true _ _ (snd _ _ (snd _ _ o.contents.few))

    -- a core whose sizes are no larger passes no limit
    roomy : (u : Core) → length u.contents.particles ≤ 32 → length u.contents.boxes ≤ 16 → u.contents.minted ≤ 256 → length u.lobby ≤ 16 → length u.shelf ≤ 32 → limits u ≡ false → ⊥
    roomy u p q r l t z = limit_cases u z (λ y. omega arith) (λ y. omega arith) (λ y. omega arith) (λ y. omega arith) (λ y. omega arith)

    abbrev pub L : ℕ → Res Moved
    L k = local (setting b n) (known s) (shelf_of s) K (X k)

    -- KIND 2
    abbrev after_2 : Message → Core
    after_2 m = with_lobby (with_contents K (record { particles = K.contents.particles ++ (output 0 m.chan from_parent m.val ∷ []); boxes = K.contents.boxes; minted = K.contents.minted })) (remove K.lobby i)

    message_short : (m : Message) → get_elem? K.lobby i ≡ some m → leb (length m.val) 16 ≡ true
    unfolding wf_message wf_value is_value
    message_short m g = fst _ _ (fst _ _ (fst _ _ (get_every _ K.lobby i m o.lobby g)))

    is_down_lem : (t : Status) → is_down t ≡ true → t ≡ down
    is_down_lem down q = refl
    is_down_lem arrived q = absurd (false≢true q)
    is_down_lem leaving q = absurd (false≢true q)

    same_status : (m m' : Message) → get_elem? K.lobby i ≡ some m → get_elem? K.lobby i ≡ some m' → m ≡ m'
    same_status m m' p q = some_inj (sym p ∙ q)

    tens_2 : ws ≡ [] → j ≡ 0 → (m : Message) → get_elem? K.lobby i ≡ some m → (k : ℕ) → (k ≡ 2) ⊎ ((k ≡ 6) ⊎ (k ≡ 7)) → Tens k
    tens_2 w z m g k q = ⊎_elim (λ p. go p (by_2)) (λ q. ⊎_elim (λ p. go p by_6) (λ p. go p by_7) q) q
      where
        go : {k m : ℕ} → k ≡ m → Tens m → Tens k
        go p t = subst Tens (sym p) t

        by_2 : Tens 2
        by_2 = record {
          low = omega arith;
          high = omega arith;
          message = λ _. get_length K.lobby i m g;
          particle_i = λ q. absurd (false≢true q);
          box_j = λ q. absurd (false≢true q);
          particle_j = λ q. absurd (false≢true q);
          place = λ q. absurd (false≢true q);
          i0 = λ q. absurd (false≢true q);
          j0 = λ _. z;
          words0 = λ _. w;
          taker = λ q. absurd (omega arith);
        }

        by_6 : Tens 6
        by_6 = record {
          low = omega arith;
          high = omega arith;
          message = λ _. get_length K.lobby i m g;
          particle_i = λ q. absurd (false≢true q);
          box_j = λ q. absurd (false≢true q);
          particle_j = λ q. absurd (false≢true q);
          place = λ q. absurd (false≢true q);
          i0 = λ q. absurd (false≢true q);
          j0 = λ _. z;
          words0 = λ _. w;
          taker = λ q. absurd (omega arith);
        }

        by_7 : Tens 7
        by_7 = record {
          low = omega arith;
          high = omega arith;
          message = λ _. get_length K.lobby i m g;
          particle_i = λ q. absurd (false≢true q);
          box_j = λ q. absurd (false≢true q);
          particle_j = λ q. absurd (false≢true q);
          place = λ q. absurd (false≢true q);
          i0 = λ q. absurd (false≢true q);
          j0 = λ _. z;
          words0 = λ _. w;
          taker = λ q. absurd (omega arith);
        }

    full_2 : (m : Message) → limits (after_2 m) ≡ false → Row17 b s (X 2)
    full_2 m q = limit_cases (after_2 m) q
        (λ y. particles_down refl (subst (λ (z : ℕ). 32 < z) (length-append K.contents.particles (output 0 m.chan from_parent m.val ∷ [])) y))
        (λ y. absurd (let f = few_boxes in omega arith)) (λ y. absurd (let f = few_minted in omega arith))
        (λ y. absurd (let f = o.few_lobby in omega (arith, length_remove K.lobby i))) (λ y. absurd (let f = o.few_shelf in omega arith))

    not_full_2 : (m : Message) → Row17 b s (X 2) → limits (after_2 m) ≡ false
    not_full_2 m (particles_down q l) = over_parts (after_2 m) (subst (λ (z : ℕ). 32 < z) (sym (length-append K.contents.particles (output 0 m.chan from_parent m.val ∷ []))) l)
    not_full_2 m (particles_meet a l) = absurd (let z = a.meets in omega arith)
    not_full_2 m (boxes a l) = absurd (let z = a.meets in omega arith)
    not_full_2 m (minted a l) = absurd (let z = a.meets in omega arith)
    not_full_2 m (lobby_enter q l) = absurd (omega arith)
    not_full_2 m (lobby_pass q l) = absurd (omega arith)
    not_full_2 m (lobby_take q l) = absurd (omega arith)
    not_full_2 m (lobby_up q g t l) = absurd (omega arith)
    not_full_2 m (shelf q g t l) = absurd (omega arith)

    can_2 : (m : Message) → get_elem? K.lobby i ≡ some m → is_down m.status ≡ false → Can b s (X 2) → ⊥
    can_2 m g q (can_down {m = m'} p g' d) = false≢true (sym q ∙ ap is_down (ap (λ (y : Message). y.status) (same_status m m' g g') ∙ d))
    can_2 m g q (can_enter p) = omega arith
    can_2 m g q (can_up p g') = omega arith
    can_2 m g q (can_descend p a c d f v) = omega arith
    can_2 m g q (can_meet a c d f) = let z = a.meets in omega arith
    can_2 m g q (can_pass p a c d) = omega arith
    can_2 m g q (can_leave p a c) = omega arith
    can_2 m g q (can_take p a) = omega arith

    pub kind_2 : Caused (Low 2) (Good 2) (L 2)
    unfolding local inner choose go_down
    kind_2 =
        need_c (Low 2) (Good 2) _ 10 _ (λ q. low_10 2 (value_words refl (some_words ws q))) λ w.
        need_c (Low 2) (Good 2) _ 10 _ (λ q. low_10 2 (unused_j refl (eqb-false j 0 q))) λ z.
        pick_c (Low 2) (Good 2) K.lobby i _ (λ q. low_10 2 (no_message refl q)) λ m g.
        let t = tens_2 (no_words ws w) (eqb-true j 0 z) m g 2 (inl refl) in
        need_c (Low 2) (Good 2) _ 13 _ (λ q. low_13 2 t (λ y. omega arith) (can_2 m g q)) λ q.
        good 2 _ (λ y. omega arith) (above_13 2 t (λ y. omega arith)) (can_down refl g (is_down_lem m.status q))
        (every_append short K.contents.particles _ parts_short (every_one short (output 0 m.chan from_parent m.val) (message_short m g))) (full_2 m) (not_full_2 m)

    -- KIND 6
    none_17 : (k : ℕ) → (k ≡ 4) ⊎ (k ≡ 7) → Row17 b s (X k) → ⊥
    none_17 k z (particles_down q l) = ⊎_elim (λ y. omega arith) (λ y. omega arith) z
    none_17 k z (particles_meet m l) = let q = m.meets in ⊎_elim (λ y. omega arith) (λ y. omega arith) z
    none_17 k z (boxes m l) = let q = m.meets in ⊎_elim (λ y. omega arith) (λ y. omega arith) z
    none_17 k z (minted m l) = let q = m.meets in ⊎_elim (λ y. omega arith) (λ y. omega arith) z
    none_17 k z (lobby_enter q l) = ⊎_elim (λ y. omega arith) (λ y. omega arith) z
    none_17 k z (lobby_pass q l) = ⊎_elim (λ y. omega arith) (λ y. omega arith) z
    none_17 k z (lobby_take q l) = ⊎_elim (λ y. omega arith) (λ y. omega arith) z
    none_17 k z (lobby_up q g t l) = ⊎_elim (λ y. omega arith) (λ y. omega arith) z
    none_17 k z (shelf q g t l) = ⊎_elim (λ y. omega arith) (λ y. omega arith) z

    is_arrived_lem : (t : Status) → is_arrived t ≡ true → t ≡ arrived
    is_arrived_lem down q = absurd (false≢true q)
    is_arrived_lem arrived q = refl
    is_arrived_lem leaving q = absurd (false≢true q)

    is_leaving_lem : (t : Status) → is_leaving t ≡ true → t ≡ leaving
    is_leaving_lem down q = absurd (false≢true q)
    is_leaving_lem arrived q = absurd (false≢true q)
    is_leaving_lem leaving q = refl

    can_6 : (m : Message) → get_elem? K.lobby i ≡ some m → is_arrived m.status & eqb m.chan 1 ≡ false → Can b s (X 6) → ⊥
    can_6 m g q (can_pass {m = m'} p g' d c) = let y = same_status m m' g g' in
        false≢true (sym q ∙ both _ _ (ap is_arrived (ap (λ (y : Message). y.status) y ∙ d)) (eq-eqb m.chan 1 (ap (λ (y : Message). y.chan) y ∙ c)))
    can_6 m g q (can_enter p) = omega arith
    can_6 m g q (can_down p a c) = omega arith
    can_6 m g q (can_up p g') = omega arith
    can_6 m g q (can_descend p a c d f v) = omega arith
    can_6 m g q (can_meet a c d f) = let z = a.meets in omega arith
    can_6 m g q (can_leave p a c) = omega arith
    can_6 m g q (can_take p a) = omega arith

    -- the message turns in its place, and the copies come
    abbrev after_6 : Message → Core
    after_6 m = with_lobby K (set K.lobby i (record { status = leaving; chan = 1; val = m.val }) ++ copied (wrapper_of b).copies m.val)

    length_6 : (m : Message) → length (after_6 m).lobby ≡ length K.lobby + copy_count b
    length_6 m = let t : Message = record { status = leaving; chan = 1; val = m.val } in
        omega (arith, length-append (set K.lobby i t) (copied (wrapper_of b).copies m.val), length-set K.lobby i t, length_copied (wrapper_of b).copies m.val, copy_count_lem b.wrapper)

    full_6 : (m : Message) → limits (after_6 m) ≡ false → Row17 b s (X 6)
    full_6 m q = limit_cases (after_6 m) q
        (λ y. absurd (let f = few_parts in omega arith)) (λ y. absurd (let f = few_boxes in omega arith)) (λ y. absurd (let f = few_minted in omega arith))
        (λ y. lobby_pass refl (subst (λ (z : ℕ). 16 < z) (length_6 m) y)) (λ y. absurd (let f = o.few_shelf in omega arith))

    not_full_6 : (m : Message) → Row17 b s (X 6) → limits (after_6 m) ≡ false
    not_full_6 m (particles_down q l) = absurd (omega arith)
    not_full_6 m (particles_meet a l) = absurd (let z = a.meets in omega arith)
    not_full_6 m (boxes a l) = absurd (let z = a.meets in omega arith)
    not_full_6 m (minted a l) = absurd (let z = a.meets in omega arith)
    not_full_6 m (lobby_enter q l) = absurd (omega arith)
    not_full_6 m (lobby_pass q l) = over_lobby (after_6 m) (subst (λ (z : ℕ). 16 < z) (sym (length_6 m)) l)
    not_full_6 m (lobby_take q l) = absurd (omega arith)
    not_full_6 m (lobby_up q g t l) = absurd (omega arith)
    not_full_6 m (shelf q g t l) = absurd (omega arith)

    pub kind_6 : Caused (Low 6) (Good 6) (L 6)
    unfolding local inner choose pass
    kind_6 =
        need_c (Low 6) (Good 6) _ 10 _ (λ q. low_10 6 (value_words refl (some_words ws q))) λ w.
        need_c (Low 6) (Good 6) _ 10 _ (λ q. low_10 6 (unused_j refl (eqb-false j 0 q))) λ z.
        pick_c (Low 6) (Good 6) K.lobby i _ (λ q. low_10 6 (no_message refl q)) λ m g.
        let t = tens_2 (no_words ws w) (eqb-true j 0 z) m g 6 (inr (inl refl)) in
        need_c (Low 6) (Good 6) _ 13 _ (λ q. low_13 6 t (λ y. omega arith) (can_6 m g q)) λ q.
        good 6 _ (λ y. omega arith) (above_13 6 t (λ y. omega arith)) (can_pass refl g (is_arrived_lem m.status (fst _ _ q)) (eqb-true m.chan 1 (snd _ _ q))) parts_short
        (full_6 m) (not_full_6 m)

    -- KIND 7
    can_7 : (m : Message) → get_elem? K.lobby i ≡ some m → is_leaving m.status ≡ false → Can b s (X 7) → ⊥
    can_7 m g q (can_leave {m = m'} p g' d) = false≢true (sym q ∙ ap is_leaving (ap (λ (y : Message). y.status) (same_status m m' g g') ∙ d))
    can_7 m g q (can_enter p) = omega arith
    can_7 m g q (can_down p a c) = omega arith
    can_7 m g q (can_up p g') = omega arith
    can_7 m g q (can_descend p a c d f v) = omega arith
    can_7 m g q (can_meet a c d f) = let z = a.meets in omega arith
    can_7 m g q (can_pass p a c d) = omega arith
    can_7 m g q (can_take p a) = omega arith

    pub kind_7 : Caused (Low 7) (Good 7) (L 7)
    unfolding local inner choose leave
    kind_7 =
        need_c (Low 7) (Good 7) _ 10 _ (λ q. low_10 7 (value_words refl (some_words ws q))) λ w.
        need_c (Low 7) (Good 7) _ 10 _ (λ q. low_10 7 (unused_j refl (eqb-false j 0 q))) λ z.
        pick_c (Low 7) (Good 7) K.lobby i _ (λ q. low_10 7 (no_message refl q)) λ m g.
        let t = tens_2 (no_words ws w) (eqb-true j 0 z) m g 7 (inr (inr refl)) in
        need_c (Low 7) (Good 7) _ 13 _ (λ q. low_13 7 t (λ y. omega arith) (can_7 m g q)) λ q.
        good 7 _ (λ y. omega arith) (above_13 7 t (λ y. omega arith)) (can_leave refl g (is_leaving_lem m.status q)) parts_short
        (λ y. absurd (roomy _ few_parts few_boxes few_minted (let l = length_remove K.lobby i in let f = o.few_lobby in omega arith) o.few_shelf y))
        (λ y. absurd (none_17 7 (inr refl) y))

    -- KIND 1
    abbrev after_1 : Core
    after_1 = with_lobby K (K.lobby ++ (copied (wrapper_of b).copies ws ++ (record { status = down; chan = 0; val = ws } ∷ [])))

    length_1 : length after_1.lobby ≡ length K.lobby + 1 + copy_count b
    length_1 = let M : List Message = record { status = down; chan = 0; val = ws } ∷ [] in
        omega (arith, length-append K.lobby (copied (wrapper_of b).copies ws ++ M), length-append (copied (wrapper_of b).copies ws) M, length_copied (wrapper_of b).copies ws, copy_count_lem b.wrapper)

    tens_1 : i ≡ 0 → j ≡ 0 → Tens 1
    tens_1 p q = record {
      low = omega arith;
      high = omega arith;
      message = λ q. absurd (false≢true q);
      particle_i = λ q. absurd (false≢true q);
      box_j = λ q. absurd (false≢true q);
      particle_j = λ q. absurd (false≢true q);
      place = λ q. absurd (false≢true q);
      i0 = λ _. p;
      j0 = λ _. q;
      words0 = λ q. absurd (false≢true q);
      taker = λ q. absurd (omega arith);
    }

    no_value : is_value ws ≡ false → Row11 (X 1)
    unfolding is_value
    no_value q = ⊎_elim (λ z. over_16 refl (leb-false (length ws) 16 z)) (λ z. malformed refl z) (one_fails _ _ q)

    value_11 : is_value ws ≡ true → Row11 (X 1) → ⊥
    unfolding is_value shaped items
    value_11 q (malformed p z) = false≢true (sym z ∙ snd _ _ q)
    value_11 q (empty p z) = false≢true (snd _ _ (rw z at q))
    value_11 q (over_16 p z) = let y = leb-true (length ws) 16 (fst _ _ q) in omega arith
    value_11 q (bad_word k {w = w} p g c d) = ⊎_elim (λ z. false≢true (sym d ∙ z)) (λ z. false≢true (sym c ∙ z)) (alt _ _ (get_every _ ws k w (shaped_words ws (snd _ _ q)) g))

    abbrev may : ℕ → Bool
    may w = not (is_minted w) or known s w

    by_twelve : every may ws ≡ false → StepCause b s (X 1) 12
    by_twelve q =
        let (k, w, g, z) = every_fails may ws q in
        let y = neither _ _ z in
        by_12 k {w = w} refl g (not_false' (is_minted w) y.0) y.1

    no_twelve : every may ws ≡ true → (k w : ℕ) → get_elem? ws k ≡ some w → is_minted w ≡ true → known s w ≡ false → ⊥
    unfolding ◌or◌
    no_twelve q k w g m z = false≢true (rw (m, z) at (get_every may ws k w q g))

    above_11 : Tens 1 → (r : ℕ) → StepCause b s (X 1) r → 11 ≤ r
    above_11 t r (by_10 h) = absurd (no_ten 1 t h)
    above_11 t r (by_11 h) = omega arith
    above_11 t r (by_12 p a c d f) = omega arith
    above_11 t r (by_13 h) = omega arith
    above_11 t r (by_14 m h) = omega arith
    above_11 t r (by_15 m h f) = omega arith
    above_11 t r (by_16 m p h f g) = omega arith
    above_11 t r (by_17 h) = omega arith

    above_12 : Tens 1 → is_value ws ≡ true → (r : ℕ) → StepCause b s (X 1) r → 12 ≤ r
    above_12 t v r (by_10 h) = absurd (no_ten 1 t h)
    above_12 t v r (by_11 h) = absurd (value_11 v h)
    above_12 t v r (by_12 p a c d f) = omega arith
    above_12 t v r (by_13 h) = omega arith
    above_12 t v r (by_14 m h) = omega arith
    above_12 t v r (by_15 m h f) = omega arith
    above_12 t v r (by_16 m p h f g) = omega arith
    above_12 t v r (by_17 h) = omega arith

    above_1 : Tens 1 → is_value ws ≡ true → every may ws ≡ true → (r : ℕ) → StepCause b s (X 1) r → 13 ≤ r
    above_1 t v w r (by_10 h) = absurd (no_ten 1 t h)
    above_1 t v w r (by_11 h) = absurd (value_11 v h)
    above_1 t v w r (by_12 p {w = y} a c d f) = absurd (no_twelve w p y c d f)
    above_1 t v w r (by_13 h) = omega arith
    above_1 t v w r (by_14 m h) = omega arith
    above_1 t v w r (by_15 m h f) = omega arith
    above_1 t v w r (by_16 m p h f g) = omega arith
    above_1 t v w r (by_17 h) = omega arith

    full_1 : limits after_1 ≡ false → Row17 b s (X 1)
    full_1 q = limit_cases after_1 q
        (λ y. absurd (let f = few_parts in omega arith)) (λ y. absurd (let f = few_boxes in omega arith)) (λ y. absurd (let f = few_minted in omega arith))
        (λ y. lobby_enter refl (subst (λ (z : ℕ). 16 < z) length_1 y)) (λ y. absurd (let f = o.few_shelf in omega arith))

    not_full_1 : Row17 b s (X 1) → limits after_1 ≡ false
    not_full_1 (particles_down q l) = absurd (omega arith)
    not_full_1 (particles_meet a l) = absurd (let z = a.meets in omega arith)
    not_full_1 (boxes a l) = absurd (let z = a.meets in omega arith)
    not_full_1 (minted a l) = absurd (let z = a.meets in omega arith)
    not_full_1 (lobby_enter q l) = over_lobby after_1 (subst (λ (z : ℕ). 16 < z) (sym length_1) l)
    not_full_1 (lobby_pass q l) = absurd (omega arith)
    not_full_1 (lobby_take q l) = absurd (omega arith)
    not_full_1 (lobby_up q g t l) = absurd (omega arith)
    not_full_1 (shelf q g t l) = absurd (omega arith)

    pub kind_1 : Caused (Low 1) (Good 1) (L 1)
    unfolding local choose enter
    kind_1 =
        need_c (Low 1) (Good 1) _ 10 _ (λ q. ⊎_elim (λ z. low_10 1 (unused_i refl (eqb-false i 0 z))) (λ z. low_10 1 (unused_j refl (eqb-false j 0 z))) (one_fails _ _ q)) λ z.
        let t = tens_1 (eqb-true i 0 (fst _ _ z)) (eqb-true j 0 (snd _ _ z)) in
        need_c (Low 1) (Good 1) _ 11 _ (λ q. (by_11 (no_value q), above_11 t)) λ v.
        need_c (Low 1) (Good 1) _ 12 _ (λ q. (by_twelve q, above_12 t v)) λ w.
        good 1 _ (λ y. omega arith) (above_1 t v w) (can_enter refl) parts_short full_1 not_full_1

    -- KIND 3
    shelves_where : shelves (wrapper_of b) n ≡ true → (b.wrapper ≡ 2) × (n ≡ 1)
    shelves_where r = ⊎_elim (λ z. absurd (false≢true (subst (λ (rs : List Route). one_of (λ r. eqb r.source n) rs ≡ true) (alone_routes b.wrapper z.0) r)))
        (λ z. ⊎_elim (λ y. y) (λ y. absurd (false≢true (subst (λ (m : ℕ). shelves (described 2) m ≡ true) y.1 (subst (λ (w : ℕ). shelves (described w) n ≡ true) y.0 r)))) z)
        (places b.wrapper n h)

    where_shelves : b.wrapper ≡ 2 → n ≡ 1 → shelves (wrapper_of b) n ≡ true
    where_shelves p q = subst (λ (w : ℕ). shelves (described w) n ≡ true) (sym p) (subst (λ (m : ℕ). shelves (described 2) m ≡ true) (sym q) refl)

    to_shelf : (ch : ℕ) → shelves (wrapper_of b) n & eqb ch 2 ≡ true → ToShelf b (X 3) ch
    to_shelf ch q = let z = shelves_where (fst _ _ q) in (z.0, z.1, eqb-true ch 2 (snd _ _ q))

    shelf_to : (ch : ℕ) → ToShelf b (X 3) ch → shelves (wrapper_of b) n & eqb ch 2 ≡ true
    shelf_to ch t = both _ _ (where_shelves t.0 t.1) (eq-eqb ch 2 t.2)

    tens_3 : ws ≡ [] → j ≡ 0 → (p : Particle) → get_elem? K.contents.particles i ≡ some p → Tens 3
    tens_3 w z p g = record {
      low = omega arith;
      high = omega arith;
      message = λ q. absurd (false≢true q);
      particle_i = λ _. get_length K.contents.particles i p g;
      box_j = λ q. absurd (false≢true q);
      particle_j = λ q. absurd (false≢true q);
      place = λ q. absurd (false≢true q);
      i0 = λ q. absurd (false≢true q);
      j0 = λ _. z;
      words0 = λ _. w;
      taker = λ q. absurd (omega arith);
    }

    box_of : Particle → ℕ
    box_of (output a c g v) = a
    box_of (input a m vs) = a

    chan_of : Particle → ℕ
    chan_of (output a c g v) = c
    chan_of (input a m vs) = 0

    mark : Particle → Tag
    mark (output a c g v) = g
    mark (input a m vs) = within

    is_parent_lem : (g : Tag) → is_to_parent g ≡ true → g ≡ to_parent
    is_parent_lem within q = absurd (false≢true q)
    is_parent_lem to_parent q = refl
    is_parent_lem from_parent q = absurd (false≢true q)
    is_parent_lem (to_child m) q = absurd (false≢true q)
    is_parent_lem (from_child m) q = absurd (false≢true q)

    can_3 : (p : Particle) → get_elem? K.contents.particles i ≡ some p → is_to_parent (mark p) ≡ false → Can b s (X 3) → ⊥
    unfolding mark
    can_3 p g q (can_up {at = a} {ch = c} {v = v} k g') =
        let y : p ≡ output a c to_parent v = some_inj (sym g ∙ g') in
        false≢true (sym q ∙ ap (λ (z : Particle). is_to_parent (mark z)) y)
    can_3 p g q (can_enter k) = omega arith
    can_3 p g q (can_down k a c) = omega arith
    can_3 p g q (can_descend k a c d f v) = omega arith
    can_3 p g q (can_meet a c d f) = let z = a.meets in omega arith
    can_3 p g q (can_pass k a c d) = omega arith
    can_3 p g q (can_leave k a c) = omega arith
    can_3 p g q (can_take k a) = omega arith

    part_fact : (a c : ℕ) (g : Tag) (v : List ℕ) → get_elem? K.contents.particles i ≡ some (output a c g v) → (a < length K.contents.boxes) × (leb (length v) 16 ≡ true)
    unfolding wf_particle wf_value is_value
    part_fact a c g v q = let z = get_every _ K.contents.particles i (output a c g v) o.contents.particles q in
        (ltb-true a _ (fst _ _ z), fst _ _ (fst _ _ (snd _ _ (snd _ _ (snd _ _ z)))))

    -- up from box a
    abbrev gone_core : Core
    gone_core = with_contents K (with_particles K.contents (remove K.contents.particles i))

    abbrev shelved : List ℕ → Core
    shelved v = record { contents = gone_core.contents; lobby = K.lobby; shelf = K.shelf ++ (v ∷ []); taken = K.taken }

    abbrev landed : ℕ → List ℕ → Core
    landed ch v = with_lobby gone_core (K.lobby ++ (record { status = arrived; chan = ch; val = v } ∷ []))

    fewer : length (remove K.contents.particles i) ≤ 32
    fewer =
        let l = length_remove K.contents.particles i in
        let f = few_parts in
        omega arith

    gone_short : every short (remove K.contents.particles i) ≡ true
    gone_short = every_remove short K.contents.particles i parts_short

    up_chan : (ch ch' : ℕ) (v v' : List ℕ) → get_elem? K.contents.particles i ≡ some (output 0 ch to_parent v) → get_elem? K.contents.particles i ≡ some (output 0 ch' to_parent v') → ch' ≡ ch
    unfolding chan_of
    up_chan ch ch' v v' p q = let y : output 0 ch' to_parent v' ≡ output 0 ch to_parent v = some_inj (sym q ∙ p) in ap chan_of y

    full_shelf : (ch : ℕ) (v : List ℕ) → get_elem? K.contents.particles i ≡ some (output 0 ch to_parent v) → ToShelf b (X 3) ch → limits (shelved v) ≡ false → Row17 b s (X 3)
    full_shelf ch v g t q = limit_cases (shelved v) q
        (λ y. absurd (let f = fewer in omega arith)) (λ y. absurd (let f = few_boxes in omega arith)) (λ y. absurd (let f = few_minted in omega arith))
        (λ y. absurd (let f = o.few_lobby in omega arith)) (λ y. shelf refl g t (subst (λ (z : ℕ). 32 < z) (length-append K.shelf (v ∷ [])) y))

    full_land : (ch : ℕ) (v : List ℕ) → get_elem? K.contents.particles i ≡ some (output 0 ch to_parent v) → (ToShelf b (X 3) ch → ⊥) → limits (landed ch v) ≡ false → Row17 b s (X 3)
    full_land ch v g t q = limit_cases (landed ch v) q
        (λ y. absurd (let f = fewer in omega arith)) (λ y. absurd (let f = few_boxes in omega arith)) (λ y. absurd (let f = few_minted in omega arith))
        (λ y. lobby_up refl g t (subst (λ (z : ℕ). 16 < z) (length-append K.lobby (record { status = arrived; chan = ch; val = v } ∷ [])) y)) (λ y. absurd (let f = o.few_shelf in omega arith))

    not_full_shelf : (ch : ℕ) (v : List ℕ) → get_elem? K.contents.particles i ≡ some (output 0 ch to_parent v) → ToShelf b (X 3) ch → Row17 b s (X 3) → limits (shelved v) ≡ false
    not_full_shelf ch v g t (particles_down q l) = absurd (omega arith)
    not_full_shelf ch v g t (particles_meet a l) = absurd (let z = a.meets in omega arith)
    not_full_shelf ch v g t (boxes a l) = absurd (let z = a.meets in omega arith)
    not_full_shelf ch v g t (minted a l) = absurd (let z = a.meets in omega arith)
    not_full_shelf ch v g t (lobby_enter q l) = absurd (omega arith)
    not_full_shelf ch v g t (lobby_pass q l) = absurd (omega arith)
    not_full_shelf ch v g t (lobby_take q l) = absurd (omega arith)
    not_full_shelf ch v g t (lobby_up {ch = d} {v = u} q g' t' l) = absurd (t' (t.0, t.1, up_chan ch d v u g g' ∙ t.2))
    not_full_shelf ch v g t (shelf q g' t' l) = over_shelf (shelved v) (subst (λ (z : ℕ). 32 < z) (sym (length-append K.shelf (v ∷ []))) l)

    not_full_land : (ch : ℕ) (v : List ℕ) → get_elem? K.contents.particles i ≡ some (output 0 ch to_parent v) → (ToShelf b (X 3) ch → ⊥) → Row17 b s (X 3) → limits (landed ch v) ≡ false
    not_full_land ch v g t (particles_down q l) = absurd (omega arith)
    not_full_land ch v g t (particles_meet a l) = absurd (let z = a.meets in omega arith)
    not_full_land ch v g t (boxes a l) = absurd (let z = a.meets in omega arith)
    not_full_land ch v g t (minted a l) = absurd (let z = a.meets in omega arith)
    not_full_land ch v g t (lobby_enter q l) = absurd (omega arith)
    not_full_land ch v g t (lobby_pass q l) = absurd (omega arith)
    not_full_land ch v g t (lobby_take q l) = absurd (omega arith)
    not_full_land ch v g t (lobby_up q g' t' l) = over_lobby (landed ch v) (subst (λ (z : ℕ). 16 < z) (sym (length-append K.lobby (record { status = arrived; chan = ch; val = v } ∷ []))) l)
    not_full_land ch v g t (shelf {ch = d} {v = u} q g' t' l) = absurd (t (t'.0, t'.1, sym (up_chan ch d v u g g') ∙ t'.2))

    not_full_set : (a ch : ℕ) (v : List ℕ) → get_elem? K.contents.particles i ≡ some (output (suc a) ch to_parent v) → Row17 b s (X 3) → ⊥
    unfolding box_of
    not_full_set a ch v g (particles_down q l) = omega arith
    not_full_set a ch v g (particles_meet m l) = let z = m.meets in omega arith
    not_full_set a ch v g (boxes m l) = let z = m.meets in omega arith
    not_full_set a ch v g (minted m l) = let z = m.meets in omega arith
    not_full_set a ch v g (lobby_enter q l) = omega arith
    not_full_set a ch v g (lobby_pass q l) = omega arith
    not_full_set a ch v g (lobby_take q l) = omega arith
    not_full_set a ch v g (lobby_up {ch = d} {v = u} q g' t l) =
        let y : output (suc a) ch to_parent v ≡ output 0 d to_parent u = some_inj (sym g ∙ g') in
        let z : suc a ≡ 0 = ap box_of y in
        omega arith
    not_full_set a ch v g (shelf {ch = d} {v = u} q g' t l) =
        let y : output (suc a) ch to_parent v ≡ output 0 d to_parent u = some_inj (sym g ∙ g') in
        let z : suc a ≡ 0 = ap box_of y in
        omega arith

    up_from_lem : Tens 3 → (a ch : ℕ) (v : List ℕ) → get_elem? K.contents.particles i ≡ some (output a ch to_parent v) → Caused (Low 3) (Good 3) (up_from (setting b n) K i a ch v)
    unfolding up_from
    up_from_lem t zero ch v g = choose_c (Low 3) (Good 3) (shelves (wrapper_of b) n & eqb ch 2) _ _
        (λ q. good 3 _ (λ y. omega arith) (above_13 3 t (λ y. omega arith)) (can_up refl g) gone_short (full_shelf ch v g (to_shelf ch q)) (not_full_shelf ch v g (to_shelf ch q)))
        (λ q. good 3 _ (λ y. omega arith) (above_13 3 t (λ y. omega arith)) (can_up refl g) gone_short (full_land ch v g (λ y. false≢true (sym q ∙ shelf_to ch y))) (not_full_land ch v g (λ y. false≢true (sym q ∙ shelf_to ch y))))
    up_from_lem t (suc a) ch v g = pick_c (Low 3) (Good 3) K.contents.boxes (suc a) _ (λ q. absurd (let f = (part_fact (suc a) ch to_parent v g).0 in omega arith)) λ x gx.
        good 3 _ (λ y. omega arith) (above_13 3 t (λ y. omega arith)) (can_up refl g) (every_set short K.contents.particles i (output x.parent ch (from_child x.name) v) parts_short (part_fact (suc a) ch to_parent v g).1)
        (λ y. absurd (roomy _ (subst (λ (z : ℕ). z ≤ 32) (sym (length-set K.contents.particles i _)) few_parts) few_boxes few_minted o.few_lobby o.few_shelf y))
        (λ y. absurd (not_full_set a ch v g y))

    up_part : Tens 3 → (p : Particle) → get_elem? K.contents.particles i ≡ some p → Caused (Low 3) (Good 3) (up_particle (setting b n) K i p)
    unfolding up_particle mark
    up_part t (output a c g v) q = need_c (Low 3) (Good 3) (is_to_parent g) 13 _ (λ z. low_13 3 t (λ y. omega arith) (can_3 (output a c g v) q z))
        (λ z. up_from_lem t a c v (subst (λ (y : Tag). get_elem? K.contents.particles i ≡ some (output a c y v)) (is_parent_lem g z) q))
    up_part t (input a m vs) q = low_13 3 t (λ y. omega arith) (can_3 (input a m vs) q refl)

    pub kind_3 : Caused (Low 3) (Good 3) (L 3)
    unfolding local inner choose up
    kind_3 =
        need_c (Low 3) (Good 3) _ 10 _ (λ q. low_10 3 (value_words refl (some_words ws q))) λ w.
        need_c (Low 3) (Good 3) _ 10 _ (λ q. low_10 3 (unused_j refl (eqb-false j 0 q))) λ z.
        pick_c (Low 3) (Good 3) K.contents.particles i _ (λ q. low_10 3 (no_particle_i refl q)) λ p g.
        up_part (tens_3 (no_words ws w) (eqb-true j 0 z) p g) p g

    -- KIND 4
    tens_4 : ws ≡ [] → (p : Particle) → get_elem? K.contents.particles i ≡ some p → (c : Box) → get_elem? K.contents.boxes j ≡ some c → Tens 4
    tens_4 w p g c gc = record {
      low = omega arith;
      high = omega arith;
      message = λ q. absurd (false≢true q);
      particle_i = λ _. get_length K.contents.particles i p g;
      box_j = λ _. get_length K.contents.boxes j c gc;
      particle_j = λ q. absurd (false≢true q);
      place = λ q. absurd (false≢true q);
      i0 = λ q. absurd (false≢true q);
      j0 = λ q. absurd (false≢true q);
      words0 = λ _. w;
      taker = λ q. absurd (omega arith);
    }

    is_child_lem : (g : Tag) (m : ℕ) → is_to_child g m ≡ true → g ≡ to_child m
    is_child_lem within m q = absurd (false≢true q)
    is_child_lem to_parent m q = absurd (false≢true q)
    is_child_lem from_parent m q = absurd (false≢true q)
    is_child_lem (to_child k) m q = ap to_child (eqb-true k m q)
    is_child_lem (from_child k) m q = absurd (false≢true q)

    fits_4 : Box → Particle → Bool
    fits_4 x p = not (eqb j 0) & (eqb x.parent (box_of p) & is_to_child (mark p) x.name)

    can_4 : (p : Particle) → get_elem? K.contents.particles i ≡ some p → (x : Box) → get_elem? K.contents.boxes j ≡ some x → fits_4 x p ≡ false → Can b s (X 4) → ⊥
    unfolding fits_4 box_of mark
    can_4 p g x gx q (can_descend {at = a} {ch = c} {n = m} {v = v} {c = d} k g' gd jn pe ne) =
        let y : p ≡ output a c (to_child m) v = some_inj (sym g ∙ g') in
        let w : x ≡ d = some_inj (sym gx ∙ gd) in
        false≢true (sym q ∙ both _ _ (ap not (ne_eqb j 0 jn)) (both _ _
        (eq-eqb x.parent (box_of p) (ap (λ (z : Box). z.parent) w ∙ pe ∙ sym (ap box_of y)))
        (ap (λ (z : Particle). is_to_child (mark z) x.name) y ∙ eq-eqb m x.name (sym (ap (λ (z : Box). z.name) w ∙ ne)))))
    can_4 p g x gx q (can_enter k) = omega arith
    can_4 p g x gx q (can_down k a c) = omega arith
    can_4 p g x gx q (can_up k a) = omega arith
    can_4 p g x gx q (can_meet a c d f) = let z = a.meets in omega arith
    can_4 p g x gx q (can_pass k a c d) = omega arith
    can_4 p g x gx q (can_leave k a c) = omega arith
    can_4 p g x gx q (can_take k a) = omega arith

    descend_part : Tens 4 → (p : Particle) → get_elem? K.contents.particles i ≡ some p → (x : Box) → get_elem? K.contents.boxes j ≡ some x → Caused (Low 4) (Good 4) (descend_particle K i j x p)
    unfolding descend_particle fits_4 box_of mark ◌&◌
    descend_part t (output a c g v) q x gx = need_c (Low 4) (Good 4) _ 13 _ (λ z. low_13 4 t (λ y. omega arith) (can_4 (output a c g v) q x gx z))
        (λ z. good 4 _ (λ y. omega arith) (above_13 4 t (λ y. omega arith))
        (can_descend refl (subst (λ (y : Tag). get_elem? K.contents.particles i ≡ some (output a c y v)) (is_child_lem g x.name (snd (eqb x.parent a) _ (snd (not (eqb j 0)) _ z))) q) gx
        (eqb-false j 0 (not_true' (eqb j 0) (fst (not (eqb j 0)) _ z))) (eqb-true x.parent a (fst (eqb x.parent a) _ (snd (not (eqb j 0)) _ z))) refl)
        (every_set short K.contents.particles i (output j c from_parent v) parts_short (part_fact a c g v q).1)
        (λ y. absurd (roomy _ (subst (λ (z : ℕ). z ≤ 32) (sym (length-set K.contents.particles i _)) few_parts) few_boxes few_minted o.few_lobby o.few_shelf y))
        (λ y. absurd (none_17 4 (inl refl) y)))
    descend_part t (input a m vs) q x gx = low_13 4 t (λ y. omega arith) (can_4 (input a m vs) q x gx (never (not (eqb j 0)) (eqb x.parent a)))
      where
        never : (a b : Bool) → a & (b & false) ≡ false
        never true true = refl
        never true false = refl
        never false b = refl

    pub kind_4 : Caused (Low 4) (Good 4) (L 4)
    unfolding local inner choose descend
    kind_4 =
        need_c (Low 4) (Good 4) _ 10 _ (λ q. low_10 4 (value_words refl (some_words ws q))) λ w.
        pick_c (Low 4) (Good 4) K.contents.particles i _ (λ q. low_10 4 (no_particle_i refl q)) λ p g.
        pick_c (Low 4) (Good 4) K.contents.boxes j _ (λ q. low_10 4 (no_box_j refl q)) λ x gx.
        descend_part (tens_4 (no_words ws w) p g x gx) p g x gx

    -- KIND 8
    route_none : (m : ℕ) → route_to (wrapper_of b).routes n j ≡ refuse m → (m ≡ 10) × Row10 b s (X 8)
    unfolding route_to choose ◌&◌
    route_none m q = ⊎_elim (λ z. (ten (subst (λ (rs : List Route). route_to rs n j ≡ refuse m) (alone_routes b.wrapper z.0) q), kind_8_alone refl z.0))
        (λ y. ⊎_elim (λ z. (ten (subst (λ (k : ℕ). route_to (described 2).routes k j ≡ refuse m) z.1 (subst (λ (w : ℕ). route_to (described w).routes n j ≡ refuse m) z.0 q)), kind_8_side_1 refl z.1))
        (λ z. on_j (eqb 0 j) refl (subst (λ (k : ℕ). route_to (described 2).routes k j ≡ refuse m) z.1 (subst (λ (w : ℕ). route_to (described w).routes n j ≡ refuse m) z.0 q))) y)
        (places b.wrapper n h)
      where
        ten : {m : ℕ} → ◌≡◌ {A = Res Route} (refuse 10) (refuse m) → m ≡ 10
        ten q = cc

        on_j : (t : Bool) → eqb 0 j ≡ t → ◌≡◌ {A = Res Route} (choose t (done (record { source = 1; receiver = 2; j = 0 })) (refuse 10)) (refuse m) → (m ≡ 10) × Row10 b s (X 8)
        on_j true p q = absurd (clash (sym q))
        on_j false p q = (ten q, unused_j refl (λ z. eqb-false 0 j p (sym z)))

    route_some : (r : Route) → route_to (wrapper_of b).routes n j ≡ done r → (r.source ≡ 1) × (b.wrapper ≡ 2) × (n ≡ 2) × (j ≡ 0)
    unfolding route_to choose ◌&◌
    route_some r q = ⊎_elim (λ z. absurd (clash (subst (λ (rs : List Route). route_to rs n j ≡ done r) (alone_routes b.wrapper z.0) q)))
        (λ y. ⊎_elim (λ z. absurd (clash (subst (λ (k : ℕ). route_to (described 2).routes k j ≡ done r) z.1 (subst (λ (w : ℕ). route_to (described w).routes n j ≡ done r) z.0 q))))
        (λ z. on_j (eqb 0 j) refl z (subst (λ (k : ℕ). route_to (described 2).routes k j ≡ done r) z.1 (subst (λ (w : ℕ). route_to (described w).routes n j ≡ done r) z.0 q))) y)
        (places b.wrapper n h)
      where
        on_j : (t : Bool) → eqb 0 j ≡ t → (b.wrapper ≡ 2) × (n ≡ 2) → ◌≡◌ {A = Res Route} (choose t (done (record { source = 1; receiver = 2; j = 0 })) (refuse 10)) (done r) → (r.source ≡ 1) × (b.wrapper ≡ 2) × (n ≡ 2) × (j ≡ 0)
        on_j true p z q = (ap (λ (y : Route). y.source) (sym (done-is q)), z.0, z.1, sym (eqb-true 0 j p))
          where
            done-is : {a c : Route} → ◌≡◌ {A = Res Route} (done a) (done c) → a ≡ c
            done-is e = cc
        on_j false p z q = absurd (clash q)

    tens_8 : ws ≡ [] → (b.wrapper ≡ 2) × (n ≡ 2) × (j ≡ 0) → (v : List ℕ) → get_elem? (side s 1).core.shelf i ≡ some v → Tens 8
    tens_8 w z v g = record {
      low = omega arith;
      high = omega arith;
      message = λ q. absurd (false≢true q);
      particle_i = λ q. absurd (false≢true q);
      box_j = λ q. absurd (false≢true q);
      particle_j = λ q. absurd (false≢true q);
      place = λ _. get_length (side s 1).core.shelf i v g;
      i0 = λ q. absurd (false≢true q);
      j0 = λ _. z.2;
      words0 = λ _. w;
      taker = λ _. ((λ q. let y = z.0 in ⊎_elim (λ p. omega arith) (λ p. omega arith) q), (λ q. let y = z.1 in omega arith));
    }

    can_8 : not (has_taken K 1 i) ≡ false → Can b s (X 8) → ⊥
    can_8 q (can_take k a) = false≢true (sym a ∙ not_false' (has_taken K 1 i) q)
    can_8 q (can_enter k) = omega arith
    can_8 q (can_down k a c) = omega arith
    can_8 q (can_up k a) = omega arith
    can_8 q (can_descend k a c d f v) = omega arith
    can_8 q (can_meet a c d f) = let z = a.meets in omega arith
    can_8 q (can_pass k a c d) = omega arith
    can_8 q (can_leave k a c) = omega arith

    abbrev after_8 : List ℕ → List Bool → Core
    after_8 v tk = record { contents = K.contents; lobby = K.lobby ++ (record { status = down; chan = 2; val = v } ∷ []); shelf = K.shelf; taken = tk }

    full_8 : (v : List ℕ) (tk : List Bool) → limits (after_8 v tk) ≡ false → Row17 b s (X 8)
    full_8 v tk q = limit_cases (after_8 v tk) q
        (λ y. absurd (let f = few_parts in omega arith)) (λ y. absurd (let f = few_boxes in omega arith)) (λ y. absurd (let f = few_minted in omega arith))
        (λ y. lobby_take refl (subst (λ (z : ℕ). 16 < z) (length-append K.lobby (record { status = down; chan = 2; val = v } ∷ [])) y)) (λ y. absurd (let f = o.few_shelf in omega arith))

    not_full_8 : (v : List ℕ) (tk : List Bool) → Row17 b s (X 8) → limits (after_8 v tk) ≡ false
    not_full_8 v tk (particles_down q l) = absurd (omega arith)
    not_full_8 v tk (particles_meet a l) = absurd (let z = a.meets in omega arith)
    not_full_8 v tk (boxes a l) = absurd (let z = a.meets in omega arith)
    not_full_8 v tk (minted a l) = absurd (let z = a.meets in omega arith)
    not_full_8 v tk (lobby_enter q l) = absurd (omega arith)
    not_full_8 v tk (lobby_pass q l) = absurd (omega arith)
    not_full_8 v tk (lobby_take q l) = over_lobby (after_8 v tk) (subst (λ (z : ℕ). 16 < z) (sym (length-append K.lobby (record { status = down; chan = 2; val = v } ∷ []))) l)
    not_full_8 v tk (lobby_up q g t l) = absurd (omega arith)
    not_full_8 v tk (shelf q g t l) = absurd (omega arith)

    takes_1 : ws ≡ [] → (b.wrapper ≡ 2) × (n ≡ 2) × (j ≡ 0) → Caused (Low 8) (Good 8) (takes 1 (shelf_of s 1) K i)
    unfolding takes
    takes_1 w z = pick_c (Low 8) (Good 8) (side s 1).core.shelf i _ (λ q. low_10 8 (no_shelf_place refl q)) λ v g.
        need_c (Low 8) (Good 8) _ 13 _ (λ q. low_13 8 (tens_8 w z v g) (λ y. omega arith) (can_8 q)) λ q.
        good 8 _ (λ y. omega arith) (above_13 8 (tens_8 w z v g) (λ y. omega arith)) (can_take refl (not_true' (has_taken K 1 i) q)) parts_short (full_8 v _) (not_full_8 v _)

    pub kind_8 : Caused (Low 8) (Good 8) (L 8)
    unfolding local choose
    kind_8 =
        need_c (Low 8) (Good 8) _ 10 _ (λ q. low_10 8 (value_words refl (some_words ws q))) λ w.
        bind_c (Low 8) (Good 8) (route_to (wrapper_of b).routes n j) _ (λ m q. let z = route_none m q in subst (Low 8) (sym z.0) (low_10 8 z.1))
        (λ r q. let z = route_some r q in subst (λ (m : ℕ). Caused (Low 8) (Good 8) (takes m (shelf_of s m) K i)) (sym z.0) (takes_1 (no_words ws w) (z.1, z.2, z.3)))

    -- NO SUCH KIND
    pub no_such : (k : ℕ) → (k ≡ 0) ⊎ (8 < k) → Caused (Low k) (Good k) (L k)
    unfolding local inner
    no_such k q = choose_c (Low k) (Good k) (eqb k 1) _ _ (λ z. absurd (out 1 (eqb-true k 1 z) (omega arith) (omega arith)))
        (λ a. choose_c (Low k) (Good k) (eqb k 8) _ _ (λ z. absurd (out 8 (eqb-true k 8 z) (omega arith) (omega arith)))
        (λ c. need_c (Low k) (Good k) _ 10 _ (λ z. low_10 k (no_kind q))
        (λ d. choose_c (Low k) (Good k) (eqb k 4) _ _ (λ z. absurd (out 4 (eqb-true k 4 z) (omega arith) (omega arith)))
        (λ f. choose_c (Low k) (Good k) (eqb k 5) _ _ (λ z. absurd (out 5 (eqb-true k 5 z) (omega arith) (omega arith)))
        (λ g. need_c (Low k) (Good k) _ 10 _ (λ z. low_10 k (no_kind q))
        (λ l. choose_c (Low k) (Good k) (eqb k 2) _ _ (λ z. absurd (out 2 (eqb-true k 2 z) (omega arith) (omega arith)))
        (λ m. choose_c (Low k) (Good k) (eqb k 3) _ _ (λ z. absurd (out 3 (eqb-true k 3 z) (omega arith) (omega arith)))
        (λ p. choose_c (Low k) (Good k) (eqb k 6) _ _ (λ z. absurd (out 6 (eqb-true k 6 z) (omega arith) (omega arith)))
        (λ r. choose_c (Low k) (Good k) (eqb k 7) _ _ (λ z. absurd (out 7 (eqb-true k 7 z) (omega arith) (omega arith)))
        (λ t. low_10 k (no_kind q)))))))))))
      where
        out : (m : ℕ) → k ≡ m → 1 ≤ m → m ≤ 8 → ⊥
        out m z l u = ⊎_elim (λ y. omega arith) (λ y. omega arith) q
