-- What is stranded is what the wrapper cannot move.
use mathlib.Core.Path.{◌≡◌, refl, sym, ap, ◌∙◌}
use mathlib.Core.Bool.{true, false, ◌||◌, false≢true}
use mathlib.Core.List.{List, [], ◌∷◌}
use mathlib.Core.Logic.{◌⊎◌, inl, inr, ⊎_elim}
use mathlib.Core.Option.{some}
use Prim.Native.Nat.{ℕ, zero, suc, ◌<◌, ◌≤◌}
use native.Mathlib.Omega.{arith}
use borrow.Author.Tests.{eqb-true}
use lib.Dec.{eqb}
use lib.ListN.{length, get_elem?}
use Rattle.model.specs.Basics.{has}
use Rattle.model.specs.Wrapper.{has_side}
use Rattle.model.specs.Side.{Status, down, arrived, leaving, Message, State, side}
use Rattle.model.specs.Load.{Composition, wrapper_of, is_ok}
use Rattle.model.specs.WellFormed.{ready}
use Rattle.model.specs.Step.{Step, is_arrived, refusal, step}
use Rattle.model.specs.Stranded.{Strands, at_lobby, StrandedStays}
use Rattle.model.specs.Causes.{Can, can_enter, can_down, can_up, can_descend, can_meet, can_pass, can_leave, can_take}
use Rattle.model.specs.Causes.{Row10, tables, state, no_kind, lacks_side, no_message, no_particle_i, no_box_j, no_particle_j, no_shelf_place, unused_i, unused_j, value_words, kind_8_alone, kind_8_side_1}
use Rattle.model.specs.Causes.{Row11, malformed, empty, over_16, bad_word, StepCause, by_10, by_11, by_12, by_13, by_14, by_15, by_16, by_17, LowestStep}
use Rattle.model.proofs.Basics.Tests.{fst, snd, or_cases, some_inj}
use Rattle.model.proofs.Basics.Splits.{get_length}
use Rattle.model.proofs.Causes.LowestStep.{lowest_step}
use Rattle.model.proofs.Stranded.Listed.{strands_so, so_strands}

-- the kinds that name a lobby message: down, pass and leave
abbrev lobby_kinds : List ℕ
lobby_kinds = 2 ∷ 6 ∷ 7 ∷ []

of_lobby : (k : ℕ) → has k lobby_kinds ≡ true → (k ≡ 2) ⊎ ((k ≡ 6) ⊎ (k ≡ 7))
of_lobby k h =
    ⊎_elim (λ z. inl (eqb-true k 2 z)) (λ z. inr (⊎_elim (λ y. inl (eqb-true k 6 y)) (λ y. inr (by_7 (or_cases (eqb k 7) false y))) (or_cases (eqb k 6) (eqb k 7 || false) z)))
    (or_cases (eqb k 2) (eqb k 6 || (eqb k 7 || false)) h)
  where
    by_7 : (eqb k 7 ≡ true) ⊎ (false ≡ true) → k ≡ 7
    by_7 (inl z) = eqb-true k 7 z
    by_7 (inr z) = absurd (false≢true z)

-- no other kind does
other_kind : (k m : ℕ) → has k lobby_kinds ≡ true → has m lobby_kinds ≡ false → k ≡ m → ⊥
other_kind k m o f e = false≢true (sym f ∙ ap (λ (j : ℕ). has j lobby_kinds) (sym e) ∙ o)

other_kinds : (k : ℕ) (ks : List ℕ) → has k lobby_kinds ≡ true → has 2 ks ≡ false → has 6 ks ≡ false → has 7 ks ≡ false → has k ks ≡ true → ⊥
other_kinds k ks o p q r h = ⊎_elim (λ z. is 2 z p) (λ z. ⊎_elim (λ y. is 6 y q) (λ y. is 7 y r) z) (of_lobby k o)
  where
    is : (m : ℕ) → k ≡ m → has m ks ≡ false → ⊥
    is m e f = false≢true (sym f ∙ ap (λ (j : ℕ). has j ks) (sym e) ∙ h)

-- a position is past the lobby, or a message stands there
position : (l : List Message) (i : ℕ) → (length l ≤ i) ⊎ ((m : Message) × (get_elem? l i ≡ some m))
position [] i = inl (omega arith)
position (m ∷ l) zero = inr (m, refl)
position (m ∷ l) (suc i) = ⊎_elim (λ h. inl (omega arith)) inr (position l i)

-- the cause of 13
only_13 : {b : Composition} {s : State} {x : Step} (r : ℕ) → StepCause b s x r → r ≡ 13 → Can b s x → ⊥
only_13 r (by_10 q) e = absurd (omega arith)
only_13 r (by_11 q) e = absurd (omega arith)
only_13 r (by_12 k p q d g) e = absurd (omega arith)
only_13 r (by_13 q) e = q
only_13 r (by_14 m q) e = absurd (omega arith)
only_13 r (by_15 m q d) e = absurd (omega arith)
only_13 r (by_16 m k q p g) e = absurd (omega arith)
only_13 r (by_17 q) e = absurd (omega arith)

module _ (b : Composition) (s : State) (n i : ℕ) (e : ready b s ≡ true) (h : has_side (wrapper_of b) n ≡ true) where
  abbrev lobby : List Message
  lobby = (side s n).core.lobby

  -- nothing below 13 is the cause, where a message stands
  module _ (k : ℕ) (o : has k lobby_kinds ≡ true) where
    not_10 : i < length lobby → Row10 b s (at_lobby k n i) → ⊥
    unfolding ready
    not_10 lt (tables {r} q) = false≢true (ap is_ok (sym q) ∙ fst _ _ e)
    not_10 lt (state q) = false≢true (sym q ∙ snd _ _ e)
    not_10 lt (no_kind q) = ⊎_elim (other_kind k 0 o refl) (λ z. ⊎_elim (λ y. omega arith) (λ y. ⊎_elim (λ x. omega arith) (λ x. omega arith) y) (of_lobby k o)) q
    not_10 lt (lacks_side q) = false≢true (sym q ∙ h)
    not_10 lt (no_message q le) = omega arith
    not_10 lt (no_particle_i q le) = other_kinds k (3 ∷ 4 ∷ 5 ∷ []) o refl refl refl q
    not_10 lt (no_box_j q le) = other_kinds k (4 ∷ []) o refl refl refl q
    not_10 lt (no_particle_j q le) = other_kinds k (5 ∷ []) o refl refl refl q
    not_10 lt (no_shelf_place q le) = other_kinds k (8 ∷ []) o refl refl refl q
    not_10 lt (unused_i q d) = other_kinds k (1 ∷ []) o refl refl refl q
    not_10 lt (unused_j q d) = d refl
    not_10 lt (value_words q d) = d refl
    not_10 lt (kind_8_alone q a) = other_kind k 8 o refl q
    not_10 lt (kind_8_side_1 q a) = other_kind k 8 o refl q

    not_11 : Row11 (at_lobby k n i) → ⊥
    not_11 (malformed q d) = other_kind k 1 o refl q
    not_11 (empty q d) = other_kind k 1 o refl q
    not_11 (over_16 q d) = other_kind k 1 o refl q
    not_11 (bad_word j q d f g) = other_kind k 1 o refl q

    none_below : i < length lobby → (m : ℕ) → m < 13 → StepCause b s (at_lobby k n i) m → ⊥
    none_below lt m l (by_10 q) = not_10 lt q
    none_below lt m l (by_11 q) = not_11 q
    none_below lt m l (by_12 j q p d g) = other_kind k 1 o refl q
    none_below lt m l (by_13 q) = absurd (omega arith)
    none_below lt m l (by_14 r q) = absurd (omega arith)
    none_below lt m l (by_15 r q d) = absurd (omega arith)
    none_below lt m l (by_16 r j q p g) = absurd (omega arith)
    none_below lt m l (by_17 q) = absurd (omega arith)

    -- and a stranded message can make none of the three steps
    cannot : Strands b s n i → Can b s (at_lobby k n i) → ⊥
    cannot w (can_enter q) = other_kind k 1 o refl q
    cannot w (can_down {m} q there st) = false≢true (ap is_arrived (sym st) ∙ ap (λ (x : Message). is_arrived x.status) (some_inj (sym there ∙ w.there)) ∙ ap is_arrived w.status)
    cannot w (can_up q there) = other_kind k 3 o refl q
    cannot w (can_descend q there c d p m) = other_kind k 4 o refl q
    cannot w (can_meet m p q f) = other_kind k 5 o refl m.meets
    cannot w (can_pass {m} q there st ch) = w.channel (ap (λ (x : Message). x.chan) (some_inj (sym w.there ∙ there)) ∙ ch)
    cannot w (can_leave {m} q there st) = false≢true (ap is_arrived (sym st) ∙ ap (λ (x : Message). is_arrived x.status) (some_inj (sym there ∙ w.there)) ∙ ap is_arrived w.status)
    cannot w (can_take q f) = other_kind k 8 o refl q

    stays : Strands b s n i → (step b s (at_lobby k n i)).answer ≡ refusal 13 n
    unfolding LowestStep
    stays w = ((lowest_step b s (at_lobby k n i)).0 13 n).1 (by_13 (cannot w), none_below (get_length lobby i w.message w.there), refl)

  -- what is refused with 13 as down, as pass and as leave
  module _ (r : (k : ℕ) → has k lobby_kinds ≡ true → (step b s (at_lobby k n i)).answer ≡ refusal 13 n) where
    cause : (k : ℕ) → has k lobby_kinds ≡ true → StepCause b s (at_lobby k n i) 13 × ((m : ℕ) → m < 13 → StepCause b s (at_lobby k n i) m → ⊥) × (n ≡ n)
    unfolding LowestStep
    cause k o = ((lowest_step b s (at_lobby k n i)).0 13 n).0 (r k o)

    refused_strands : Strands b s n i
    unfolding ready
    refused_strands =
        ⊎_elim (λ le. absurd ((cause 2 refl).1 10 (omega arith) (by_10 (no_message refl le)))) (λ q. by q.0 q.1 q.0.status refl) (position lobby i)
      where
        by : (m : Message) → get_elem? lobby i ≡ some m → (t : Status) → m.status ≡ t → Strands b s n i
        by m there down st = absurd (only_13 13 (cause 2 refl).0 refl (can_down refl there st))
        by m there leaving st = absurd (only_13 13 (cause 7 refl).0 refl (can_leave refl there st))
        by m there arrived st =
            record {
              loads = fst _ _ e;
              formed = snd _ _ e;
              has_side = h;
              message = m;
              there = there;
              status = st;
              channel = λ z. only_13 13 (cause 6 refl).0 refl (can_pass refl there st z);
            }

pub stranded_stays : StrandedStays
unfolding StrandedStays
stranded_stays b s n i e h = (
  (λ q k o. stays b s n i e h k o (strands_so b s n i q)),
  (λ r. so_strands b s n i (refused_strands b s n i e h r)),
)
