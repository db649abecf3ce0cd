-- The stranded positions: what the question lists, and that no other list has that.
use mathlib.Core.Path.{◌≡◌, refl, sym, ap, ap₂, subst, ◌∙◌}
use mathlib.Core.Bool.{Bool, true, false, not, cond, false≢true}
use mathlib.Core.List.{List, [], ◌∷◌}
use mathlib.Core.Logic.{◌⊎◌, inl, inr, ⊎_elim}
use mathlib.Core.Option.{some}
use Prim.Native.Nat.{ℕ, zero, suc, ◌+◌, ◌<◌, ◌≤◌}
use native.Mathlib.Omega.{arith}
use borrow.Author.Tests.{ltb-true, lt-ltb, eqb-true, eqb-false, eq-eqb, ne_eqb, not-true}
use lib.Dec.{eqb, ltb}
use lib.ListN.{get_elem?}
use Rattle.model.specs.Basics.{◌&◌, every, has}
use Rattle.model.specs.Wrapper.{has_side}
use Rattle.model.specs.Side.{Status, down, arrived, leaving, Message, State, side}
use Rattle.model.specs.Load.{Composition, wrapper_of}
use Rattle.model.specs.WellFormed.{ready}
use Rattle.model.specs.Step.{is_arrived}
use Rattle.model.specs.Stranded.{is_stranded, lobby_asked, stranded_from, stranded_all, Strands, ascends, StrandedAre, AllStranded}
use Rattle.model.proofs.Basics.Tests.{fst, snd, both, or_cases, or_first, or_right, no_some, some_inj, has_every, every_has}

-- A MESSAGE
stranded_is : (m : Message) → is_stranded m ≡ true → (m.status ≡ arrived) × (m.chan ≡ 1 → ⊥)
stranded_is m e = (by m.status (fst _ _ e), eqb-false m.chan 1 (not-true (eqb m.chan 1) (snd _ _ e)))
  where
    by : (s : Status) → is_arrived s ≡ true → s ≡ arrived
    by down e = absurd (false≢true e)
    by arrived e = refl
    by leaving e = absurd (false≢true e)

is_stranded_lem : (m : Message) → m.status ≡ arrived → (m.chan ≡ 1 → ⊥) → is_stranded m ≡ true
is_stranded_lem m a c = both _ _ (ap is_arrived a) (ap not (ne_eqb m.chan 1 c))

-- A LOBBY whose first message has position j
-- one number before some others, where a test passes
first_or_later : (t : Bool) (j i : ℕ) (ps : List ℕ) → has i (cond t (j ∷ ps) ps) ≡ true → ((t ≡ true) × (i ≡ j)) ⊎ (has i ps ≡ true)
first_or_later false j i ps h = inr h
first_or_later true j i ps h = ⊎_elim (λ z. inl (refl, eqb-true i j z)) inr (or_cases (eqb i j) (has i ps) h)

later_has : (t : Bool) (j i : ℕ) (ps : List ℕ) → has i ps ≡ true → has i (cond t (j ∷ ps) ps) ≡ true
later_has false j i ps h = h
later_has true j i ps h = or_right (eqb i j) (has i ps) h

first_ascends : (t : Bool) (j : ℕ) (ps : List ℕ) → every (ltb j) ps ≡ true → ascends ps ≡ true → ascends (cond t (j ∷ ps) ps) ≡ true
first_ascends false j ps h a = a
first_ascends true j ps h a = both _ _ h a

-- what is listed is a stranded message's position
pub record Listed (j : ℕ) (l : List Message) (i : ℕ) : Type 0 where
  pub place : ℕ
  pub message : Message
  pub is : i ≡ j + place
  pub there : get_elem? l place ≡ some message
  pub stranded : is_stranded message ≡ true

listed_at : (l : List Message) (j i : ℕ) → has i (stranded_from j l) ≡ true → Listed j l i
unfolding stranded_from
listed_at [] j i e = absurd (false≢true e)
listed_at (m ∷ l) j i e =
    ⊎_elim (λ z. record { place = 0; message = m; is = omega (arith, z.1); there = refl; stranded = z.0 })
    (λ z. let r = listed_at l (suc j) i z in record { place = suc r.place; message = r.message; is = omega (arith, r.is); there = r.there; stranded = r.stranded })
    (first_or_later (is_stranded m) j i (stranded_from (suc j) l) e)

-- and every one of them is listed
at_listed : (l : List Message) (j k : ℕ) (m : Message) → get_elem? l k ≡ some m → is_stranded m ≡ true → has (j + k) (stranded_from j l) ≡ true
unfolding stranded_from
at_listed [] j zero m e s = absurd (no_some e)
at_listed [] j (suc k) m e s = absurd (no_some e)
at_listed (x ∷ l) j zero m e s =
    let here : is_stranded x ≡ true = ap is_stranded (some_inj e) ∙ s in
    ap (λ (t : Bool). has (j + 0) (cond t (j ∷ stranded_from (suc j) l) (stranded_from (suc j) l))) here ∙ or_first (eqb (j + 0) j) _ (eq-eqb (j + 0) j (omega arith))
at_listed (x ∷ l) j (suc k) m e s =
    let same : suc j + k ≡ j + suc k = omega arith in
    let later = subst (λ (i : ℕ). has i (stranded_from (suc j) l) ≡ true) same (at_listed l (suc j) k m e s) in
    later_has (is_stranded x) j (j + suc k) (stranded_from (suc j) l) later

-- smallest first
from_above : (l : List Message) (p j : ℕ) → p < j → every (ltb p) (stranded_from j l) ≡ true
from_above l p j h = every_has (ltb p) (stranded_from j l) (λ i e. let r = listed_at l j i e in lt-ltb p i (omega (arith, r.is)))

from_ascends : (l : List Message) (j : ℕ) → ascends (stranded_from j l) ≡ true
unfolding stranded_from
from_ascends [] j = refl
from_ascends (m ∷ l) j = first_ascends (is_stranded m) j (stranded_from (suc j) l) (from_above l j (suc j) (omega arith)) (from_ascends l (suc j))

-- TWO LISTS that ascend and have the same numbers are the same
abbrev Within : List ℕ → List ℕ → Type 0
Within ps qs = (i : ℕ) → has i ps ≡ true → has i qs ≡ true

here_has : (p : ℕ) (ps : List ℕ) → has p (p ∷ ps) ≡ true
here_has p ps = or_first (eqb p p) (has p ps) (eq-eqb p p refl)

-- the head is the smallest
head_least : (p i : ℕ) (ps : List ℕ) → ascends (p ∷ ps) ≡ true → has i (p ∷ ps) ≡ true → p ≤ i
head_least p i ps a h =
    ⊎_elim (λ z. omega (arith, eqb-true i p z)) (λ z. let lt = ltb-true p i (has_every (ltb p) ps i (fst _ _ a) z) in omega (arith, lt)) (or_cases (eqb i p) (has i ps) h)

-- the numbers behind equal heads
behind : (p q : ℕ) (ps qs : List ℕ) → p ≡ q → ascends (p ∷ ps) ≡ true → Within (p ∷ ps) (q ∷ qs) → Within ps qs
behind p q ps qs e a w i h =
    let above = ltb-true p i (has_every (ltb p) ps i (fst _ _ a) h) in
    ⊎_elim (λ z. absurd (omega (arith, eqb-true i q z, above, e))) (λ z. z) (or_cases (eqb i q) (has i qs) (w i (or_right (eqb i p) (has i ps) h)))

same_numbers : (ps qs : List ℕ) → ascends ps ≡ true → ascends qs ≡ true → Within ps qs → Within qs ps → ps ≡ qs
same_numbers [] [] a c v w = refl
same_numbers [] (q ∷ qs) a c v w = absurd (false≢true (w q (here_has q qs)))
same_numbers (p ∷ ps) [] a c v w = absurd (false≢true (v p (here_has p ps)))
same_numbers (p ∷ ps) (q ∷ qs) a c v w =
    let low = head_least p q ps a (w q (here_has q qs)) in
    let high = head_least q p qs c (v p (here_has p ps)) in
    let e : p ≡ q = omega arith in
    ap₂ (λ (x : ℕ) (xs : List ℕ). x ∷ xs) e (same_numbers ps qs (snd _ _ a) (snd _ _ c) (behind p q ps qs e a v) (behind q p qs ps (sym e) c w))

-- A SIDE
module _ (b : Composition) (s : State) (n : ℕ) where
  asked_by : (t : Bool) → ready b s & has_side (wrapper_of b) n ≡ t → lobby_asked b (some s) n ≡ cond t (side s n).core.lobby []
  unfolding lobby_asked
  asked_by t e = ap (λ (x : Bool). cond x (side s n).core.lobby []) e

  -- its lobby is asked where the state is ready and the wrapper has it, and else none
  pub asked_has : ready b s ≡ true → has_side (wrapper_of b) n ≡ true → lobby_asked b (some s) n ≡ (side s n).core.lobby
  asked_has e h = asked_by true (both _ _ e h)

  pub asked_unready : ready b s ≡ false → lobby_asked b (some s) n ≡ []
  unfolding ◌&◌
  asked_unready e = asked_by false (ap (λ (x : Bool). x & has_side (wrapper_of b) n) e)

  pub asked_lacks : has_side (wrapper_of b) n ≡ false → lobby_asked b (some s) n ≡ []
  unfolding ◌&◌
  asked_lacks h = by (ready b s) refl
    where
      by : (t : Bool) → ready b s ≡ t → lobby_asked b (some s) n ≡ []
      by true e = asked_by false (ap (λ (x : Bool). x & has_side (wrapper_of b) n) e ∙ h)
      by false e = asked_unready e

  pub strands_so : (i : ℕ) → has i (stranded_all b (some s) n) ≡ true → Strands b s n i
  unfolding ready stranded_from
  strands_so i e = by (ready b s & has_side (wrapper_of b) n) refl
    where
      by : (t : Bool) → ready b s & has_side (wrapper_of b) n ≡ t → Strands b s n i
      by false q = absurd (false≢true (sym (ap (λ (l : List Message). has i (stranded_from 0 l)) (asked_by false q)) ∙ e))
      by true q =
          let r = listed_at (side s n).core.lobby 0 i (sym (ap (λ (l : List Message). has i (stranded_from 0 l)) (asked_by true q)) ∙ e) in
          let same : r.place ≡ i = omega (arith, r.is) in
          let is = stranded_is r.message r.stranded in
          record {
            loads = fst _ _ (fst _ _ q);
            formed = snd _ _ (fst _ _ q);
            has_side = snd _ _ q;
            message = r.message;
            there = ap (get_elem? (side s n).core.lobby) (sym same) ∙ r.there;
            status = is.0;
            channel = is.1;
          }

  pub so_strands : (i : ℕ) → Strands b s n i → has i (stranded_all b (some s) n) ≡ true
  unfolding ready
  so_strands i h =
      let q = both _ _ (both _ _ h.loads h.formed) h.has_side in
      let there = at_listed (side s n).core.lobby 0 i h.message h.there (is_stranded_lem h.message h.status h.channel) in
      let same : 0 + i ≡ i = omega arith in
      ap (λ (l : List Message). has i (stranded_from 0 l)) (asked_by true q) ∙ subst (λ (k : ℕ). has k (stranded_from 0 (side s n).core.lobby) ≡ true) same there

  stranded_are : StrandedAre b s n (stranded_all b (some s) n)
  stranded_are = record { each = λ i. (strands_so i, so_strands i); order = from_ascends (lobby_asked b (some s) n) 0 }

pub all_stranded : AllStranded
unfolding AllStranded lobby_asked stranded_from
all_stranded b n = (
  (λ s ps. (
    (λ e. subst (StrandedAre b s n) (sym e) (stranded_are b s n)),
    (λ h. same_numbers ps (stranded_all b (some s) n) h.order (stranded_are b s n).order
        (λ i e. so_strands b s n i ((h.each i).0 e)) (λ i e. (h.each i).1 (strands_so b s n i e))),
  )),
  refl,
)
