-- The claimed labels beside those that come out.
use mathlib.Core.Path.{◌≡◌, refl, sym, ap, ◌∙◌}
use mathlib.Core.Bool.{Bool, true, false}
use mathlib.Core.List.{List, [], ◌∷◌}
use mathlib.Core.Option.{none, some}
use Prim.Native.Nat.{ℕ, zero, suc, ◌+◌, ◌<◌, ◌≤◌}
use native.Mathlib.Omega.{arith}
use borrow.Author.Tests.{leb-true, leb-false, eq-eqb, ne_eqb}
use lib.Dec.{eqb, leb}
use lib.ListN.{length, get_or, take, drop, length-drop}
use Rattle.std.specs.Prelude.{Some, None, nat_eq}
use lib.Pointwise.{pointwise}
use Rattle.std.proofs.lemmas.Option.{none-some, same_Some}
use Rattle.model.specs.Basics.{◌&◌, choose}
use Rattle.claims.specs.Claims.{Records, end, breaks_off, next, records_past, label_fault, same_words}
use Rattle.claims.proofs.Records.{no_record, records_next, records_broken, records_end}
use Rattle.execution.specs.Execution.{record_end}
use Rattle.execution.proofs.RecordEnds.{found_end, found_none}
use Rattle.steps.specs.declared.Said.{Said}
use Rattle.steps.specs.declared.Said.TheVariants as said
use Rattle.checking.specs.Checking.{channel_of, shown}

-- THE SAME WORDS, as slices are compared
pub words_compared : (x y : List ℕ) → pointwise nat_eq x y ≡ same_words x y
unfolding ◌&◌
words_compared [] [] = refl
words_compared [] (w ∷ y) = refl
words_compared (v ∷ x) [] = refl
words_compared (v ∷ x) (w ∷ y) = by (eqb v w) refl (words_compared x y)
  where
    by : (t : Bool) → eqb v w ≡ t → pointwise nat_eq x y ≡ same_words x y → pointwise nat_eq (v ∷ x) (w ∷ y) ≡ same_words (v ∷ x) (w ∷ y)
    by true e h = rw e h
    by false e h = rw e refl

-- THE RECORD OF A LABEL
-- its first three words, and the others
first_word : (l : List ℕ) (p n : ℕ) → p < length l → take (suc n) (drop p l) ≡ get_or l p 0 ∷ take n (drop (suc p) l)
first_word [] p n h = absurd (omega arith)
first_word (w ∷ l) zero n h = refl
first_word (w ∷ l) (suc p) n h = first_word l p n (omega arith)

module _ (l : List ℕ) (p : ℕ) (h : p + 3 + get_or l (p + 2) 0 ≤ length l) where
  label_words : take (3 + get_or l (p + 2) 0) (drop p l) ≡ get_or l p 0 ∷ get_or l (p + 1) 0 ∷ get_or l (p + 2) 0 ∷ take (get_or l (p + 2) 0) (drop (p + 3) l)
  label_words =
      let c : ℕ = get_or l (p + 2) 0 in
      first p (2 + c) (p + 1) (3 + c) (omega arith) (omega arith) (omega arith)
      ∙ ap (λ (r : List ℕ). get_or l p 0 ∷ r) (first (p + 1) (1 + c) (p + 2) (2 + c) (omega arith) (omega arith) (omega arith))
      ∙ ap (λ (r : List ℕ). get_or l p 0 ∷ get_or l (p + 1) 0 ∷ r) (first (p + 2) c (p + 3) (1 + c) (omega arith) (omega arith) (omega arith))
    where
      first : (q n q' n' : ℕ) → q' ≡ suc q → n' ≡ suc n → q < length l → take n' (drop q l) ≡ get_or l q 0 ∷ take n (drop q' l)
      first q n q' n' d e lt = ap (λ (m : ℕ). take m (drop q l)) e ∙ first_word l q n lt ∙ ap (λ (m : ℕ). get_or l q 0 ∷ take n (drop m l)) (sym d)

  -- compared word by word
  module _ (ch n m : ℕ) (v : List ℕ) where
    abbrev compared : Bool
    compared = same_words (ch ∷ n ∷ m ∷ v) (take (3 + get_or l (p + 2) 0) (drop p l))

    by_words : (r s t : Bool) → eqb ch (get_or l p 0) ≡ r → eqb n (get_or l (p + 1) 0) ≡ s → eqb m (get_or l (p + 2) 0) ≡ t →
        compared ≡ (r & s & t & same_words v (take (get_or l (p + 2) 0) (drop (p + 3) l)))
    by_words r s t d e f = ap (same_words (ch ∷ n ∷ m ∷ v)) label_words ∙ rw (d, e, f) refl

    pub other_channel : (get_or l p 0 ≡ ch → ⊥) → false ≡ compared
    unfolding ◌&◌
    other_channel d = sym (by_words false _ _ (ne_eqb ch (get_or l p 0) (λ e. d (sym e))) refl refl)

    pub other_side : get_or l p 0 ≡ ch → (get_or l (p + 1) 0 ≡ n → ⊥) → false ≡ compared
    unfolding ◌&◌
    other_side d e = sym (by_words true false _ (eq-eqb ch (get_or l p 0) (sym d)) (ne_eqb n (get_or l (p + 1) 0) (λ x. e (sym x))) refl)

    pub other_length : get_or l p 0 ≡ ch → get_or l (p + 1) 0 ≡ n → (get_or l (p + 2) 0 ≡ m → ⊥) → false ≡ compared
    unfolding ◌&◌
    other_length d e f =
        sym (by_words true true false (eq-eqb ch (get_or l p 0) (sym d)) (eq-eqb n (get_or l (p + 1) 0) (sym e)) (ne_eqb m (get_or l (p + 2) 0) (λ x. f (sym x))))

    pub same_head : get_or l p 0 ≡ ch → get_or l (p + 1) 0 ≡ n → get_or l (p + 2) 0 ≡ m → same_words v (take m (drop (p + 3) l)) ≡ compared
    unfolding ◌&◌
    same_head d e f =
        ap (λ (c : ℕ). same_words v (take c (drop (p + 3) l))) (sym f)
        ∙ sym (by_words true true true (eq-eqb ch (get_or l p 0) (sym d)) (eq-eqb n (get_or l (p + 1) 0) (sym e)) (eq-eqb m (get_or l (p + 2) 0) (sym f)))

-- WHERE CLAIM AND TRACE PART
-- a claimed label that does not come out
pub over_fault : (l : List ℕ) (p k : ℕ) → p < length l → label_fault k [] (records_past 2 (drop p l) 0) ≡ some k
unfolding label_fault
over_fault l p k h = by (records_past 2 (drop p l) 0) refl
  where
    by : (r : Records) → records_past 2 (drop p l) 0 ≡ r → label_fault k [] r ≡ some k
    by end e = absurd (omega (arith, length-drop p l, ap length (no_record 2 (drop p l) e)))
    by breaks_off e = refl
    by (next c cs) e = refl

-- none over
pub none_over : (l : List ℕ) (p k : ℕ) → length l ≤ p → label_fault k [] (records_past 2 (drop p l) 0) ≡ none
unfolding label_fault
none_over l p k h = ap (label_fault k []) (records_end 2 l p h)

module _ (l : List ℕ) (p k : ℕ) (v : List ℕ) (vs : List (List ℕ)) where
  -- a label that comes out and is not claimed: there is no whole record
  pub missing : record_end 2 l p ≡ None → some k ≡ label_fault k (v ∷ vs) (records_past 2 (drop p l) 0)
  unfolding label_fault
  missing e = by (leb (length l) p) refl
    where
      at : (r : Records) → label_fault k (v ∷ vs) r ≡ some k → records_past 2 (drop p l) 0 ≡ r → some k ≡ label_fault k (v ∷ vs) (records_past 2 (drop p l) 0)
      at r z q = sym (ap (label_fault k (v ∷ vs)) q ∙ z)

      by : (t : Bool) → leb (length l) p ≡ t → some k ≡ label_fault k (v ∷ vs) (records_past 2 (drop p l) 0)
      by true q = at end refl (records_end 2 l p (leb-true (length l) p q))
      by false q = at breaks_off refl (records_broken 2 l p (leb-false (length l) p q) (found_none 2 l p e))

  -- the record that is there
  module _ (e : ℕ) (f : record_end 2 l p ≡ Some e) where
    abbrev there : List ℕ
    there = take (3 + get_or l (p + 2) 0) (drop p l)

    by_record : (t : Bool) → t ≡ same_words v there → label_fault k (v ∷ vs) (records_past 2 (drop p l) 0) ≡ choose t (label_fault (k + 1) vs (records_past 2 (drop e l) 0)) (some k)
    unfolding label_fault
    by_record t s =
        let at = found_end 2 l p e f in
        ap (label_fault k (v ∷ vs)) (records_next 2 l p at.1)
        ∙ ap (λ (z : Bool). choose z (label_fault (k + 1) vs (records_past 2 (drop (p + 2 + 1 + get_or l (p + 2) 0) l) 0)) (some k)) (sym s)
        ∙ ap (λ (n : ℕ). choose t (label_fault (k + 1) vs (records_past 2 (drop n l) 0)) (some k)) (sym at.0)

    pub agrees : true ≡ same_words v there → label_fault (k + 1) vs (records_past 2 (drop e l) 0) ≡ label_fault k (v ∷ vs) (records_past 2 (drop p l) 0)
    unfolding choose
    agrees s = sym (by_record true s)

    pub parts : false ≡ same_words v there → some k ≡ label_fault k (v ∷ vs) (records_past 2 (drop p l) 0)
    unfolding choose
    parts s = sym (by_record false s)

-- WHAT AN ANSWER SHOWS, by its channel
pub shown_none : (a : Said) (side : ℕ) (v : List ℕ) → channel_of a ≡ None → shown a side v ≡ []
shown_none said.In side v e = absurd (none-some _ (sym e))
shown_none said.Out side v e = absurd (none-some _ (sym e))
shown_none said.Log side v e = absurd (none-some _ (sym e))
shown_none said.Silent side v e = refl
shown_none (said.Refused n) side v e = refl

pub shown_some : (a : Said) (side ch : ℕ) (v : List ℕ) → channel_of a ≡ Some ch → shown a side v ≡ (ch ∷ side ∷ length v ∷ v) ∷ []
shown_some said.In side ch v e = ap (λ (n : ℕ). (n ∷ side ∷ length v ∷ v) ∷ []) (same_Some _ _ e)
shown_some said.Out side ch v e = ap (λ (n : ℕ). (n ∷ side ∷ length v ∷ v) ∷ []) (same_Some _ _ e)
shown_some said.Log side ch v e = ap (λ (n : ℕ). (n ∷ side ∷ length v ∷ v) ∷ []) (same_Some _ _ e)
shown_some said.Silent side ch v e = absurd (none-some _ e)
shown_some (said.Refused n) side ch v e = absurd (none-some _ e)
