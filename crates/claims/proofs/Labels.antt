-- The claimed labels: what the check says of those that come out, of the place where the two part, and how both split there.
use mathlib.Core.Path.{◌≡◌, refl, sym, ap, subst, ◌∙◌}
use mathlib.Core.Bool.{Bool, true, false, false≢true}
use mathlib.Core.List.{List, [], ◌∷◌, ◌++◌, append_assoc, cons-ne-nil}
use mathlib.Core.Logic.{◌⊎◌, inl, inr}
use mathlib.Core.Option.{some}
use Prim.Native.Nat.{ℕ, ◌+◌}
use native.Mathlib.Nat.{add-zero}
use native.Mathlib.Omega.{arith}
use borrow.Author.Tests.{eq-eqb}
use lib.ListN.{length, take, drop, take-append-drop}
use lib.Seq.{take-append_seam}
use Rattle.model.specs.Basics.{choose, every}
use Rattle.model.specs.Step.{silent, enters, leaves, logs, Answer, labelled, refusal}
use Rattle.model.proofs.Basics.Tests.{fst, snd, every_append, every_one, head_eq}
use Rattle.claims.specs.Claims.{Records, end, breaks_off, next, asks, label_records, visible, same_words, label_fault}
use Rattle.claims.specs.Verdicts.{all_visible, joined}
use Rattle.claims.proofs.Records.{is_record, record_front, first_record, no_record, same_words_lem, words_same}

-- what comes out is records
one_record : (ch n : ℕ) (v : List ℕ) → every (is_record 2) ((ch ∷ n ∷ length v ∷ v) ∷ []) ≡ true
one_record ch n v = every_one (is_record 2) (ch ∷ n ∷ length v ∷ v) (eq-eqb (asks 2 (ch ∷ n ∷ length v ∷ v)) (length (ch ∷ n ∷ length v ∷ v)) (omega arith))

visible_records : (a : Answer) → every (is_record 2) (visible a) ≡ true
visible_records (labelled silent n v) = refl
visible_records (labelled enters n v) = one_record 0 n v
visible_records (labelled leaves n v) = one_record 1 n v
visible_records (labelled logs n v) = one_record 3 n v
visible_records (refusal k n) = refl

pub trace_records : (xs : List Answer) → every (is_record 2) (all_visible xs) ≡ true
trace_records [] = refl
trace_records (a ∷ xs) = every_append (is_record 2) (visible a) (all_visible xs) (visible_records a) (trace_records xs)

-- THE CHECK, OVER LABELS THAT COME OUT

fault_same : (k : ℕ) (v : List ℕ) (vs : List (List ℕ)) (cs : Records) → label_fault k (v ∷ vs) (next v cs) ≡ label_fault (k + 1) vs cs
unfolding label_fault choose
fault_same k v vs cs = rw (words_same v)

fault_other : (k : ℕ) (v : List ℕ) (vs : List (List ℕ)) (c : List ℕ) (cs : Records) → same_words v c ≡ false → label_fault k (v ∷ vs) (next c cs) ≡ some k
unfolding label_fault choose
fault_other k v vs c cs h = rw h

pub fault_past : (k : ℕ) (same others : List (List ℕ)) (rest : List ℕ) → every (is_record 2) (same ++ others) ≡ true
    → label_fault k (same ++ others) (label_records (joined same ++ rest)) ≡ label_fault (k + length same) others (label_records rest)
fault_past k [] others rest h = ap (λ (n : ℕ). label_fault n others (label_records rest)) (sym (add-zero k))
fault_past k (v ∷ same) others rest h =
    let on : k + 1 + length same ≡ k + length (v ∷ same) = omega arith in
    ap (λ (l : List ℕ). label_fault k (v ∷ (same ++ others)) (label_records l)) (append_assoc v (joined same) rest)
    ∙ ap (label_fault k (v ∷ (same ++ others))) (record_front 2 v (joined same ++ rest) (fst (is_record 2 v) _ h))
    ∙ fault_same k v (same ++ others) (label_records (joined same ++ rest))
    ∙ fault_past (k + 1) same others rest (snd (is_record 2 v) _ h)
    ∙ ap (λ (n : ℕ). label_fault n others (label_records rest)) on

-- WHERE THE TWO PART

-- neither do both end, nor does the next that comes out stand next among the claimed
pub record Parted (others : List (List ℕ)) (rest : List ℕ) : Type 0 where
  pub ends : others ≡ [] → rest ≡ [] → ⊥
  pub parts : (v : List ℕ) (vs : List (List ℕ)) (behind : List ℕ) → others ≡ v ∷ vs → rest ≡ v ++ behind → ⊥

pub fault_parted : (k : ℕ) (others : List (List ℕ)) (rest : List ℕ) → Parted others rest → label_fault k others (label_records rest) ≡ some k
unfolding label_fault
fault_parted k [] rest h = by (label_records rest) refl
  where
    by : (cs : Records) → label_records rest ≡ cs → label_fault k [] cs ≡ some k
    by end q = absurd (h.ends refl (no_record 2 rest q))
    by breaks_off q = refl
    by (next c cs) q = refl
fault_parted k (v ∷ vs) rest h = by (label_records rest) refl
  where
    by : (cs : Records) → label_records rest ≡ cs → label_fault k (v ∷ vs) cs ≡ some k
    by end q = refl
    by breaks_off q = refl
    by (next c cs) q = differ (same_words v c) refl
      where
        differ : (t : Bool) → same_words v c ≡ t → label_fault k (v ∷ vs) (next c cs) ≡ some k
        differ true e =
            let first = first_record 2 rest c cs q in
            absurd (h.parts v vs first.behind refl (first.words ∙ ap (λ (l : List ℕ). l ++ first.behind) (sym (same_words_lem v c e))))
        differ false e = fault_other k v vs c cs e

-- a trace and a claim are the same up to a place, and there both end, or they part
pub record Parting (trace : List (List ℕ)) (ls : List ℕ) : Type 0 where
  pub same : List (List ℕ)
  pub others : List (List ℕ)
  pub comes : trace ≡ same ++ others
  pub rest : List ℕ
  pub claimed : ls ≡ joined same ++ rest
  pub stops : ((others ≡ []) × (rest ≡ [])) ⊎ Parted others rest

at_once : (trace : List (List ℕ)) (ls : List ℕ) → ((trace ≡ []) × (ls ≡ [])) ⊎ Parted trace ls → Parting trace ls
at_once trace ls h = record { same = []; others = trace; comes = refl; rest = ls; claimed = refl; stops = h }

-- one more label that both have
after : (v : List ℕ) (vs : List (List ℕ)) (behind : List ℕ) → Parting vs behind → Parting (v ∷ vs) (v ++ behind)
after v vs behind m = record {
  same = v ∷ m.same;
  others = m.others;
  comes = ap (λ (l : List (List ℕ)). v ∷ l) m.comes;
  rest = m.rest;
  claimed = ap (λ (l : List ℕ). v ++ l) m.claimed ∙ sym (append_assoc v (joined m.same) m.rest);
  stops = m.stops;
}

pub parting : (trace : List (List ℕ)) (ls : List ℕ) → Parting trace ls
parting [] [] = at_once [] [] (inl (refl, refl))
parting [] (w ∷ ls) = at_once [] (w ∷ ls) (inr (record { ends = λ p q. cons-ne-nil w ls q; parts = λ v vs behind p q. cons-ne-nil v vs (sym p) }))
parting (v ∷ vs) ls = by (same_words v (take (length v) ls)) refl (parting vs (drop (length v) ls))
  where
    by : (t : Bool) → same_words v (take (length v) ls) ≡ t → Parting vs (drop (length v) ls) → Parting (v ∷ vs) ls
    by true q m =
        let front : v ++ drop (length v) ls ≡ ls = ap (λ (l : List ℕ). l ++ drop (length v) ls) (same_words_lem v (take (length v) ls) q) ∙ take-append-drop (length v) ls in
        subst (Parting (v ∷ vs)) front (after v vs (drop (length v) ls) m)
    by false q m = at_once (v ∷ vs) ls (inr (record { ends = λ p z. cons-ne-nil v vs p; parts = differ }))
      where
        differ : (u : List ℕ) (us : List (List ℕ)) (behind : List ℕ) → v ∷ vs ≡ u ∷ us → ls ≡ u ++ behind → ⊥
        differ u us behind p z =
            let first = head_eq p in
            let front : take (length v) ls ≡ v = ap (take (length v)) (z ∙ ap (λ (l : List ℕ). l ++ behind) (sym first)) ∙ take-append_seam v behind in
            false≢true (sym q ∙ ap (same_words v) front ∙ words_same v)
