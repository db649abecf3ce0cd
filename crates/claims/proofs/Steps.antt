-- The claimed steps: what the check says of legal steps, of what stands behind them, and how a list of words splits into the two.
use mathlib.Core.Path.{◌≡◌, refl, sym, ap, subst, ◌∙◌}
use mathlib.Core.Bool.{Bool, true, false}
use mathlib.Core.List.{List, [], ◌∷◌, ◌++◌, append_assoc}
use mathlib.Core.Logic.{◌⊎◌, inl, inr}
use mathlib.Core.Option.{some}
use Prim.Native.Nat.{ℕ, ◌+◌}
use native.Mathlib.Nat.{add-zero}
use native.Mathlib.Omega.{arith}
use borrow.Author.Tests.{eqb-true, eq-eqb}
use lib.ListN.{length}
use lib.Seq.{take_all, take-length}
use Rattle.model.specs.Basics.{choose, every}
use Rattle.model.specs.Side.{State}
use Rattle.model.specs.Load.{Composition}
use Rattle.model.specs.Step.{Step, step}
use Rattle.model.specs.Runs.{answers, after_all}
use Rattle.model.proofs.Basics.Tests.{fst, snd, both}
use Rattle.format.specs.Words.{step_at, step_words, all_step_words}
use Rattle.claims.specs.Claims.{Records, end, breaks_off, next, asks, step_records, visible, is_label, trace_of, step_fault}
use Rattle.claims.specs.Verdicts.{all_visible}
use Rattle.claims.proofs.Records.{is_record, end_next, breaks_next, end_breaks, next_record, record_front, First, first_record, no_record, front_end}

-- A STEP AND ITS RECORD

step_record : (x : Step) → is_record 4 (step_words x) ≡ true
step_record x = eq-eqb (asks 4 (step_words x)) (length (step_words x)) (omega arith)

step_of_words : (x : Step) → step_at (step_words x) 0 ≡ x
step_of_words x = ap (λ (v : List ℕ). record { kind = x.kind; side = x.side; i = x.i; j = x.j; words = v }) (take-length x.words)

record_step : (r : List ℕ) → is_record 4 r ≡ true → r ≡ step_words (step_at r 0)
record_step (k ∷ n ∷ i ∷ j ∷ c ∷ ws) h =
    let many = eqb-true (asks 4 (k ∷ n ∷ i ∷ j ∷ c ∷ ws)) (length (k ∷ n ∷ i ∷ j ∷ c ∷ ws)) h in
    let count : c ≡ length ws = omega arith in
    let value = take_all c ws (omega arith) in
    rw (value, count) refl
record_step [] h = absurd (omega (arith, eqb-true (asks 4 []) 0 h))
record_step (k ∷ []) h = absurd (omega (arith, eqb-true (asks 4 (k ∷ [])) 1 h))
record_step (k ∷ n ∷ []) h = absurd (omega (arith, eqb-true (asks 4 (k ∷ n ∷ [])) 2 h))
record_step (k ∷ n ∷ i ∷ []) h = absurd (omega (arith, eqb-true (asks 4 (k ∷ n ∷ i ∷ [])) 3 h))
record_step (k ∷ n ∷ i ∷ j ∷ []) h = absurd (omega (arith, eqb-true (asks 4 (k ∷ n ∷ i ∷ j ∷ [])) 4 h))

-- the first record of a list is a step's words
first_step : (ws r : List ℕ) (rs : Records) → (m : First 4 ws r rs) → ws ≡ step_words (step_at r 0) ++ m.behind
first_step ws r rs m = m.words ∙ ap (λ (l : List ℕ). l ++ m.behind) (record_step r m.whole)

-- and a step's words at the front of a list are its first record
records_step : (x : Step) (rest : List ℕ) → step_records (step_words x ++ rest) ≡ next (step_words x) (step_records rest)
records_step x rest = record_front 4 (step_words x) rest (step_record x)

records_steps : (x : Step) (xs : List Step) (rest : List ℕ) → step_records (all_step_words (x ∷ xs) ++ rest) ≡ next (step_words x) (step_records (all_step_words xs ++ rest))
records_steps x xs rest = ap step_records (append_assoc (step_words x) (all_step_words xs) rest) ∙ records_step x (all_step_words xs ++ rest)

module _ (b : Composition) where
  -- THE CHECK, OVER LEGAL STEPS

  fault_legal : (s : State) (k : ℕ) (r : List ℕ) (rs : Records) → is_label (step b s (step_at r 0)).answer ≡ true → step_fault b s k (next r rs) ≡ step_fault b (step b s (step_at r 0)).after (k + 1) rs
  unfolding step_fault choose
  fault_legal s k r rs h = rw h

  fault_illegal : (s : State) (k : ℕ) (r : List ℕ) (rs : Records) → is_label (step b s (step_at r 0)).answer ≡ false → step_fault b s k (next r rs) ≡ some k
  unfolding step_fault choose
  fault_illegal s k r rs h = rw h

  pub fault_over : (s : State) (k : ℕ) (xs : List Step) (rest : List ℕ) → every is_label (answers b s xs) ≡ true
      → step_fault b s k (step_records (all_step_words xs ++ rest)) ≡ step_fault b (after_all b s xs) (k + length xs) (step_records rest)
  unfolding answers after_all
  fault_over s k [] rest h = ap (λ (n : ℕ). step_fault b s n (step_records rest)) (sym (add-zero k))
  fault_over s k (x ∷ xs) rest h =
      let same = step_of_words x in
      let label = fst (is_label (step b s x).answer) _ h in
      let on : k + 1 + length xs ≡ k + length (x ∷ xs) = omega arith in
      ap (step_fault b s k) (records_steps x xs rest)
      ∙ fault_legal s k (step_words x) (step_records (all_step_words xs ++ rest)) (ap (λ (y : Step). is_label (step b s y).answer) same ∙ label)
      ∙ ap (λ (y : Step). step_fault b (step b s y).after (k + 1) (step_records (all_step_words xs ++ rest))) same
      ∙ fault_over (step b s x).after (k + 1) xs rest (snd (is_label (step b s x).answer) _ h)
      ∙ ap (λ (n : ℕ). step_fault b (after_all b (step b s x).after xs) n (step_records rest)) on

  trace_end : (s : State) → trace_of b s end ≡ []
  unfolding trace_of
  trace_end s = refl

  trace_next : (s : State) (r : List ℕ) (rs : Records) → trace_of b s (next r rs) ≡ visible (step b s (step_at r 0)).answer ++ trace_of b (step b s (step_at r 0)).after rs
  unfolding trace_of
  trace_next s r rs = refl

  -- and what comes out of them
  pub trace_whole : (s : State) (xs : List Step) → trace_of b s (step_records (all_step_words xs)) ≡ all_visible (answers b s xs)
  unfolding answers
  trace_whole s [] = ap (trace_of b s) (front_end 4 [] refl) ∙ trace_end s
  trace_whole s (x ∷ xs) =
      ap (trace_of b s) (records_step x (all_step_words xs))
      ∙ trace_next s (step_words x) (step_records (all_step_words xs))
      ∙ ap (λ (y : Step). visible (step b s y).answer ++ trace_of b (step b s y).after (step_records (all_step_words xs))) (step_of_words x)
      ∙ ap (λ (l : List (List ℕ)). visible (step b s x).answer ++ l) (trace_whole (step b s x).after xs)

  -- BEHIND THEM

  -- there is something, and at its front no record of a step that is legal there
  pub record NoLegal (s : State) (rest : List ℕ) : Type 0 where
    pub more : rest ≡ [] → ⊥
    pub illegal : (x : Step) (behind : List ℕ) → rest ≡ step_words x ++ behind → is_label (step b s x).answer ≡ false

  pub fault_no_legal : (s : State) (k : ℕ) (rest : List ℕ) → NoLegal s rest → step_fault b s k (step_records rest) ≡ some k
  unfolding step_fault
  fault_no_legal s k rest h = by (step_records rest) refl
    where
      by : (rs : Records) → step_records rest ≡ rs → step_fault b s k rs ≡ some k
      by end q = absurd (h.more (no_record 4 rest q))
      by breaks_off q = refl
      by (next r rs) q =
          let first = first_record 4 rest r rs q in
          fault_illegal s k r rs (h.illegal (step_at r 0) first.behind (first_step rest r rs first))

  -- a list of words is some legal steps, and behind them nothing, or what begins with no legal step
  pub record Split (s : State) (ws : List ℕ) : Type 0 where
    pub steps : List Step
    pub legal : every is_label (answers b s steps) ≡ true
    pub rest : List ℕ
    pub words : ws ≡ all_step_words steps ++ rest
    pub stops : (rest ≡ []) ⊎ NoLegal (after_all b s steps) rest

  -- no legal step at the front
  here : (s : State) (ws : List ℕ) → (ws ≡ []) ⊎ NoLegal s ws → Split s ws
  unfolding answers after_all
  here s ws h = record { steps = []; legal = refl; rest = ws; words = refl; stops = h }

  -- one more legal step before
  there : (s : State) (x : Step) (behind : List ℕ) → is_label (step b s x).answer ≡ true → Split (step b s x).after behind → Split s (step_words x ++ behind)
  unfolding answers after_all
  there s x behind h m = record {
    steps = x ∷ m.steps;
    legal = both _ _ h m.legal;
    rest = m.rest;
    words = ap (λ (l : List ℕ). step_words x ++ l) m.words ∙ sym (append_assoc (step_words x) (all_step_words m.steps) m.rest);
    stops = m.stops;
  }

  split_records : (rs : Records) (s : State) (ws : List ℕ) → step_records ws ≡ rs → Split s ws
  split_records end s ws e = here s ws (inl (no_record 4 ws e))
  split_records breaks_off s ws e = here s ws (inr (record {
    more = λ q. end_breaks (sym (front_end 4 ws q) ∙ e);
    illegal = λ x behind q. absurd (breaks_next (sym e ∙ ap step_records q ∙ records_step x behind));
  }))
  split_records (next r rs) s ws e = by (is_label (step b s (step_at r 0)).answer) refl (split_records rs (step b s (step_at r 0)).after first.behind first.others)
    where
      first : First 4 ws r rs
      first = first_record 4 ws r rs e

      -- any step at the front is the first record's
      only : (x : Step) (behind : List ℕ) → ws ≡ step_words x ++ behind → step_at r 0 ≡ x
      only x behind q = ap (λ (l : List ℕ). step_at l 0) (next_record (sym e ∙ ap step_records q ∙ records_step x behind)) ∙ step_of_words x

      by : (t : Bool) → is_label (step b s (step_at r 0)).answer ≡ t → Split (step b s (step_at r 0)).after first.behind → Split s ws
      by true q m = subst (Split s) (sym (first_step ws r rs first)) (there s (step_at r 0) first.behind q m)
      by false q m = here s ws (inr (record {
        more = λ z. end_next (sym (front_end 4 ws z) ∙ e);
        illegal = λ x behind z. ap (λ (y : Step). is_label (step b s y).answer) (sym (only x behind z)) ∙ q;
      }))

  pub split : (s : State) (ws : List ℕ) → Split s ws
  split s ws = split_records (step_records ws) s ws refl
