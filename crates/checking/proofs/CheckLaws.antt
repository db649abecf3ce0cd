-- The steps of a list of words, made one after another.
use mathlib.Core.Path.{◌≡◌, refl, sym, ap, ap₂, ◌∙◌}
use mathlib.Core.Bool.{Bool, true, false, not}
use mathlib.Core.List.{List, [], ◌++◌}
use mathlib.Core.Option.{Option, none, some}
use Prim.Native.Nat.{ℕ, ◌+◌, ◌-◌, ◌<◌, ◌≤◌}
use native.Mathlib.Omega.{arith}
use lib.ListN.{length, get_or, take, drop, replicate}
use lib.Seq.{take-append_seam}
use Rattle.std.specs.Prelude.{Some, None, Ok}
use Rattle.std.specs.declared.result.Result.{Result}
use Rattle.model.specs.Basics.{choose}
use Rattle.model.specs.Side.{State}
use Rattle.model.specs.Load.{Composition, Loaded, ok}
use Rattle.model.specs.Step.{Step, Answer, labelled, refusal, step}
use Rattle.model.specs.Answer.{Given, given, said_by, side_by, value_by}
use Rattle.model.specs.Answer.{Said as MSaid}
use Rattle.format.specs.Words.{step_at, answer_by}
use Rattle.claims.specs.Claims.{Records, next, records_past, step_records, label_records, visible, is_label, trace_of, step_fault, label_fault, Verdict, step_at_fault, judged, check_from}
use Rattle.claims.proofs.Records.{records_next, records_broken, records_end, step_taken}
use Rattle.execution.specs.Execution.{record_end}
use Rattle.execution.proofs.RecordEnds.{found_end, found_none}
use Rattle.steps.specs.declared.Said.{Said}
use Rattle.steps.specs.declared.Said.TheVariants as said
use Rattle.answers.specs.Answers.{said_of, given_for}
use Rattle.checking.specs.declared.claimed_labels.Agreed.{Agreed}
use Rattle.checking.specs.Checking.{is_refused, shown, fault_from}

-- AN ANSWER by its parts
by_parts : (a : Answer) (d : MSaid) (n : ℕ) (v : List ℕ) → d ≡ said_by a → n ≡ side_by a → v ≡ value_by a → answer_by d n v ≡ a
by_parts (labelled l m w) d n v p q r = ap (λ (x : MSaid). answer_by x n v) p ∙ ap₂ (labelled l) q r
by_parts (refusal k m) d n v p q r = ap (λ (x : MSaid). answer_by x n v) p ∙ ap (refusal k) q

pub answer_back : (a : Answer) (s : Said) (n : ℕ) (v : List ℕ) → given_for s n v ≡ given a → answer_by (said_of s) n v ≡ a
answer_back a s n v e = by_parts a (said_of s) n v (ap (λ (g : Given). g.said) e) (ap (λ (g : Given). g.side) e) value
  where
    w : List ℕ
    w = value_by a

    many : length v ≡ length w
    many = ap (λ (g : Given). g.len) e

    -- the words before the zeros
    value : v ≡ w
    value =
        sym (take-append_seam v (replicate (16 - length v) 0))
        ∙ ap₂ take many (ap (λ (g : Given). g.words) e)
        ∙ take-append_seam w (replicate (16 - length w) 0)

said_label : (s : Said) (n : ℕ) (v : List ℕ) → is_label (answer_by (said_of s) n v) ≡ not (is_refused s)
said_label said.In n v = refl
said_label said.Out n v = refl
said_label said.Log n v = refl
said_label said.Silent n v = refl
said_label (said.Refused k) n v = refl

module _ (a : Answer) (s : Said) (n : ℕ) (v : List ℕ) (e : given_for s n v ≡ given a) where
  pub label_by : (t : Bool) → is_refused s ≡ t → is_label a ≡ not t
  label_by t q = ap is_label (sym (answer_back a s n v e)) ∙ said_label s n v ∙ ap not q

  pub shown_by : shown s n v ≡ visible a
  shown_by = ap visible (answer_back a s n v e)

-- THE PASS: what is at fault from the start on is at fault from place p on, where k steps are made
pub record Checking (b : Composition) (s : State) (l ls : List ℕ) (p k : ℕ) (t : State) (a : Result Agreed ℕ) : Type 0 where
  pub steps : step_fault b s 0 (step_records l) ≡ step_fault b t k (records_past 4 (drop p l) 0)
  pub labels : label_fault 0 (trace_of b s (step_records l)) (label_records ls) ≡ fault_from ls a (trace_of b t (records_past 4 (drop p l) 0))

pub check_start : (b : Composition) (s : State) (l ls : List ℕ) → Checking b s l ls 0 0 s (Ok (record { at = 0; count = 0 }))
check_start b s l ls = record { steps = refl; labels = refl }

module _ {b : Composition} {s : State} {l ls : List ℕ} {p k : ℕ} {t : State} {a : Result Agreed ℕ} (h : Checking b s l ls p k t a) where
  abbrev verdict : Verdict
  verdict = check_from b (step_records l) (label_records ls) (ok s)

  -- the first step at fault
  by_step : step_fault b t k (records_past 4 (drop p l) 0) ≡ some k → step_at_fault k ≡ verdict
  by_step e = sym (ap (λ (o : Option ℕ). judged o (label_fault 0 (trace_of b s (step_records l)) (label_records ls))) (h.steps ∙ e))

  pub step_breaks : p < length l → record_end 4 l p ≡ None → step_at_fault k ≡ verdict
  unfolding step_fault
  step_breaks lt e = by_step (ap (step_fault b t k) (records_broken 4 l p lt (found_none 4 l p e)))

  -- the record that is there
  module _ (e : ℕ) (f : record_end 4 l p ≡ Some e) where
    abbrev x : Step
    x = step_at l p

    here : records_past 4 (drop p l) 0 ≡ next (take (5 + get_or l (p + 4) 0) (drop p l)) (records_past 4 (drop e l) 0)
    here =
        let at = found_end 4 l p e f in
        records_next 4 l p at.1
        ∙ ap (λ (n : ℕ). next (take (5 + get_or l (p + 4) 0) (drop p l)) (records_past 4 (drop n l) 0)) (sym at.0)

    its_step : step_at (take (5 + get_or l (p + 4) 0) (drop p l)) 0 ≡ x
    its_step = let at = found_end 4 l p e f in step_taken l p (omega (arith, at.1))

    fault_here : (u : Bool) → is_label (step b t x).answer ≡ u →
        step_fault b t k (records_past 4 (drop p l) 0) ≡ choose u (step_fault b (step b t x).after (k + 1) (records_past 4 (drop e l) 0)) (some k)
    unfolding step_fault
    fault_here u q =
        let go : Step → Bool → Option ℕ = λ y z. choose z (step_fault b (step b t y).after (k + 1) (records_past 4 (drop e l) 0)) (some k) in
        ap (step_fault b t k) here ∙ ap (λ (y : Step). go y (is_label (step b t y).answer)) its_step ∙ ap (go x) q

    trace_here : trace_of b t (records_past 4 (drop p l) 0) ≡ visible (step b t x).answer ++ trace_of b (step b t x).after (records_past 4 (drop e l) 0)
    unfolding trace_of
    trace_here =
        ap (trace_of b t) here
        ∙ ap (λ (y : Step). visible (step b t y).answer ++ trace_of b (step b t y).after (records_past 4 (drop e l) 0)) its_step

    pub step_illegal : is_label (step b t x).answer ≡ false → step_at_fault k ≡ verdict
    unfolding choose
    step_illegal q = by_step (fault_here false q)

    pub step_legal : is_label (step b t x).answer ≡ true → (u : State) → u ≡ (step b t x).after → (a' : Result Agreed ℕ) →
        ((vs : List (List ℕ)) → fault_from ls a' vs ≡ fault_from ls a (visible (step b t x).answer ++ vs)) → Checking b s l ls e (k + 1) u a'
    unfolding choose
    step_legal q u after a' g = record {
      steps = h.steps ∙ fault_here true q ∙ ap (λ (y : State). step_fault b y (k + 1) (records_past 4 (drop e l) 0)) (sym after);
      labels =
          h.labels
          ∙ ap (fault_from ls a) trace_here
          ∙ sym (g (trace_of b (step b t x).after (records_past 4 (drop e l) 0)))
          ∙ ap (λ (y : State). fault_from ls a' (trace_of b y (records_past 4 (drop e l) 0))) (sym after);
    }

  -- all steps are made
  pub all_made : length l ≤ p → (v : Verdict) → v ≡ judged none (fault_from ls a []) → v ≡ verdict
  unfolding step_fault trace_of
  all_made le v e =
      let over = records_end 4 l p le in
      let steps = h.steps ∙ ap (step_fault b t k) over in
      let labels = h.labels ∙ ap (λ (r : Records). fault_from ls a (trace_of b t r)) over in
      e ∙ sym (ap₂ judged steps labels)

-- from where load leads
pub from_load : (b : Composition) (ws ls : List ℕ) (l : Loaded) (s : State) (v : Verdict) → l ≡ ok s →
    v ≡ check_from b (step_records ws) (label_records ls) (ok s) → v ≡ check_from b (step_records ws) (label_records ls) l
from_load b ws ls l s v e h = h ∙ ap (check_from b (step_records ws) (label_records ls)) (sym e)
