-- The checker's verdict is the one that holds: one always holds, and the one that holds is what the checker says.
use mathlib.Core.Path.{◌≡◌, refl, sym, ap, subst, ◌∙◌}
use mathlib.Core.Bool.{true}
use mathlib.Core.List.{List, [], ◌++◌, append-nil}
use mathlib.Core.Logic.{◌⊎◌, inl, inr}
use mathlib.Core.Option.{Option, none, some}
use Prim.Native.Nat.{ℕ, ◌≤◌}
use native.Mathlib.Nat.{zero-add}
use lib.ListN.{length}
use Rattle.model.specs.Basics.{every}
use Rattle.model.specs.Side.{State}
use Rattle.model.specs.Load.{Composition, Refused, Loaded, refused, ok, load}
use Rattle.model.specs.Step.{Step}
use Rattle.model.specs.Runs.{answers, after_all, Refusals}
use Rattle.model.proofs.Formed.Refusals.{refusals}
use Rattle.format.specs.Words.{all_step_words}
use Rattle.claims.specs.Claims.{step_records, label_records, trace_of, step_fault, label_fault, Verdict, accepted, unloaded, step_at_fault, label_at_fault, judged, check_from, check_trace, number_of, side_in, index_of}
use Rattle.claims.specs.Verdicts.{joined, Legal, labels_of, Accepts, StepFaulty, LabelFaulty, Means, VerdictIff, AcceptsIff, CheckNumbers}
use Rattle.claims.proofs.Records.{is_record, front_end}
use Rattle.claims.proofs.Steps.{fault_over, trace_whole, NoLegal, fault_no_legal, Split, split}
use Rattle.claims.proofs.Labels.{trace_records, fault_past, Parted, fault_parted, Parting, parting}

module _ (b : Composition) (ws ls : List ℕ) where
  -- WHAT THE CHECKER SAYS

  says_unloaded : {e : Refused} → load b ≡ refused e → check_trace b ws ls ≡ unloaded e
  unfolding check_trace
  says_unloaded q = ap (check_from b (step_records ws) (label_records ls)) q

  -- by what it finds of the steps and of the labels
  says : {s : State} {x y : Option ℕ} → load b ≡ ok s → step_fault b s 0 (step_records ws) ≡ x → label_fault 0 (trace_of b s (step_records ws)) (label_records ls) ≡ y → check_trace b ws ls ≡ judged x y
  unfolding check_trace
  says q h k = ap (check_from b (step_records ws) (label_records ls)) q ∙ rw (h, k) refl

  -- no step is at fault, and what comes out is what comes out of the steps
  none_faulty : (xs : List Step) (h : Legal b xs) → ws ≡ all_step_words xs → step_fault b h.state 0 (step_records ws) ≡ none
  unfolding step_fault
  none_faulty xs h q =
      ap (λ (l : List ℕ). step_fault b h.state 0 (step_records l)) (q ∙ sym (append-nil (all_step_words xs)))
      ∙ fault_over b h.state 0 xs [] h.legal
      ∙ ap (step_fault b (after_all b h.state xs) _) (front_end 4 [] refl)

  trace_is : (xs : List Step) (h : Legal b xs) → ws ≡ all_step_words xs → trace_of b h.state (step_records ws) ≡ labels_of h
  trace_is xs h q = ap (λ (l : List ℕ). trace_of b h.state (step_records l)) q ∙ trace_whole b h.state xs

  -- the check of the labels, past those that are the same
  labels_past : (xs : List Step) (h : Legal b xs) → ws ≡ all_step_words xs → (same others : List (List ℕ)) (rest : List ℕ) → labels_of h ≡ same ++ others → ls ≡ joined same ++ rest
      → label_fault 0 (trace_of b h.state (step_records ws)) (label_records ls) ≡ label_fault (length same) others (label_records rest)
  labels_past xs h q same others rest comes claimed =
      let whole : every (is_record 2) (same ++ others) ≡ true = subst (λ (l : List (List ℕ)). every (is_record 2) l ≡ true) comes (trace_records (answers b h.state xs)) in
      ap (λ (l : List (List ℕ)). label_fault 0 l (label_records ls)) (trace_is xs h q ∙ comes)
      ∙ ap (λ (l : List ℕ). label_fault 0 (same ++ others) (label_records l)) claimed
      ∙ fault_past 0 same others rest whole
      ∙ ap (λ (n : ℕ). label_fault n others (label_records rest)) (zero-add (length same))

  says_accepted : Accepts b ws ls → check_trace b ws ls ≡ accepted
  unfolding label_fault
  says_accepted h =
      let trace = labels_of h.runs in
      says h.runs.loads (none_faulty h.steps h.runs h.words)
      (labels_past h.steps h.runs h.words trace [] [] (sym (append-nil trace)) (h.labels ∙ sym (append-nil (joined trace))) ∙ ap (label_fault (length trace) []) (front_end 2 [] refl))

  says_step : (k : ℕ) → StepFaulty b ws k → check_trace b ws ls ≡ step_at_fault k
  says_step k h =
      let s = h.runs.state in
      says h.runs.loads
      (ap (λ (l : List ℕ). step_fault b s 0 (step_records l)) h.words
      ∙ fault_over b s 0 h.steps h.rest h.runs.legal
      ∙ fault_no_legal b (after_all b s h.steps) _ h.rest (record { more = h.more; illegal = h.illegal })
      ∙ ap some (zero-add (length h.steps) ∙ h.many))
      refl

  says_label : (k : ℕ) → LabelFaulty b ws ls k → check_trace b ws ls ≡ label_at_fault k
  says_label k h =
      says h.runs.loads (none_faulty h.steps h.runs h.words)
      (labels_past h.steps h.runs h.words h.same h.others h.rest h.trace h.claimed
      ∙ fault_parted (length h.same) h.others h.rest (record { ends = h.ends; parts = h.parts })
      ∙ ap some h.many)

  says_what_holds : (v : Verdict) → Means b ws ls v → check_trace b ws ls ≡ v
  says_what_holds accepted h = says_accepted h
  says_what_holds (unloaded e) h = says_unloaded h
  says_what_holds (step_at_fault k) h = says_step k h
  says_what_holds (label_at_fault k) h = says_label k h

  -- ONE HOLDS

  record Holds : Type 0 where
    pub verdict : Verdict
    pub means : Means b ws ls verdict

  -- where all steps are legal, by where the labels part
  by_labels : (xs : List Step) (h : Legal b xs) → ws ≡ all_step_words xs → Parting (labels_of h) ls → Holds
  by_labels xs h q m = by m.stops
    where
      by : ((m.others ≡ []) × (m.rest ≡ [])) ⊎ Parted m.others m.rest → Holds
      by (inl z) = record { verdict = accepted; means = record { steps = xs; runs = h; words = q; labels = whole } }
        where
          same : labels_of h ≡ m.same
          same = m.comes ∙ ap (λ (l : List (List ℕ)). m.same ++ l) z.0 ∙ append-nil m.same

          whole : ls ≡ joined (labels_of h)
          whole = m.claimed ∙ ap (λ (l : List ℕ). joined m.same ++ l) z.1 ∙ append-nil (joined m.same) ∙ ap joined (sym same)
      by (inr z) = record {
        verdict = label_at_fault (length m.same);
        means = record {
          steps = xs;
          runs = h;
          words = q;
          same = m.same;
          others = m.others;
          many = refl;
          trace = m.comes;
          rest = m.rest;
          claimed = m.claimed;
          ends = z.ends;
          parts = z.parts;
        };
      }

  -- where the load succeeds, by where the legal steps end
  by_steps : (s : State) → load b ≡ ok s → Split b s ws → Holds
  by_steps s q m = by m.stops
    where
      runs : Legal b m.steps
      runs = record { state = s; loads = q; legal = m.legal }

      by : (m.rest ≡ []) ⊎ NoLegal b (after_all b s m.steps) m.rest → Holds
      by (inl z) = by_labels m.steps runs (m.words ∙ ap (λ (l : List ℕ). all_step_words m.steps ++ l) z ∙ append-nil (all_step_words m.steps)) (parting (labels_of runs) ls)
      by (inr z) = record {
        verdict = step_at_fault (length m.steps);
        means = record { steps = m.steps; many = refl; runs = runs; rest = m.rest; words = m.words; more = z.more; illegal = z.illegal };
      }

  holds : Holds
  holds = by (load b) refl
    where
      by : (l : Loaded) → load b ≡ l → Holds
      by (refused e) q = record { verdict = unloaded e; means = q }
      by (ok s) q = by_steps s q (split b s ws)

  -- so what the checker says holds
  what_it_says_holds : (v : Verdict) → check_trace b ws ls ≡ v → Means b ws ls v
  what_it_says_holds v q = subst (Means b ws ls) (sym (says_what_holds holds.verdict holds.means) ∙ q) holds.means

pub verdict_iff : VerdictIff
unfolding VerdictIff
verdict_iff b ws ls v = (what_it_says_holds b ws ls v, says_what_holds b ws ls v)

pub accepts_iff : AcceptsIff
unfolding AcceptsIff VerdictIff
accepts_iff b ws ls = verdict_iff b ws ls accepted

pub check_numbers : CheckNumbers
unfolding CheckNumbers Refusals
check_numbers b ws ls = by (check_trace b ws ls) (what_it_says_holds b ws ls (check_trace b ws ls) refl)
  where
    by : (v : Verdict) → Means b ws ls v →
        ((number_of v ≡ 0) × Accepts b ws ls)
        ⊎ ((1 ≤ number_of v) × (number_of v ≤ 7) × (load b ≡ refused (record { number = number_of v; side = side_in v; node = index_of v })))
        ⊎ ((number_of v ≡ 20) × StepFaulty b ws (index_of v))
        ⊎ ((number_of v ≡ 21) × LabelFaulty b ws ls (index_of v))
    by accepted h = inl (refl, h)
    by (unloaded e) h = let bounds = refusals.0 b e h in inr (inl (bounds.0, bounds.1, h))
    by (step_at_fault k) h = inr (inr (inl (refl, h)))
    by (label_at_fault k) h = inr (inr (inr (refl, h)))
