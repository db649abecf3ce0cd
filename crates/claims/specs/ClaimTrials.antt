-- Trials of the checker (document 02, request 2.4): claims by words, and the verdict on each.
use Rattle.std.specs.Prelude.{◌≡◌, List, [], ◌∷◌, ◌++◌, map, ℕ, zero, suc, length}
use Rattle.model.specs.Load.{Composition}
use Rattle.model.specs.Step.{Step}
use Rattle.model.specs.Trials.{node, pipeline, ask, entering, nothing_at_all, copier, trial_c}
use Rattle.model.specs.LoggingTrials.{logged}
use Rattle.model.specs.OutsideTrials.{as_box_and_tag}
use Rattle.format.specs.Words.{step_words, all_step_words}
use Rattle.claims.specs.Claims.{Verdict, accepted, unloaded, step_at_fault, label_at_fault, check_trace}

pub record ClaimTrial : Type 0 where
  pub composition : Composition
  pub steps : List ℕ
  pub labels : List ℕ
  pub expected : Verdict

abbrev pub claim : Composition → (steps labels : List ℕ) → Verdict → ClaimTrial
claim b ws ls v = record { composition = b; steps = ws; labels = ls; expected = v }

-- the record of a label, on channel 0 `in`, 1 `out` or 3 `log`
abbrev pub label : (channel side : ℕ) → List ℕ → List ℕ
label c n v = c ∷ n ∷ length v ∷ v

-- document 01's listing A: 20 enters, and its copy leaves; and the two labels of this
abbrev pub copying : List ℕ
copying = all_step_words (entering 1 (20 ∷ []) ∷ ask 2 1 0 0 ∷ ask 5 1 1 0 ∷ ask 3 1 1 0 ∷ ask 6 1 0 0 ∷ ask 7 1 0 0 ∷ [])

abbrev pub pair : List ℕ
pair = 4000002 ∷ 20 ∷ 20 ∷ []

abbrev pub in_label : List ℕ
in_label = label 0 1 (20 ∷ [])

abbrev pub out_label : List ℕ
out_label = label 1 1 pair

-- 20 enters
abbrev pub entry : List ℕ
entry = step_words (entering 1 (20 ∷ []))

-- a pass that is refused: 13 where lobby 0 has not arrived, 10 where there is none
abbrev pub refused_step : List ℕ
refused_step = step_words (ask 6 1 0 0)

abbrev pub whole_rows : List ClaimTrial
whole_rows =
    -- nothing is claimed of a load that succeeds
    claim copier [] [] accepted
    -- listing A, whole
    ∷ claim copier copying (in_label ++ out_label) accepted
    -- a load that is refused keeps its number, side and node, and broken lists are not seen
    ∷ claim (pipeline nothing_at_all [] (node 1 1 2 0 0 (node 4 5 0 0 0 nothing_at_all)) []) (1 ∷ []) (0 ∷ []) (unloaded (record { number = 5; side = 2; node = 1 }))
    ∷ []

-- the step at a place with a value word, all else as it was
abbrev pub worded : (place : ℕ) → List Step → List Step
worded k [] = []
worded zero (x ∷ xs) = record { kind = x.kind; side = x.side; i = x.i; j = x.j; words = 20 ∷ [] } ∷ xs
worded (suc k) (x ∷ xs) = x ∷ worded k xs

abbrev pub worded_at : ℕ → ClaimTrial
worded_at k = claim as_box_and_tag.composition (all_step_words (worded k as_box_and_tag.steps)) [] (step_at_fault k)

-- side 1 sends up on `mid`, and side 2 takes
abbrev pub taking : List Step
taking = ask 3 1 0 0 ∷ ask 8 2 0 0 ∷ []

abbrev pub step_rows : List ClaimTrial
step_rows =
    -- a refused step, before a record that breaks off and before one that is whole
    claim copier (entry ++ refused_step ++ (2 ∷ [])) in_label (step_at_fault 1)
    ∷ claim copier (entry ++ refused_step ++ entry) in_label (step_at_fault 1)
    -- a record that breaks off: after one word, before its count, in its value, and with the largest count
    ∷ claim copier (entry ++ (2 ∷ [])) in_label (step_at_fault 1)
    ∷ claim copier (entry ++ (2 ∷ 1 ∷ 0 ∷ 0 ∷ [])) in_label (step_at_fault 1)
    ∷ claim copier (entry ++ (1 ∷ 1 ∷ 0 ∷ 0 ∷ 3 ∷ 4000002 ∷ 20 ∷ [])) in_label (step_at_fault 1)
    ∷ claim copier (1 ∷ 1 ∷ 0 ∷ 0 ∷ 4294967295 ∷ 20 ∷ []) [] (step_at_fault 0)
    -- behind a refused step a label record that breaks off is not seen
    ∷ claim copier (entry ++ refused_step) (in_label ++ (1 ∷ [])) (step_at_fault 1)
    -- both lists at fault: the step's, though the label's fault comes earlier in the run
    ∷ claim copier (copying ++ refused_step) (label 0 1 (21 ∷ [])) (step_at_fault 6)
    -- value words with kinds 2, 5, 4, 3, 6 and 7, of a run that is accepted without them
    ∷ claim as_box_and_tag.composition (all_step_words as_box_and_tag.steps) (label 0 1 (196863 ∷ []) ++ label 1 1 (196863 ∷ [])) accepted
    ∷ worded_at 1
    ∷ worded_at 2
    ∷ worded_at 3
    ∷ worded_at 5
    ∷ worded_at 8
    ∷ worded_at 9
    -- and with kind 8
    ∷ claim trial_c.composition (all_step_words taking) [] accepted
    ∷ claim trial_c.composition (all_step_words (worded 1 taking)) [] (step_at_fault 1)
    ∷ []

-- listing A with some labels claimed
abbrev pub copying_as : (labels : List ℕ) → Verdict → ClaimTrial
copying_as ls v = claim copier copying ls v

-- the copier, logged: 20 enters, and its copy leaves
abbrev pub logged_as : (labels : List ℕ) → Verdict → ClaimTrial
logged_as ls v = claim (logged copier) (entry ++ step_words (ask 7 1 0 0)) ls v

abbrev pub label_rows : List ClaimTrial
label_rows =
    -- too few: none, and one of two
    copying_as [] (label_at_fault 0)
    ∷ copying_as in_label (label_at_fault 1)
    -- too many: a third, and one where no step is claimed
    ∷ copying_as (in_label ++ out_label ++ out_label) (label_at_fault 2)
    ∷ claim copier [] in_label (label_at_fault 0)
    -- a record that breaks off: before its count, in its value, with the largest count, and behind the last
    ∷ copying_as (in_label ++ (1 ∷ 1 ∷ [])) (label_at_fault 1)
    ∷ copying_as (in_label ++ (1 ∷ 1 ∷ 3 ∷ 4000002 ∷ 20 ∷ [])) (label_at_fault 1)
    ∷ copying_as (in_label ++ (1 ∷ 1 ∷ 4294967295 ∷ pair)) (label_at_fault 1)
    ∷ copying_as (in_label ++ out_label ++ (1 ∷ [])) (label_at_fault 2)
    -- the right value on another side, and on another channel
    ∷ copying_as (in_label ++ label 1 2 pair) (label_at_fault 1)
    ∷ copying_as (in_label ++ label 0 1 pair) (label_at_fault 1)
    ∷ copying_as (label 1 1 (20 ∷ []) ++ out_label) (label_at_fault 0)
    -- another last word, a word too many, and a word too few
    ∷ copying_as (in_label ++ label 1 1 (4000002 ∷ 20 ∷ 21 ∷ [])) (label_at_fault 1)
    ∷ copying_as (in_label ++ label 1 1 (pair ++ (20 ∷ []))) (label_at_fault 1)
    ∷ copying_as (in_label ++ label 1 1 (4000002 ∷ 20 ∷ [])) (label_at_fault 1)
    -- the two exchanged
    ∷ copying_as (out_label ++ in_label) (label_at_fault 0)
    -- a silent step claimed as a label
    ∷ claim copier (entry ++ step_words (ask 2 1 0 0)) (in_label ++ label 0 1 []) (label_at_fault 1)
    -- `log` is on channel 3, and not on 2 or 1
    ∷ logged_as (in_label ++ label 3 1 (20 ∷ [])) accepted
    ∷ logged_as (in_label ++ label 2 1 (20 ∷ [])) (label_at_fault 1)
    ∷ logged_as (in_label ++ label 1 1 (20 ∷ [])) (label_at_fault 1)
    ∷ []

abbrev pub claim_trials : List ClaimTrial
claim_trials = whole_rows ++ step_rows ++ label_rows

unfoldable pub ClaimTrials : Type 0
ClaimTrials = map (λ t. check_trace t.composition t.steps t.labels) claim_trials ≡ map (λ t. t.expected) claim_trials
