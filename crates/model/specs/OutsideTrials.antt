-- Trials of names brought from outside (document 02, request 2.3): which enter, what they may be, where they come out, and two runs with them.
use Rattle.std.specs.Prelude.{◌≡◌, true, List, [], ◌∷◌, map, ℕ}
use Rattle.model.specs.Side.{State, side}
use Rattle.model.specs.Load.{Composition, load, ok}
use Rattle.model.specs.WellFormed.{clear}
use Rattle.model.specs.Step.{Step, Answer}
use Rattle.model.specs.Runs.{steps_of, answers, after_all, premise}
use Rattle.model.specs.Trials.{Trial, outcome, node, filter, pipeline, ask, entering, tau, inward, outward, no, expect, nothing_at_all, copier}
use Rattle.model.specs.MoreTrials.{LoadRow, saying, refusal_of}
use Rattle.model.specs.LoggingTrials.{logged, log}
use Rattle.model.specs.Corollaries.{answers_to1}

-- 196,608 to 196,863 enter, and those beside them give 11; a minted name beside one still gives 12, and a foreign one 11
abbrev pub edges : Trial
edges = record {
  composition = filter (node 3 9 1 0 0 nothing_at_all) [];
  steps = entering 1 (196607 ∷ []) ∷ entering 1 (196608 ∷ []) ∷ entering 1 (196863 ∷ []) ∷ entering 1 (196864 ∷ []) ∷ entering 1 (4000002 ∷ 196608 ∷ 65536 ∷ [])
      ∷ entering 1 (4000003 ∷ 65536 ∷ 196608 ∷ 196864 ∷ []) ∷ entering 2 (196608 ∷ []) ∷ [];
  asked = 1;
  expected = expect (no 1 11 ∷ inward 1 (196608 ∷ []) ∷ inward 1 (196863 ∷ []) ∷ no 1 11 ∷ no 1 12 ∷ no 1 11 ∷ no 2 10 ∷ []);
}

-- twice in a tuple, through the copier; logged as it enters
abbrev pub twice : Trial
twice = record {
  composition = logged copier;
  steps = entering 1 (4000002 ∷ 196608 ∷ 196608 ∷ []) ∷ ask 7 1 0 0 ∷ ask 2 1 0 0 ∷ ask 5 1 1 0 ∷ ask 3 1 1 0 ∷ ask 6 1 0 0 ∷ ask 7 1 0 0 ∷ [];
  asked = 1;
  expected = expect (inward 1 (4000002 ∷ 196608 ∷ 196608 ∷ []) ∷ log 1 (4000002 ∷ 196608 ∷ 196608 ∷ []) ∷ tau 1 ∷ tau 1 ∷ tau 1 ∷ tau 1
      ∷ outward 1 (4000002 ∷ 4000002 ∷ 196608 ∷ 196608 ∷ 4000002 ∷ 196608 ∷ 196608 ∷ []) ∷ []);
}

-- as a channel, by binding: `!in y. (y <20> | y z. out z)`; the output and the input meet on it
abbrev pub as_channel : Trial
as_channel = record {
  composition = filter (node 6 0 1 0 1 (node 1 2 3 0 0 (node 4 10 0 1 0 (node 5 10 0 2 4 (node 4 1 1 2 0 []))))) (10 ∷ 20 ∷ 11 ∷ []);
  steps = entering 1 (196608 ∷ []) ∷ ask 2 1 0 0 ∷ ask 5 1 1 0 ∷ ask 5 1 1 2 ∷ ask 3 1 1 0 ∷ ask 6 1 0 0 ∷ ask 7 1 0 0 ∷ [];
  asked = 1;
  expected = expect (inward 1 (196608 ∷ []) ∷ tau 1 ∷ tau 1 ∷ tau 1 ∷ tau 1 ∷ tau 1 ∷ outward 1 (20 ∷ []) ∷ []);
}

-- and what goes up on it is stranded
abbrev pub stranded_on : Trial
stranded_on = record {
  composition = filter (node 6 0 1 0 1 (node 4 10 1 1 0 [])) (10 ∷ 20 ∷ []);
  steps = entering 1 (196863 ∷ []) ∷ ask 2 1 0 0 ∷ ask 5 1 1 0 ∷ ask 3 1 1 0 ∷ ask 6 1 0 0 ∷ [];
  asked = 1;
  expected = record { answers = inward 1 (196863 ∷ []) ∷ tau 1 ∷ tau 1 ∷ tau 1 ∷ no 1 13 ∷ []; positions = 0 ∷ [] };
}

-- as a box name and as a tag, by binding: `!in y. (y[5^up z. 6^up z] | 5^y y | 6^y z. out^up z)`; into the box, out of it, and out
abbrev pub as_box_and_tag : Trial
as_box_and_tag = record {
  composition = filter (node 6 0 1 0 1 (node 1 2 5 0 0 (node 2 10 3 0 0 (node 5 5 1 1 4 (node 4 6 1 1 0 (node 1 6 7 0 0 (node 4 5 12 0 0 (node 5 6 12 1 8 (node 4 1 1 1 0 []))))))))) (10 ∷ 11 ∷ []);
  steps = entering 1 (196863 ∷ []) ∷ ask 2 1 0 0 ∷ ask 5 1 1 0 ∷ ask 4 1 2 1 ∷ ask 5 1 2 1 ∷ ask 3 1 2 0 ∷ ask 5 1 2 1 ∷ ask 3 1 1 0 ∷ ask 6 1 0 0 ∷ ask 7 1 0 0 ∷ [];
  asked = 1;
  expected = expect (inward 1 (196863 ∷ []) ∷ tau 1 ∷ tau 1 ∷ tau 1 ∷ tau 1 ∷ tau 1 ∷ tau 1 ∷ tau 1 ∷ tau 1 ∷ outward 1 (196863 ∷ []) ∷ []);
}

-- `!in y. mid y` and `!mid y. out y`, each from its parent and to it
abbrev pub to_mid : List ℕ
to_mid = node 6 0 1 0 1 (node 4 2 1 0 0 [])

abbrev pub mid_to_out : List ℕ
mid_to_out = node 6 2 1 0 1 (node 4 1 1 0 0 [])

-- over `mid` and out of outlet 2
abbrev pub over_mid : Trial
over_mid = record {
  composition = pipeline to_mid (10 ∷ []) mid_to_out (10 ∷ []);
  steps = entering 1 (196608 ∷ []) ∷ ask 2 1 0 0 ∷ ask 5 1 1 0 ∷ ask 3 1 1 0 ∷ ask 8 2 0 0 ∷ ask 2 2 0 0 ∷ ask 5 2 1 0 ∷ ask 3 2 1 0 ∷ ask 6 2 0 0 ∷ ask 7 2 0 0 ∷ [];
  asked = 2;
  expected = expect (inward 1 (196608 ∷ []) ∷ tau 1 ∷ tau 1 ∷ tau 1 ∷ tau 2 ∷ tau 2 ∷ tau 2 ∷ tau 2 ∷ tau 2 ∷ outward 2 (196608 ∷ []) ∷ []);
}

-- entered on side 2 alone: sent up on `mid` it stays in side 2's lobby, and side 1 has nothing to take or to let out
abbrev pub on_side2_alone : Trial
on_side2_alone = record {
  composition = pipeline to_mid (10 ∷ []) to_mid (10 ∷ []);
  steps = entering 2 (196700 ∷ []) ∷ ask 2 2 0 0 ∷ ask 5 2 1 0 ∷ ask 3 2 1 0 ∷ ask 8 1 0 0 ∷ ask 6 1 0 0 ∷ ask 7 1 0 0 ∷ ask 6 2 0 0 ∷ [];
  asked = 2;
  expected = record { answers = inward 2 (196700 ∷ []) ∷ tau 2 ∷ tau 2 ∷ tau 2 ∷ no 1 10 ∷ no 1 10 ∷ no 1 10 ∷ no 2 13 ∷ []; positions = 0 ∷ [] };
}

abbrev pub outside_trials : List Trial
outside_trials = edges ∷ twice ∷ as_channel ∷ stranded_on ∷ as_box_and_tag ∷ over_mid ∷ on_side2_alone ∷ []

-- a table may not hold one, in a value or in a pattern
abbrev pub outside_rows : List LoadRow
outside_rows = saying 5 1 0 (filter (node 4 1 1 0 0 []) (196608 ∷ [])) ∷ saying 5 1 0 (filter (node 5 0 1 0 1 nothing_at_all) (4000002 ∷ 10 ∷ 196863 ∷ [])) ∷ []

-- TWO RUNS of the copier as side 1, in which one outside name enters for side 1. In one run side 2 is nil and does nothing; in the other it has
-- entered that name and another, before and after
abbrev pub copying : List ℕ → List ℕ → Composition
copying nodes pool = pipeline (node 6 0 1 0 1 (node 4 1 1 1 0 [])) (10 ∷ 4000002 ∷ 10 ∷ 10 ∷ []) nodes pool

abbrev pub alone : List Step
alone = entering 1 (196608 ∷ []) ∷ ask 2 1 0 0 ∷ ask 5 1 1 0 ∷ ask 3 1 1 0 ∷ ask 6 1 0 0 ∷ ask 7 1 0 0 ∷ []

abbrev pub besides : List Step
besides = entering 2 (4000002 ∷ 196608 ∷ 196700 ∷ []) ∷ entering 1 (196608 ∷ []) ∷ ask 2 2 0 0 ∷ ask 2 1 0 0 ∷ ask 5 1 1 0 ∷ ask 5 2 1 0 ∷ ask 3 1 1 0 ∷ ask 3 2 1 0 ∷ ask 6 1 0 0 ∷ entering 2 (196608 ∷ []) ∷ ask 7 1 0 0 ∷ []

abbrev pub side1_answers : List Answer
side1_answers = inward 1 (196608 ∷ []) ∷ tau 1 ∷ tau 1 ∷ tau 1 ∷ tau 1 ∷ outward 1 (4000002 ∷ 196608 ∷ 196608 ∷ []) ∷ []

-- the premise of independence holds of both; side 1's answers are the same; and no mark says that the name has left
unfoldable pub OutsideRuns : Type 0
OutsideRuns = (s s' : State) × (load (copying nothing_at_all []) ≡ ok s) × (load (copying to_mid (10 ∷ [])) ≡ ok s') × (steps_of (1 ∷ []) alone ≡ steps_of (1 ∷ []) besides)
    × (premise (1 ∷ []) (copying nothing_at_all []) [] s alone ≡ true) × (premise (1 ∷ []) (copying to_mid (10 ∷ [])) [] s' besides ≡ true)
    × (answers_to1 alone (answers (copying nothing_at_all []) s alone) ≡ side1_answers) × (answers_to1 besides (answers (copying to_mid (10 ∷ [])) s' besides) ≡ side1_answers)
    × (clear (side (after_all (copying nothing_at_all []) s alone) 1).left ≡ true)

unfoldable pub OutsideTrials : Type 0
OutsideTrials =
    (map outcome outside_trials ≡ map (λ t. t.expected) outside_trials)
    × (map (λ r. refusal_of (load r.composition)) outside_rows ≡ map (λ r. r.expected) outside_rows)
