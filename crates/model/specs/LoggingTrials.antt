-- Trials of the logging wrapper (document 02, request 2.1): where copies stand, what they fill, what they let out.
use Rattle.std.specs.Prelude.{◌≡◌, List, [], ◌∷◌, ◌++◌, map, ℕ}
use Rattle.std.proofs.Math.Option.{none}
use Rattle.model.specs.Load.{Composition, load}
use Rattle.model.specs.Step.{Answer, labelled, logs}
use Rattle.model.specs.Trials.{Trial, outcome, node, filter, pipeline, ask, entering, tau, inward, outward, no, expect, nothing_at_all, copier, times}
use Rattle.model.specs.MoreTrials.{LoadRow, saying, refusal_of}

-- wrapper 3 round the tables of a composition
abbrev pub logged : Composition → Composition
logged b = record { wrapper = 3; tables = b.tables }

abbrev pub log : ℕ → List ℕ → Answer
log side v = labelled logs side v

-- listing A's handler, logged: the copy stands before the down message at enter, and behind the message at pass
abbrev pub in_order : Trial
in_order = record {
  composition = logged copier;
  steps = entering 1 (20 ∷ []) ∷ ask 2 1 0 0 ∷ ask 7 1 1 0 ∷ ask 7 1 0 0 ∷ ask 2 1 0 0 ∷ ask 5 1 1 0 ∷ ask 3 1 1 0 ∷ ask 6 1 0 0 ∷ ask 7 1 0 0 ∷ ask 7 1 0 0 ∷ ask 7 1 0 0 ∷ [];
  asked = 1;
  expected = expect (inward 1 (20 ∷ []) ∷ no 1 13 ∷ no 1 13 ∷ log 1 (20 ∷ []) ∷ tau 1 ∷ tau 1 ∷ tau 1 ∷ tau 1 ∷ outward 1 (4000002 ∷ 20 ∷ 20 ∷ []) ∷ log 1 (4000002 ∷ 20 ∷ 20 ∷ []) ∷ no 1 10 ∷ []);
}

-- with messages behind it: the message that passes keeps its place, and its copy is the last
abbrev pub copy_last : Trial
copy_last = record {
  composition = logged copier;
  steps = entering 1 (20 ∷ []) ∷ ask 2 1 1 0 ∷ ask 5 1 1 0 ∷ ask 3 1 1 0 ∷ entering 1 (21 ∷ []) ∷ ask 6 1 1 0 ∷ ask 7 1 4 0 ∷ ask 7 1 2 0 ∷ ask 7 1 0 0 ∷ ask 7 1 0 0 ∷ ask 2 1 0 0 ∷ [];
  asked = 1;
  expected = expect (inward 1 (20 ∷ []) ∷ tau 1 ∷ tau 1 ∷ tau 1 ∷ inward 1 (21 ∷ []) ∷ tau 1 ∷ log 1 (4000002 ∷ 20 ∷ 20 ∷ []) ∷ log 1 (21 ∷ []) ∷ log 1 (20 ∷ [])
      ∷ outward 1 (4000002 ∷ 20 ∷ 20 ∷ []) ∷ tau 1 ∷ []);
}

-- enter needs two places: with 16 and with 15 in the lobby 17, with 14 not
abbrev pub full_at_enter : Trial
full_at_enter = record {
  composition = logged (filter nothing_at_all []);
  steps = times 8 (entering 1 (20 ∷ [])) ++ (entering 1 (20 ∷ []) ∷ ask 7 1 0 0 ∷ entering 1 (20 ∷ []) ∷ ask 7 1 1 0 ∷ entering 1 (20 ∷ []) ∷ []);
  asked = 1;
  expected = expect (times 8 (inward 1 (20 ∷ [])) ++ (no 1 17 ∷ log 1 (20 ∷ []) ∷ no 1 17 ∷ log 1 (20 ∷ []) ∷ inward 1 (20 ∷ []) ∷ []));
}

-- pass needs one: with 16 in the lobby 17, and the message stays arrived; with 15 not. The handler is `out 20 | out 21` to its parent
abbrev pub full_at_pass : Trial
full_at_pass = record {
  composition = logged (filter (node 1 1 2 0 0 (node 4 1 1 0 0 (node 4 1 1 1 0 []))) (20 ∷ 21 ∷ []));
  steps = ask 3 1 0 0 ∷ ask 3 1 0 0 ∷ (times 7 (entering 1 (20 ∷ [])) ++ (ask 6 1 0 0 ∷ ask 7 1 0 0 ∷ ask 7 1 2 0 ∷ ask 6 1 0 0 ∷ ask 6 1 1 0 ∷ ask 7 1 15 0 ∷ ask 7 1 0 0 ∷ []));
  asked = 1;
  expected = expect (tau 1 ∷ tau 1 ∷ (times 7 (inward 1 (20 ∷ [])) ++ (no 1 17 ∷ no 1 13 ∷ log 1 (20 ∷ []) ∷ tau 1 ∷ no 1 17 ∷ log 1 (20 ∷ []) ∷ outward 1 (20 ∷ []) ∷ [])));
}

-- a minted name that leaves first on `log` has left: `(new 9) out 9` to its parent
abbrev pub left_by_copy : Trial
left_by_copy = record {
  composition = logged (filter (node 3 9 1 0 0 (node 4 1 1 0 0 [])) (9 ∷ []));
  steps = ask 3 1 0 0 ∷ ask 6 1 0 0 ∷ entering 1 (65536 ∷ []) ∷ ask 7 1 1 0 ∷ entering 1 (65536 ∷ []) ∷ ask 7 1 0 0 ∷ [];
  asked = 1;
  expected = expect (tau 1 ∷ tau 1 ∷ no 1 12 ∷ log 1 (65536 ∷ []) ∷ inward 1 (65536 ∷ []) ∷ outward 1 (65536 ∷ []) ∷ []);
}

-- what a handler sends up on `log` or `mid` is stranded, and not logged
abbrev pub not_logged : Trial
not_logged = record {
  composition = logged (filter (node 1 1 2 0 0 (node 4 3 1 0 0 (node 4 2 1 0 0 []))) (20 ∷ []));
  steps = ask 3 1 0 0 ∷ ask 3 1 0 0 ∷ ask 6 1 0 0 ∷ ask 7 1 0 0 ∷ ask 6 1 1 0 ∷ [];
  asked = 1;
  expected = record { answers = tau 1 ∷ tau 1 ∷ no 1 13 ∷ no 1 13 ∷ no 1 13 ∷ []; positions = 0 ∷ 1 ∷ [] };
}

-- nobody takes, and there is no side 2
abbrev pub side_one_alone : Trial
side_one_alone = record {
  composition = logged (filter nothing_at_all []);
  steps = ask 8 1 0 0 ∷ ask 8 2 0 0 ∷ entering 2 (20 ∷ []) ∷ [];
  asked = 2;
  expected = expect (no 1 10 ∷ no 2 10 ∷ no 2 10 ∷ []);
}

abbrev pub logging_trials : List Trial
logging_trials = in_order ∷ copy_last ∷ full_at_enter ∷ full_at_pass ∷ left_by_copy ∷ not_logged ∷ side_one_alone ∷ []

-- load: side 1 wholly, then side 2's slices must be empty
abbrev pub logging_rows : List LoadRow
logging_rows =
    saying 1 1 0 (logged (pipeline [] [] nothing_at_all []))
    ∷ saying 2 1 0 (logged (pipeline (node 7 0 0 0 0 []) [] nothing_at_all []))
    ∷ saying 1 2 0 (logged (pipeline nothing_at_all [] nothing_at_all []))
    ∷ saying 1 2 0 (logged (pipeline nothing_at_all [] [] (0 ∷ [])))
    ∷ record { composition = logged (pipeline nothing_at_all [] [] []); expected = none }
    ∷ []

unfoldable pub LoggingTrials : Type 0
LoggingTrials =
    (map outcome logging_trials ≡ map (λ t. t.expected) logging_trials)
    × (map (λ r. refusal_of (load r.composition)) logging_rows ≡ map (λ r. r.expected) logging_rows)
