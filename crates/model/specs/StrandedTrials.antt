-- Trials of document 02's 2.5: all sixteen messages stranded, positions after a gap has closed, the logging wrapper.
use Rattle.std.specs.Prelude.{◌≡◌, List, [], ◌∷◌, ◌++◌, map, ℕ}
use Rattle.model.specs.Trials.{Trial, outcome, filter, ask, entering, tau, inward, no, times}
use Rattle.model.specs.MoreTrials.{outputs, up_on}
use Rattle.model.specs.LoggingTrials.{logged, log}

-- sixteen go up on 5 and fill the lobby: all are stranded
abbrev pub sixteen : List ℕ
sixteen = 0 ∷ 1 ∷ 2 ∷ 3 ∷ 4 ∷ 5 ∷ 6 ∷ 7 ∷ 8 ∷ 9 ∷ 10 ∷ 11 ∷ 12 ∷ 13 ∷ 14 ∷ 15 ∷ []

abbrev pub all_sixteen : Trial
all_sixteen = record {
  composition = filter (outputs 5 1 16 0) (20 ∷ []);
  steps = times 17 (ask 3 1 0 0);
  asked = 1;
  expected = record { answers = times 16 (tau 1) ++ (no 1 17 ∷ []); positions = sixteen };
}

-- what went down closes its gap: the stranded behind it have smaller positions then
abbrev pub gap_closes : Trial
gap_closes = record {
  composition = filter (up_on (5 ∷ 1 ∷ 5 ∷ []) 0) (20 ∷ []);
  steps = entering 1 (21 ∷ []) ∷ ask 3 1 0 0 ∷ ask 3 1 0 0 ∷ ask 3 1 0 0 ∷ ask 2 1 0 0 ∷ [];
  asked = 1;
  expected = record { answers = inward 1 (21 ∷ []) ∷ times 4 (tau 1); positions = 0 ∷ 2 ∷ [] };
}

-- logged: the copy of what entered, the message itself, then the stranded one; the copy leaves
abbrev pub behind_copies : Trial
behind_copies = record {
  composition = logged (filter (up_on (5 ∷ []) 0) (20 ∷ []));
  steps = entering 1 (21 ∷ []) ∷ ask 3 1 0 0 ∷ ask 7 1 0 0 ∷ [];
  asked = 1;
  expected = record { answers = inward 1 (21 ∷ []) ∷ tau 1 ∷ log 1 (21 ∷ []) ∷ []; positions = 1 ∷ [] };
}

abbrev pub stranded_trials : List Trial
stranded_trials = all_sixteen ∷ gap_closes ∷ behind_copies ∷ []

unfoldable pub StrandedTrials : Type 0
StrandedTrials = map outcome stranded_trials ≡ map (λ t. t.expected) stranded_trials
