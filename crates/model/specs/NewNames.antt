-- The new-name rule (document 02, request 2.3): document 004's new-name directionality (section 5) of the bench's runs.
use Rattle.std.specs.Prelude.{◌≡◌, true, false, not, cond, List, [], ◌∷◌, ℕ}
use Rattle.model.specs.Basics.{every, has}
use Rattle.model.specs.Values.{is_outside}
use Rattle.model.specs.Side.{State}
use Rattle.model.specs.Load.{Composition, load, ok}
use Rattle.model.specs.Step.{Step, silent, enters, leaves, logs, Answer, labelled, refusal, step}
use Rattle.model.specs.Runs.{answers, after_all, left_by}

-- the value of an in label of a side of the group; a refused enter brings nothing
abbrev pub entered_by : (group : List ℕ) → Answer → List ℕ
entered_by g (labelled silent n v) = []
entered_by g (labelled enters n v) = cond (has n g) v []
entered_by g (labelled leaves n v) = []
entered_by g (labelled logs n v) = []
entered_by g (refusal k n) = []

-- in a pipeline run, from load, an outside name that no in label of side 1 has brought so far is in no answer on the first outlet, whether it
-- has entered for side 2 or not at all
unfoldable pub NewNames : Type 0
NewNames = (b : Composition) (s : State) (xs : List Step) (k : Step) (x : ℕ) → b.wrapper ≡ 2 → load b ≡ ok s → is_outside x ≡ true
    → every (λ a. not (has x (entered_by (1 ∷ []) a))) (answers b s xs) ≡ true
    → has x (left_by (1 ∷ []) (step b (after_all b s xs) k).answer) ≡ false
