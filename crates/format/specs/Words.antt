-- A run by words: how steps are asked for, and how answers are given.
use Rattle.std.specs.Prelude.{List, [], ◌∷◌, ◌++◌, ℕ, zero, suc, ◌+◌, ◌*◌, ltb, length, get_or, take, drop}
use Rattle.std.proofs.Math.Option.{Option, none, some}
use Rattle.model.specs.Basics.{choose}
use Rattle.model.specs.Load.{Composition, Refused, Loaded, refused, ok, load}
use Rattle.model.specs.Step.{silent, enters, leaves, logs, Step, Answer, labelled, refusal}
use Rattle.model.specs.Answer.{Said, label, number, Given, given}
use Rattle.model.specs.Runs.{answers}

-- a step before the steps of the rest; none where there are none
unfoldable pub before : Step → Option (List Step) → Option (List Step)
before x none = none
before x (some xs) = some (x ∷ xs)

-- the steps of a list of words, after c words that the step before has: for each step kind, side, i, j, the count of its
-- value words, and these. None where the list breaks off
unfoldable pub steps_after : List ℕ → (c : ℕ) → Option (List Step)
steps_after [] zero = some []
steps_after [] (suc c) = none
steps_after (w ∷ ws) (suc c) = steps_after ws c
steps_after (k ∷ []) zero = none
steps_after (k ∷ n ∷ []) zero = none
steps_after (k ∷ n ∷ i ∷ []) zero = none
steps_after (k ∷ n ∷ i ∷ j ∷ []) zero = none
steps_after (k ∷ n ∷ i ∷ j ∷ c ∷ ws) zero = before (record { kind = k; side = n; i = i; j = j; words = take c ws }) (steps_after ws c)

abbrev pub steps_of : List ℕ → Option (List Step)
steps_of ws = steps_after ws 0

-- the step whose words stand at place p
abbrev pub step_at : List ℕ → ℕ → Step
step_at l p = record { kind = get_or l p 0; side = get_or l (p + 1) 0; i = get_or l (p + 2) 0; j = get_or l (p + 3) 0; words = take (get_or l (p + 4) 0) (drop (p + 5) l) }

-- a step in words
abbrev pub step_words : Step → List ℕ
step_words x = x.kind ∷ x.side ∷ x.i ∷ x.j ∷ length x.words ∷ x.words

abbrev pub all_step_words : List Step → List ℕ
all_step_words [] = []
all_step_words (x ∷ xs) = step_words x ++ all_step_words xs

-- what an answer says, in two words: 0 silent, 1 in, 2 out, 3 refused, 4 log; and the refusal's number
abbrev pub said_words : Said → List ℕ
said_words (label silent) = 0 ∷ 0 ∷ []
said_words (label enters) = 1 ∷ 0 ∷ []
said_words (label leaves) = 2 ∷ 0 ∷ []
said_words (label logs) = 4 ∷ 0 ∷ []
said_words (number k) = 3 ∷ k ∷ []

-- an answer in 20 words: what it says, its side, its value's length, and 16 words, zero past the length
abbrev pub given_words : Given → List ℕ
given_words g = said_words g.said ++ (g.side ∷ g.len ∷ g.words)

abbrev pub answer_words : Answer → List ℕ
answer_words a = given_words (given a)

abbrev pub all_answer_words : List Answer → List ℕ
all_answer_words [] = []
all_answer_words (a ∷ xs) = answer_words a ++ all_answer_words xs

-- what two words say, by `said_words`
abbrev pub said_in : (word k : ℕ) → Said
said_in zero k = label silent
said_in (suc zero) k = label enters
said_in (suc (suc zero)) k = label leaves
said_in (suc (suc (suc zero))) k = number k
said_in (suc (suc (suc (suc zero)))) k = label logs
said_in (suc (suc (suc (suc (suc w))))) k = number k

-- an answer of side n that says so, with the value words v
abbrev pub answer_by : Said → (n : ℕ) → (v : List ℕ) → Answer
answer_by (label l) n v = labelled l n v
answer_by (number k) n v = refusal k n

-- the answer whose words stand at the start of a list
abbrev pub answer_of : List ℕ → Answer
answer_of ws = answer_by (said_in (get_or ws 0 0) (get_or ws 1 0)) (get_or ws 2 0) (take (get_or ws 3 0) (drop 4 ws))

-- the n answers at the start of a list, 20 words each
unfoldable pub answers_of : (n : ℕ) → List ℕ → List Answer
answers_of zero ws = []
answers_of (suc n) ws = answer_of ws ∷ answers_of n (drop 20 ws)

-- what a run comes to: its steps break off, the words lent for the answers are too few, load refuses, or the answers
pub data Ran : Type 0 where
  broken_off too_short : Ran
  unloaded : Refused → Ran
  answered : List Answer → Ran

-- a run of some steps from what load gives
abbrev pub run_from : Composition → List Step → Loaded → Ran
run_from b xs (refused e) = unloaded e
run_from b xs (ok s) = answered (answers b s xs)

-- a run of the steps of a list, where it does not break off, with room for some words
abbrev pub run_steps : Composition → (room : ℕ) → Option (List Step) → Ran
run_steps b room none = broken_off
run_steps b room (some xs) = choose (ltb room (20 * length xs)) too_short (run_from b xs (load b))

abbrev pub run_of : Composition → List ℕ → (room : ℕ) → Ran
run_of b ws room = run_steps b room (steps_of ws)

-- the words that a run writes
abbrev pub written_by : Ran → List ℕ
written_by broken_off = []
written_by too_short = []
written_by (unloaded e) = []
written_by (answered xs) = all_answer_words xs

-- a lent list with some words written at its start
abbrev pub onto : (written lent : List ℕ) → List ℕ
onto ws l = ws ++ drop (length ws) l
