-- What the steps of a list of words ask of what is lent, and what they leave.
use Rattle.std.specs.Prelude.{◌≡◌, List, ℕ, ◌*◌, ◌≤◌, length, Some}
use Rattle.std.proofs.Math.Option.{some}
use Rattle.model.specs.Side.{State}
use Rattle.model.specs.Load.{Composition, ok, load}
use Rattle.model.specs.Step.{Step}
use Rattle.model.specs.Runs.{answers}
use Rattle.format.specs.Words.{steps_of, all_answer_words}
use Rattle.running.specs.Running.{count_of, Put}

-- a list of words has n steps, and the lent words have room for their answers
pub record HasRoom (l : List ℕ) (n : ℕ) (lent : List ℕ) : Type 0 where
  pub count : count_of (steps_of l) ≡ Some n
  pub room : 20 * n ≤ length lent

-- the answers to the n steps of a list, from the state s on, are put at the start of the lent words
abbrev pub AnswersPut : Composition → (s : State) → (l : List ℕ) → (n : ℕ) → (lent after : List ℕ) → Type 0
AnswersPut b s l n lent after = (xs : List Step) → steps_of l ≡ some xs → Put (all_answer_words (answers b s xs)) n lent after

-- the same from the state that load leads to
abbrev pub LoadedPut : Composition → (l : List ℕ) → (n : ℕ) → (lent after : List ℕ) → Type 0
LoadedPut b l n lent after = (s : State) → load b ≡ ok s → AnswersPut b s l n lent after
