-- The answer to a step, and the state beside it; what a state's struct holds, side by side.
use Rattle.std.specs.Prelude.{◌≡◌, Bool, true, List, [], map, ℕ, ◌<◌, length, get_or, set}
use Rattle.model.specs.Wrapper.{all_sides}
use Rattle.model.specs.Load.{Composition}
use Rattle.model.specs.Step.{Step, refusal, Result, answer_to, after_step}
use Rattle.model.specs.Answer.{Given, given}
use Rattle.sides.specs.declared.Rest.{Rest}
use Rattle.sides.specs.declared.Side.{Side}
use Rattle.sides.specs.declared.State.{State}
use Rattle.sides.specs.Sides.{view_state, state_of, fits_arrays}
use Rattle.steps.specs.declared.Said.{Said}
use Rattle.answers.specs.Answers.{Padded, said_of, is_refusal}
use Rattle.interpreter.specs.declared.Stepped.{Stepped}

-- the words of all sides, their rests and their marks
abbrev pub words_in : State → List (List ℕ)
words_in s = map (λ (o : Side). o.words) s.sides

abbrev pub rests_in : State → List Rest
rests_in s = map (λ (o : Side). o.rest) s.sides

abbrev pub left_in : State → List (List Bool)
left_in s = map (λ (o : Side). o.left) s.sides

-- each side has all its words
pub record AllLong (ls : List (List ℕ)) : Type 0 where
  pub long : (k : ℕ) → k < length all_sides → length (get_or ls k []) ≡ 5184

-- the state with another side at place k
abbrev pub put_at : State → ℕ → List ℕ → Rest → List Bool → State
put_at s k w o m = record { sides = set s.sides k (record { words = w; rest = o; left = m }) }

-- r is an answer with its side and its value's words, beside a state
pub record Answered (a : Said) (n : ℕ) (l : List ℕ) (t : State) (r : Stepped) : Type 0 where
  pub says : r.said ≡ a
  pub side : r.side ≡ n
  pub value : Padded l r.value
  pub state : r.state ≡ t

-- the answer that a struct gives
abbrev pub given_of : Stepped → Given
given_of r = record { said = said_of r.said; side = r.side; len = r.value.len; words = r.value.words }

-- r is the answer and the state after it; where it is a refusal, the very struct s
pub record ResultIs (x : Result) (s : State) (r : Stepped) : Type 0 where
  pub answer : given_of r ≡ given x.answer
  pub after : view_state r.state ≡ x.after
  pub arrays : fits_arrays r.state ≡ true
  pub kept : is_refusal x.answer ≡ true → r.state ≡ s

-- r is refusal 10 with the side as asked, beside the very struct s
pub record RefusedTen (n : ℕ) (s : State) (r : Stepped) : Type 0 where
  pub answer : given_of r ≡ given (refusal 10 n)
  pub kept : r.state ≡ s

-- r is the answer to a step of what may be no state; where it is a refusal, the very struct s stays
pub record StepAnswered (b : Composition) (s : State) (x : Step) (r : Stepped) : Type 0 where
  pub answer : given_of r ≡ given (answer_to b (state_of s) x)
  pub after : state_of r.state ≡ after_step b (state_of s) x
  pub kept : is_refusal (answer_to b (state_of s) x) ≡ true → r.state ≡ s
