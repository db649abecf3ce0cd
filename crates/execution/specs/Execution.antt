-- A step by words, made on all sides as they are lent.
use Rattle.std.specs.Prelude.{◌≡◌, Bool, true, false, cond, List, [], ℕ, ◌+◌, ◌-◌, ◌≤◌, leb, length, get_or, Some, None}
use Rattle.std.specs.declared.option.Option.{Option}
use Rattle.model.specs.Basics.{choose}
use Rattle.model.specs.Wrapper.{Wrapper, has_side}
use Rattle.model.specs.Load.{Composition, Setting}
use Rattle.model.specs.WellFormed.{ready}
use Rattle.model.specs.Side.{State}
use Rattle.model.specs.Step.{Step, step}
use Rattle.model.specs.Answer.{given}
use Rattle.values.specs.declared.Value.{Value}
use Rattle.values.specs.Env.{view_value}
use Rattle.sides.specs.declared.Rest.{Rest}
use Rattle.steps.specs.declared.Said.{Said}
use Rattle.steps.specs.declared.Said.TheVariants as said
use Rattle.steps.specs.declared.RestStep.{RestStep}
use Rattle.answers.specs.Answers.{given_for}
use Rattle.dispatch.specs.Sharing.{shelved_of, state_in, Lent, SideReady, LocalAt, MarkedAt}

-- the place behind the record at place p, which has so many words before the count of its value words; none where it breaks off
unfoldable pub record_end : (before : ℕ) → List ℕ → ℕ → Option ℕ
record_end b l p = let e = p + b + 1 + get_or l (p + b) 0 in choose (leb e (length l)) (Some e) None

-- the words of a step stand at place p of a list
pub record StepStands (l : List ℕ) (p : ℕ) : Type 0 where
  pub head : p + 5 ≤ length l
  pub fits : get_or l (p + 4) 0 ≤ length l - (p + 5)

-- r is the model's move x of the side that c names, with the rest o: ls and ms are all sides' words and marks before it and ls' and ms' after
-- it, hs the counts of their shelves
pub record Moves (c : Setting) (o : Rest) (ls : List (List ℕ)) (ms : List (List Bool)) (hs : List ℕ) (x : Step) (ls' : List (List ℕ)) (ms' : List (List Bool)) (r : RestStep) : Type 0 where
  pub step : LocalAt c ms ls hs x o ls' r
  pub marked : MarkedAt r.said (view_value r.value) ms (c.side - 1) ms'

-- all sides' words, rests and marks are a state that is ready for b, and hs are the counts of their shelves
pub record MayRun (b : Composition) (ls : List (List ℕ)) (os : List Rest) (ms : List (List Bool)) (hs : List ℕ) : Type 0 where
  pub lent : Lent ls os ms
  pub ready : ready b (state_in ls os ms) ≡ true
  pub shelved : hs ≡ shelved_of os

-- the place of side n among all sides; the first where the wrapper lacks it
abbrev pub place_asked : Wrapper → ℕ → ℕ
place_asked w n = cond (has_side w n) (n - 1) 0

-- what a step of the side that c names is given: a side that may act, where the wrapper has it
abbrev pub MayStep : Setting → (marks : List (List Bool)) → (words : List (List ℕ)) → (shelved : List ℕ) → Rest → Type 0
MayStep c ms ls hs o = has_side c.wrapper c.side ≡ true → SideReady c ms ls hs o

-- r is the refusal of a side that the wrapper lacks: 10, and all stays
pub record Lacking (o : Rest) (ls : List (List ℕ)) (ms : List (List Bool)) (ls' : List (List ℕ)) (ms' : List (List Bool)) (r : RestStep) : Type 0 where
  pub said : r.said ≡ said.Refused 10
  pub value : view_value r.value ≡ []
  pub short : r.value.len ≤ 16
  pub rest : r.rest ≡ o
  pub words : ls' ≡ ls
  pub marks : ms' ≡ ms

-- r is the step x of the side that c names, or its refusal
pub record StepMade (c : Setting) (o : Rest) (ls : List (List ℕ)) (ms : List (List Bool)) (hs : List ℕ) (x : Step) (ls' : List (List ℕ)) (ms' : List (List Bool)) (r : RestStep) : Type 0 where
  pub moved : has_side c.wrapper c.side ≡ true → Moves c o ls ms hs x ls' ms' r
  pub lacking : has_side c.wrapper c.side ≡ false → Lacking o ls ms ls' ms' r

-- what the step x does to all that is lent: the state s goes to what ls, os and ms are, which may run on, and side n says a with the value v, which
-- is within its array
pub record Makes (b : Composition) (s : State) (x : Step) (ls : List (List ℕ)) (os : List Rest) (ms : List (List Bool)) (hs : List ℕ) (n : ℕ) (a : Said) (v : Value) : Type 0 where
  pub runs : MayRun b ls os ms hs
  pub after : state_in ls os ms ≡ (step b s x).after
  pub answer : given_for a n (view_value v) ≡ given (step b s x).answer
  pub short : v.len ≤ 16
