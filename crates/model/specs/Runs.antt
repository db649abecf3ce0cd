-- Two pipeline runs: what a group of sides sees of a run, the premise on what it asks to enter, and independence.
use Rattle.std.specs.Prelude.{◌≡◌, Bool, true, false, not, ◌&&◌, ◌||◌, cond, List, [], ◌∷◌, ◌++◌, map, ◌⊎◌, ℕ, ◌≤◌, eqb}
use Rattle.std.proofs.Math.Option.{none}
use Rattle.model.specs.Basics.{◌&◌, ◌or◌, every, has}
use Rattle.model.specs.Values.{is_minted}
use Rattle.model.specs.Side.{State, Side, side}
use Rattle.model.specs.Wrapper.{Wrapper, has_side}
use Rattle.model.specs.Load.{Composition, wrapper_of, Refused, load, refused, ok, table}
use Rattle.model.specs.WellFormed.{ready}
use Rattle.model.specs.Step.{Step, silent, enters, leaves, logs, marked, Answer, labelled, refusal, step, answer_to, after_step}

-- a step with a side of the group, and those of a list in their order
abbrev pub is_of : (group : List ℕ) → Step → Bool
is_of g x = has x.side g

abbrev pub steps_of : (group : List ℕ) → List Step → List Step
steps_of g [] = []
steps_of g (x ∷ xs) = cond (is_of g x) (x ∷ steps_of g xs) (steps_of g xs)

-- the states of the group's sides
abbrev pub states_of : (group : List ℕ) → State → List Side
states_of g s = map (side s) g

-- an answer to a step with a side of the group, and the group's states after that step
pub record Seen : Type 0 where
  pub answer : Answer
  pub after : List Side

-- what a group sees of a run from s. Each step gets what the step before returned or left; a refusal does not end the run
unfoldable pub sees : (group : List ℕ) → Composition → State → List Step → List Seen
sees g b s [] = []
sees g b s (x ∷ xs) =
    let r = step b s x in
    let rest = sees g b r.after xs in
    cond (is_of g x) (record { answer = r.answer; after = states_of g r.after } ∷ rest) rest

-- the answers of a run from s
unfoldable pub answers : Composition → State → List Step → List Answer
answers b s [] = []
answers b s (x ∷ xs) = let r = step b s x in r.answer ∷ answers b r.after xs

-- the state after the steps of a list
unfoldable pub after_all : Composition → State → List Step → State
after_all b s [] = s
after_all b s (x ∷ xs) = after_all b (step b s x).after xs

-- the value of an out or log label of a side of the group
abbrev pub left_by : (group : List ℕ) → Answer → List ℕ
left_by g (labelled silent n v) = []
left_by g (labelled enters n v) = []
left_by g (labelled leaves n v) = cond (has n g) v []
left_by g (labelled logs n v) = cond (has n g) v []
left_by g (refusal k n) = []

-- the minted names among some words left earlier
abbrev pub left_earlier : (earlier : List ℕ) → List ℕ → Bool
left_earlier earlier ws = every (λ w. not (is_minted w) or has w earlier) ws

-- the premise: each name in a value that a kind-1 step of the group asks to enter, refused or not, is public, from outside or left
-- earlier in this run by an outlet of the group
unfoldable pub premise : (group : List ℕ) → Composition → (earlier : List ℕ) → State → List Step → Bool
premise g b earlier s [] = true
premise g b earlier s (x ∷ xs) =
    let r = step b s x in
    let rest = premise g b (earlier ++ left_by g r.answer) r.after xs in
    (not (is_of g x && eqb x.kind 1) or left_earlier earlier x.words) & rest

-- load gives, and each step keeps, a state that is well formed for tables that load takes
unfoldable pub Reached : Type 0
Reached = (b : Composition) → ((s : State) → load b ≡ ok s → ready b s ≡ true)
    × ((s : State) (x : Step) → ready b s ≡ true → ready b (step b s x).after ≡ true)

-- DEMAND 1: a refusal of load has a number from 1 to 7; one of a step has a number from 10 to 17 and the step's side, and changes nothing
unfoldable pub Refusals : Type 0
Refusals =
    ((b : Composition) (r : Refused) → load b ≡ refused r → (1 ≤ r.number) × (r.number ≤ 7))
    × ((b : Composition) (s : State) (x : Step) (n k : ℕ) → (step b s x).answer ≡ refusal n k → (10 ≤ n) × (n ≤ 17) × (k ≡ x.side) × ((step b s x).after ≡ s))

-- tables that load refuses, a state not well formed or none at all, and a side that the wrapper lacks: 10, with the side as asked, and what
-- there is stays
unfoldable pub RefusedWhole : Type 0
RefusedWhole =
    ((b : Composition) (s : State) (x : Step) → (ready b s ≡ false) ⊎ (has_side (wrapper_of b) x.side ≡ false) → ((step b s x).answer ≡ refusal 10 x.side) × ((step b s x).after ≡ s))
    × ((b : Composition) (x : Step) → (answer_to b none x ≡ refusal 10 x.side) × (after_step b none x ≡ none))

-- side n's left marks after a step: those before it, and the minted names of its own out or log label, and nothing else
unfoldable pub LeftMarks : Type 0
LeftMarks = (b : Composition) (s : State) (x : Step) (n w : ℕ) → is_minted w ≡ true
    → marked (side (step b s x).after n).left w ≡ (marked (side s n).left w || has w (left_by (n ∷ []) (step b s x).answer))

-- INDEPENDENCE

-- no side outside the group sends into it: a route to one of its sides comes from one of its sides
abbrev pub is_closed : (group : List ℕ) → Wrapper → Bool
is_closed g w = every (λ r. not (has r.receiver g) or has r.source g) w.routes

-- two runs of a group: loads that succeed, the same tables of the group, any two lists of steps with the same steps of the
-- group in the same order, and the premise of one run. Then the group's states after the load, its answers and its states
-- after each of its steps are equal, and so are its states after the whole lists, and thereby at any time: a list may end anywhere
unfoldable pub SameFor : (group : List ℕ) → Composition → Composition → Type 0
SameFor g b b' =
    map (table b) g ≡ map (table b') g →
    (s s'' : State) → load b ≡ ok s → load b' ≡ ok s'' →
    (xs xs' : List Step) → steps_of g xs ≡ steps_of g xs' →
    premise g b [] s xs ≡ true →
    (states_of g s ≡ states_of g s'') × (sees g b s xs ≡ sees g b' s'' xs') × (states_of g (after_all b s xs) ≡ states_of g (after_all b' s'' xs'))

-- a closed group of sides, under any wrapper
unfoldable pub GroupIndependence : Type 0
GroupIndependence = (g : List ℕ) (b b' : Composition) → b.wrapper ≡ b'.wrapper → is_closed g (wrapper_of b) ≡ true → SameFor g b b'

-- DEMAND 3: two pipeline loads with the same first table, any two lists of steps with the same steps with side 1 in the same order, and the
-- premise: side 1's answers and states are equal, whatever side 2 is and does
unfoldable pub Independence : Type 0
Independence =
    (b b' : Composition) → b.wrapper ≡ 2 → b'.wrapper ≡ 2 → table b 1 ≡ table b' 1 →
    (s s'' : State) → load b ≡ ok s → load b' ≡ ok s'' →
    (xs xs' : List Step) → steps_of (1 ∷ []) xs ≡ steps_of (1 ∷ []) xs' →
    premise (1 ∷ []) b [] s xs ≡ true →
    (side s 1 ≡ side s'' 1) × (sees (1 ∷ []) b s xs ≡ sees (1 ∷ []) b' s'' xs') × (side (after_all b s xs) 1 ≡ side (after_all b' s'' xs') 1)
