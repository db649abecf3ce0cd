-- Demand 2 of published transitions, marks forgotten: the states of the bench are pure, each transition has its step, and a run is a
-- sequence of transitions.
use Rattle.std.specs.Prelude.{◌≡◌, ◌⊎◌, List, [], ◌∷◌, ◌++◌, true, ℕ, T}
use Rattle.calculus.specs.Syntax.{Val, parent, plain, Proc, ren}
use Rattle.calculus.specs.Congruence.{◌≋◌}
use Rattle.calculus.specs.Transitions.{Label, tau, send, recv, Participants, lnames}
use Rattle.calculus.specs.Transitions.{Step as Trans}
use Rattle.calculus.specs.Marks.{Published}
use Rattle.calculus.specs.Wrappers.{log_name}
use Rattle.calculus.specs.Tree.{process}
use Rattle.model.specs.Basics.{every}
use Rattle.model.specs.Values.{is_outside}
use Rattle.model.specs.Side.{State}
use Rattle.model.specs.Wrapper.{has_side}
use Rattle.model.specs.Load.{Composition, wrapper_of}
use Rattle.model.specs.WellFormed.{ready}
use Rattle.model.specs.Step.{Step, labelled, logs, refusal, step}
use Rattle.model.specs.Runs.{after_all}
use Rattle.model.specs.Process.{Mark, conf_of, known_of}
use Rattle.model.specs.Agreement.{At, Asks, Says, process_of, Brought, answer_side, Excused, Rename, renamed, Written}

-- PURITY (document 004, Propositions 2 to 4)

-- a side that the wrapper has
abbrev pub HasSide : Composition → ℕ → Type 0
HasSide b side = T (has_side (wrapper_of b) side)

-- τ, an input from the environment on a side's inlet, an output to it on a side's outlet, or, under wrapper 3 alone, on `log`
pub data PureLabel (b : Composition) : Label → Type 0 where
  pure_tau : PureLabel b tau
  pure_in : (side : ℕ) {v : Val ℕ} → HasSide b side → PureLabel b (recv ((wrapper_of b).inlet side) (plain parent) v)
  pure_out : (side : ℕ) {v : Val ℕ} → HasSide b side → PureLabel b (send ((wrapper_of b).outlet side) (plain parent) v)
  pure_log : {v : Val ℕ} → b.wrapper ≡ 3 → PureLabel b (send log_name (plain parent) v)

-- every transition of a state's process has such a label
unfoldable pub Pure : Type 0
Pure = (b : Composition) (s : State) (X : List ℕ) (l : Label) (w : Participants Mark) (R : Proc Mark []) → ready b s ≡ true → every is_outside X ≡ true
    → Trans (known_of X s) (process (conf_of b s)) l w R → PureLabel b l

-- and so has every published transition of it
unfoldable pub PurePublished : Type 0
PurePublished = (b : Composition) (s : State) (X : List ℕ) (l : Label) (Q : Proc (Unit {0}) []) → ready b s ≡ true → every is_outside X ≡ true → Published (known_of X s) (process_of b s) l Q → PureLabel b l

-- and no step of another wrapper than 3 is labelled log, in any state (document 02, request 2.1)
unfoldable pub LogAlone : Type 0
LogAlone = (b : Composition) (s : State) (k : Step) (side : ℕ) (v : List ℕ) → (step b s k).answer ≡ labelled logs side v → b.wrapper ≡ 3

-- COMPLETE FOR PUBLISHED TRANSITIONS

-- the step has the transition's label and leads to its target, up to a renaming that keeps the names of A
pub record MetPublished (A : List ℕ) (b : Composition) (s : State) (l : Label) (Q : Proc (Unit {0}) []) (k : Step) : Type 0 where
  pub names : Rename A
  pub label : Says (wrapper_of b) (step b s k).answer (renamed l names.to)
  pub side : answer_side (step b s k).answer ≡ k.side
  pub target : ren {r = []} Q names.to ≋ process_of b (step b s k).after

-- a published transition has a place with a step that asks for its label; and each such step has that label and leads to the
-- transition's target, or is refused for a cause that excuses it
abbrev pub Offered : (A : List ℕ) → Composition → State → Label → Proc (Unit {0}) [] → Type 0
Offered A b s l Q = (w : Participants Mark) × ((k : Step) × At (wrapper_of b) k w × Asks k l)
    × ((k : Step) → At (wrapper_of b) k w → Asks k l → MetPublished A b s l Q k ⊎ ((n : ℕ) × ((step b s k).answer ≡ refusal n k.side) × Excused b s k l n))

-- so it is with each published transition of a state's process
unfoldable pub CompletePublished : Type 0
CompletePublished = (b : Composition) (s : State) (X : List ℕ) (l : Label) (Q : Proc (Unit {0}) []) → ready b s ≡ true → every is_outside X ≡ true
    → Published (known_of X s) (process_of b s) l Q → Written l → Offered (known_of X s) b s l Q

-- RUNS

-- a sequence of published transitions, as `Seq` has it, through the processes of states
pub data Path (b : Composition) : List ℕ → State → List Label → State → Type 0 where
  stop : {A : List ℕ} {s : State} → Path b A s [] s
  go : {A : List ℕ} {s s' s'' : State} {l : Label} {ls : List Label} → Published A (process_of b s) l (process_of b s') → Path b (lnames l ++ A) s' ls s'' → Path b A s (l ∷ ls) s''

-- the labels that some steps, from s on, are answered with; a refusal has none
pub data SaysAll (b : Composition) : State → List Step → List Label → Type 0 where
  says_none : {s : State} → SaysAll b s [] []
  says_more : {s : State} {k : Step} {ks : List Step} {l : Label} {ls : List Label} → Says (wrapper_of b) (step b s k).answer l → SaysAll b (step b s k).after ks ls → SaysAll b s (k ∷ ks) (l ∷ ls)
  says_refused : {s : State} {k : Step} {ks : List Step} {n side : ℕ} {ls : List Label} → (step b s k).answer ≡ refusal n side → SaysAll b (step b s k).after ks ls → SaysAll b s (k ∷ ks) ls

-- every run, refused steps among it, has its labels; and they are a sequence of published transitions, from the names known at its
-- start, to the state after it
unfoldable pub RunsAreTransitions : Type 0
RunsAreTransitions = (b : Composition) (s : State) (ks : List Step) → ready b s ≡ true
    → ((ls : List Label) × SaysAll b s ks ls) × ((X : List ℕ) (ls : List Label) → Brought b s X → SaysAll b s ks ls → Path b (known_of X s) s ls (after_all b s ks))
