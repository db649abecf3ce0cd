-- What follows from independence: a run's answers to side 1, and that the premise is needed. What follows from the agreement: listing A is
-- a sequence of published transitions.
use Rattle.std.specs.Prelude.{◌≡◌, List, [], ◌∷◌, true, cond}
use Rattle.std.proofs.Common.{inl, inr}
use Rattle.calculus.specs.Syntax.{nm, tup, vnil, vcons, var, parent, plain, replicated, Proc, out, inp}
use Rattle.calculus.specs.Congruence.{◌≋◌}
use Rattle.calculus.specs.Transitions.{Label, tau, send, recv}
use Rattle.calculus.specs.Wrappers.{W1, in_name, out_name}
use Rattle.model.specs.Side.{State}
use Rattle.model.specs.Load.{Composition, table, load, ok}
use Rattle.model.specs.Step.{Step, Answer}
use Rattle.model.specs.Runs.{is_of, steps_of, answers, premise}
use Rattle.model.specs.Process.{known_of}
use Rattle.model.specs.Agreement.{process_of}
use Rattle.model.specs.Published.{Path}
use Rattle.model.specs.Trials.{pipeline, ask, entering, inward, no, nothing_at_all, copier}
use Rattle.model.specs.MoreTrials.{sends_new}

-- SIDE 1'S ANSWERS

-- of a run's answers those to the steps with side 1
abbrev pub answers_to1 : List Step → List Answer → List Answer
answers_to1 [] l = []
answers_to1 (x ∷ xs) [] = []
answers_to1 (x ∷ xs) (a ∷ l) = cond (is_of (1 ∷ []) x) (a ∷ answers_to1 xs l) (answers_to1 xs l)

-- in two runs as `Independence` has them, side 1's answers are equal among those that the runs give
unfoldable pub AnswersIndependent : Type 0
AnswersIndependent =
    (b b' : Composition) → b.wrapper ≡ 2 → b'.wrapper ≡ 2 → table b 1 ≡ table b' 1 →
    (s s'' : State) → load b ≡ ok s → load b' ≡ ok s'' →
    (xs xs' : List Step) → steps_of (1 ∷ []) xs ≡ steps_of (1 ∷ []) xs' →
    premise (1 ∷ []) b [] s xs ≡ true →
    answers_to1 xs (answers b s xs) ≡ answers_to1 xs' (answers b' s'' xs')

-- without its premise independence does not hold: side 1 is nil and asks for side 2's first name to enter, which side 2 has sent out
-- by its own outlet in one run, and not in the other
abbrev pub sending : Composition
sending = pipeline nothing_at_all [] sends_new (9 ∷ [])

abbrev pub idle : Composition
idle = pipeline nothing_at_all [] nothing_at_all []

abbrev pub entering_it : List Step
entering_it = entering 1 (131072 ∷ []) ∷ []

abbrev pub entering_it_sent : List Step
entering_it_sent = ask 3 2 0 0 ∷ ask 6 2 0 0 ∷ ask 7 2 0 0 ∷ entering_it

unfoldable pub PremiseNeeded : Type 0
PremiseNeeded = (s s' : State) × (load sending ≡ ok s) × (load idle ≡ ok s') × (steps_of (1 ∷ []) entering_it_sent ≡ steps_of (1 ∷ []) entering_it)
    × (answers_to1 entering_it_sent (answers sending s entering_it_sent) ≡ inward 1 (131072 ∷ []) ∷ [])
    × (answers_to1 entering_it (answers idle s' entering_it) ≡ no 1 12 ∷ [])

-- LISTING A

-- the copier of document 004: !in^up y. out^up <y y>
abbrev pub copier_process : Proc (Unit {0}) []
copier_process = inp replicated tt in_name parent var (out tt (inr out_name) (plain parent) (tup (vcons (nm (inl tt)) (vcons (nm (inl tt)) vnil))))

-- in^up 20, four silent ones, out^up <20 20>
abbrev pub labels_a : List Label
labels_a = recv 0 (plain parent) (nm 20) ∷ tau ∷ tau ∷ tau ∷ tau ∷ send 1 (plain parent) (tup (vcons (nm 20) (vcons (nm 20) vnil))) ∷ []

-- from W1 round the copier, listing A is a sequence of published transitions
unfoldable pub ListingA : Type 0
ListingA = (s : State) × (s' : State) × (load copier ≡ ok s) × (process_of copier s ≋ W1 tt copier_process) × Path copier (known_of [] s) s labels_a s'
