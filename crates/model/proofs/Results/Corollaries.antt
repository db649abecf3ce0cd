-- What follows from the agreement and from independence: runs as sequences of published transitions, side 1's answers, listing A.
use mathlib.Core.Path.{◌≡◌, refl, sym, ap, ◌∙◌, subst}
use mathlib.Core.List.{List, [], ◌∷◌, ◌++◌, map}
use mathlib.Core.Logic.{inl, inr, ⊎_elim}
use mathlib.Core.Bool.{Bool, true, false}
use Prim.Native.Nat.{ℕ}
use lib.Dec.{T}
use Rattle.calculus.specs.Syntax.{Proc}
use Rattle.calculus.specs.Congruence.{◌≋◌}
use Rattle.calculus.specs.Transitions.{Label, mem, lnames, Struct}
use Rattle.calculus.specs.Named.{proc}
use Rattle.calculus.specs.Marks.{Published, forget}
use Rattle.calculus.specs.Wrappers.{W1}
use Rattle.calculus.specs.Tree.{process}
use Rattle.model.specs.Basics.{◌&◌, ◌or◌, choose, bind, need, pick}
use Rattle.model.specs.Values.{items, shaped, is_value, at, rest_of, first_of, matches}
use Rattle.model.specs.Table.{child_times, build, decode, term, scope_up}
use Rattle.model.specs.Checks.{check1, check2, times_child, check3, check4, pattern_ok, check5, over, over_all, first_bad, found, fault}
use Rattle.model.specs.Wrapper.{Wrapper}
use Rattle.model.specs.Side.{State, limits, start_side, no_side}
use Rattle.model.specs.Unfolding.{unfolds, defined}
use Rattle.model.specs.Load.{Composition, wrapper_of, table, start, side_fault, lack_fault, load_sides, load, ok}
use Rattle.model.specs.WellFormed.{held, held_word, wf_value, wf_tag, wf_particle, wf_boxes, wf_contents, wf_message, wf_core, wf_left, wf_side, wf_taken, is_no_side, wf_side_of, wf_state, ready}
use Rattle.model.specs.Step.{Step, Answer, labelled, refusal, enter, go_down, up_from, up_particle, up, descend_particle, descend, meet_term, meet_particles, meet, pass, leave, takes, route_to, inner, local, settled, mark1, step}
use Rattle.model.specs.Process.{conf_of, known_of, code_of, val_of, reads, pat_of, reads_p}
use Rattle.model.specs.Agreement.{Says, says_tau, says_in, says_out, IsLabelled, Brought, outside_in, SoundAt, Sound, NamesGrow, LoadAgrees, plainly, handler}
use Rattle.model.specs.Runs.{is_of, Seen, sees, Reached, answers, after_all, Refusals, Independence}
use Rattle.model.specs.Trials.{copier, entering, ask, inward, outward, tau as silently, run_from}
use Rattle.model.specs.Published.{Path, stop, go, SaysAll, says_none, says_more, says_refused, RunsAreTransitions}
use Rattle.model.specs.Corollaries.{answers_to1, AnswersIndependent, sending, idle, PremiseNeeded, copier_process, labels_a, ListingA}
use Rattle.calculus.proofs.FreeNames.{mem_left, mem_right, mem_cases}
use Rattle.calculus.proofs.Members.{SameMembers, step_members}
use Rattle.calculus.proofs.KnownNames.{bool_same}
use Rattle.calculus.proofs.Marks.{step_remark, wmark}
use Rattle.model.proofs.Formed.Reached.{reached}
use Rattle.model.proofs.Independent.Independence.{independence}
use Rattle.model.proofs.Sound.Sound.{label_of, sound}
use Rattle.model.proofs.Sound.NamesGrowing.{names_grow}
use Rattle.model.proofs.Formed.Refusals.{refusals}
use Rattle.model.proofs.Sound.LoadAgrees.{load_agrees}
use Rattle.model.proofs.Results.Brought.{load_brought, step_brought}

-- RUNS

-- one step that is answered with a label is a published transition
step_published : (b : Composition) (s : State) (X : List ℕ) (k : Step) (l : Label) → ready b s ≡ true → Brought b s X → Says (wrapper_of b) (step b s k).answer l →
    Published (known_of X s) (plainly (process (conf_of b s))) l (plainly (process (conf_of b (step b s k).after)))
unfolding Sound SoundAt
step_published b s X k l e h sy = let r = (sound b s k e).1 X l h sy in (wmark forget r.0, Struct (step_remark forget r.5) r.6)

pub step_ready : (b : Composition) (s : State) (k : Step) → ready b s ≡ true → ready b (step b s k).after ≡ true
unfolding Reached
step_ready b s k e = (reached b).1 s k e

-- a refused step changes nothing
pub refused_still : (b : Composition) (s : State) (k : Step) {n side : ℕ} → (step b s k).answer ≡ refusal n side → (step b s k).after ≡ s
unfolding Refusals
refused_still b s k {n} {side} q = (refusals.1 b s k n side q).3

-- the names known after a step, as a list that grew by the label's
pub grown : (b : Composition) (s : State) (X : List ℕ) (k : Step) (l : Label) → ready b s ≡ true → Says (wrapper_of b) (step b s k).answer l → (A : List ℕ) → SameMembers (known_of X s) A
    → SameMembers (known_of (outside_in l ++ X) (step b s k).after) (lnames l ++ A)
unfolding NamesGrow
grown b s X k l e sy A h z =
    let g = names_grow b s X k l e sy z in
    bool_same (mem z (known_of (outside_in l ++ X) (step b s k).after)) (mem z (lnames l ++ A)) (λ i. ⊎_elim (λ p. mem_right z (lnames l) A (subst T (h z) p)) (λ p. mem_left z (lnames l) A p) (g.0 i))
    (λ i. g.1 (⊎_elim (λ p. inr p) (λ p. inl (subst T (sym (h z)) p)) (mem_cases z (lnames l) A i)))

run : (b : Composition) {s : State} {ks : List Step} {ls : List Label} → SaysAll b s ks ls → ready b s ≡ true → (X : List ℕ) → Brought b s X → (A : List ℕ) → SameMembers (known_of X s) A → Path b A s ls (after_all b s ks)
unfolding after_all
run b says_none e X h A same = stop
run b (says_more {s = s} {k = k} {l = l} sy r) e X h A same =
    let p = step_published b s X k l e h sy in
    go (p.0, step_members p.1 A same) (run b r (step_ready b s k e) (outside_in l ++ X) (step_brought b s X k l e h sy) (lnames l ++ A) (grown b s X k l e sy A same))
run b (says_refused {s = s} {k = k} {ks = ks} {ls = ls} q r) e X h A same =
    let still = refused_still b s k q in
    subst (λ (t : State). Path b A t ls (after_all b (step b s k).after ks)) still
    (run b r (step_ready b s k e) X (subst (λ (t : State). Brought b t X) (sym still) h) A (subst (λ (t : State). SameMembers (known_of X t) A) (sym still) same))

-- the labels of a run
labels : (b : Composition) (ks : List Step) (s : State) → ready b s ≡ true → (ls : List Label) × SaysAll b s ks ls
unfolding Sound
labels b [] s e = ([], says_none)
labels b (k ∷ ks) s e = by_answer (step b s k).answer refl (labels b ks (step b s k).after (step_ready b s k e))
  where
    by_answer : (a : Answer) → (step b s k).answer ≡ a → (ls : List Label) × SaysAll b (step b s k).after ks ls → (ls : List Label) × SaysAll b s (k ∷ ks) ls
    by_answer (refusal n side) q r = (r.0, says_refused q r.1)
    by_answer (labelled l n v) q r = let t = label_of b s e k (subst IsLabelled (sym q) tt) in (t.0 ∷ r.0, says_more t.1 r.1)

pub runs_are_transitions : RunsAreTransitions
unfolding RunsAreTransitions
runs_are_transitions b s ks e = (labels b ks s e, λ X ls h says. run b says e X h (known_of X s) (λ z. refl))

-- labels by a run's answers
abbrev EachSays : Wrapper → List Answer → List Label → Type 0
EachSays w [] [] = Unit {0}
EachSays w [] (l ∷ ls) = ⊥
EachSays w (a ∷ rest) [] = ⊥
EachSays w (a ∷ rest) (l ∷ ls) = Says w a l × EachSays w rest ls

says_all : (b : Composition) (s : State) (ks : List Step) (ls : List Label) (given : List Answer) → (run_from b s ks 1).answers ≡ given → EachSays (wrapper_of b) given ls → SaysAll b s ks ls
unfolding run_from
says_all b s ks ls given q h = each ks s ls (subst (λ (r : List Answer). EachSays (wrapper_of b) r ls) (sym q) h)
  where
    each : (ks : List Step) (s : State) (ls : List Label) → EachSays (wrapper_of b) (run_from b s ks 1).answers ls → SaysAll b s ks ls
    each [] s [] h = says_none
    each [] s (l ∷ ls) h = absurd h
    each (k ∷ ks) s [] h = absurd h
    each (k ∷ ks) s (l ∷ ls) h = says_more h.0 (each ks (step b s k).after ls h.1)

-- SIDE 1'S ANSWERS

-- what side 1 sees has the run's answers to it
seen_answers : (b : Composition) (xs : List Step) (s : State) → map (λ (x : Seen). x.answer) (sees (1 ∷ []) b s xs) ≡ answers_to1 xs (answers b s xs)
unfolding sees answers
seen_answers b [] s = refl
seen_answers b (x ∷ xs) s = by_side_lem (is_of (1 ∷ []) x) refl (seen_answers b xs (step b s x).after)
  where
    by_side_lem : (t : Bool) → is_of (1 ∷ []) x ≡ t → map (λ (x : Seen). x.answer) (sees (1 ∷ []) b (step b s x).after xs) ≡ answers_to1 xs (answers b (step b s x).after xs) →
        map (λ (x : Seen). x.answer) (sees (1 ∷ []) b s (x ∷ xs)) ≡ answers_to1 (x ∷ xs) (answers b s (x ∷ xs))
    by_side_lem true o ih = rw o (ap (λ (l : List Answer). (step b s x).answer ∷ l) ih)
    by_side_lem false o ih = rw o ih

pub answers_independent : AnswersIndependent
unfolding AnswersIndependent Independence
answers_independent b b' w w' t s s'' l l' xs xs' same p =
    sym (seen_answers b xs s) ∙ ap (map (λ (x : Seen). x.answer)) (independence b b' w w' t s s'' l l' xs xs' same p).1 ∙ seen_answers b' xs' s''

-- by computation
pub premise_needed : PremiseNeeded
unfolding ◌&◌ ◌or◌ choose bind need pick items shaped is_value at rest_of first_of matches child_times build decode term scope_up check1 check2 times_child check3 check4 pattern_ok check5 over over_all
    first_bad found fault limits unfolds defined start side_fault lack_fault load_sides load held held_word wf_value wf_tag wf_particle wf_boxes wf_contents wf_message wf_core wf_left wf_side wf_taken is_no_side
    wf_side_of wf_state ready enter go_down up_from up_particle up descend_particle descend meet_term meet_particles meet pass leave takes route_to inner local settled mark1 step answers PremiseNeeded
premise_needed = (state sending, state idle, refl, refl, refl, refl, refl)
  where
    state : Composition → State
    state b = record { sides = start_side (start 1 (table b 1)) ∷ start_side (start 2 (table b 2)) ∷ [] }

-- LISTING A

-- the copier's table is the copier
copier_is : handler (table copier 1) ≡ copier_process
unfolding ◌&◌ ◌or◌ bind items at child_times build decode term reads val_of reads_p pat_of code_of proc
copier_is = refl

-- the state that it starts in
abbrev loaded_a : State
loaded_a = record { sides = start_side (start 1 (table copier 1)) ∷ no_side ∷ [] }

load_is : load copier ≡ ok loaded_a
unfolding ◌&◌ ◌or◌ choose bind need pick items shaped is_value at rest_of first_of matches child_times build decode term scope_up check1 check2 times_child check3 check4 pattern_ok check5 over over_all
    first_bad found fault limits unfolds defined start side_fault lack_fault load_sides load
load_is = refl

abbrev steps_a : List Step
steps_a = entering 1 (20 ∷ []) ∷ ask 2 1 0 0 ∷ ask 5 1 1 0 ∷ ask 3 1 1 0 ∷ ask 6 1 0 0 ∷ ask 7 1 0 0 ∷ []

-- its answers, by computation
answers_A : (run_from copier loaded_a steps_a 1).answers ≡ inward 1 (20 ∷ []) ∷ silently 1 ∷ silently 1 ∷ silently 1 ∷ silently 1 ∷ outward 1 (4000002 ∷ 20 ∷ 20 ∷ []) ∷ []
unfolding ◌&◌ ◌or◌ choose bind need pick items shaped is_value at rest_of first_of matches child_times build decode term scope_up check1 check2 times_child check3 check4 pattern_ok check5 over over_all
    first_bad found fault limits unfolds defined start side_fault lack_fault load_sides load held held_word wf_value wf_tag wf_particle wf_boxes wf_contents wf_message wf_core wf_left wf_side wf_taken is_no_side
    wf_side_of wf_state ready enter go_down up_from up_particle up descend_particle descend meet_term meet_particles meet pass leave takes route_to inner local settled mark1 step run_from
answers_A = refl

says_A : SaysAll copier loaded_a steps_a labels_a
says_A = says_all copier loaded_a steps_a labels_a _ answers_A (says_in refl tt, (says_tau, (says_tau, (says_tau, (says_tau, (says_out refl tt, tt))))))

pub listing_a : ListingA
unfolding ListingA RunsAreTransitions LoadAgrees Reached
listing_a = (
  loaded_a,
  after_all copier loaded_a steps_a,
  load_is,
  subst (λ (P : Proc (Unit {0}) []). plainly (process (conf_of copier loaded_a)) ≋ W1 tt P) copier_is ((load_agrees copier loaded_a load_is).0 refl),
  (runs_are_transitions copier loaded_a steps_a ((reached copier).0 loaded_a load_is)).1 [] labels_a (load_brought copier loaded_a [] load_is refl) says_A,
)
