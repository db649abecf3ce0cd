-- The new-name rule: a run is a sequence of transitions of the pipeline, of which W2's directionality speaks.
use mathlib.Core.Path.{◌≡◌, refl, sym, ap, ◌∙◌, subst}
use mathlib.Core.List.{List, [], ◌∷◌, ◌++◌}
use mathlib.Core.Bool.{Bool, true, false, not, ◌||◌, cond, false≢true}
use Prim.Native.Nat.{ℕ, ◌+◌, ◌<◌}
use native.Mathlib.Omega.{arith}
use borrow.Author.Tests.{eqb-true, eqb-false, ne_eqb, not-true}
use lib.Dec.{eqb, T, eqb_refl}
use Rattle.calculus.specs.Syntax.{Val, AllN}
use Rattle.calculus.specs.Transitions.{Label, In, Out∉, mem, names}
use Rattle.calculus.specs.Purity.{EachLabel}
use Rattle.calculus.specs.NewNames.{heard_on, sent_on, KnownNameDirectional}
use Rattle.calculus.specs.Wrappers.{env_in, env_out, W2}
use Rattle.model.specs.Basics.{every, has}
use Rattle.model.specs.Values.{is_outside}
use Rattle.model.specs.Side.{State}
use Rattle.model.specs.Wrapper.{Wrapper, described, pipeline}
use Rattle.model.specs.Load.{Composition, wrapper_of, table}
use Rattle.model.specs.Step.{Step, silent, enters, leaves, logs, Answer, labelled, refusal, step}
use Rattle.model.specs.Runs.{answers, after_all, left_by, Reached}
use Rattle.model.specs.NewNames.{entered_by, NewNames}
use Rattle.model.specs.Process.{vwords, known_of}
use Rattle.model.specs.Agreement.{handler}
use Rattle.model.specs.Published.{SaysAll, says_none, says_more, says_refused, RunsAreTransitions}
use Rattle.model.specs.Wrapped.{Wraps, as_pipeline, WrapperRuns}
use Rattle.calculus.proofs.NewNames.{known_name_directional}
use Rattle.model.proofs.Basics.Tests.{fst, snd, both, every_append}
use Rattle.model.proofs.Basics.Names.{outside_range}
use Rattle.model.proofs.Formed.Reached.{reached}
use Rattle.model.proofs.Processes.KnownNames.{is_brought, by_known}
use Rattle.model.proofs.Processes.ValueWords.{names_words}
use Rattle.model.proofs.Sound.Labels.{SaysInv, says_inv}
use Rattle.model.proofs.Results.Brought.{wrapper_names}
use Rattle.model.proofs.Results.Corollaries.{runs_are_transitions}
use Rattle.model.proofs.Results.WrapperRuns.{wrapper_runs}

has_mem : (x : ℕ) (l : List ℕ) → has x l ≡ mem x l
has_mem x [] = refl
has_mem x (y ∷ l) = ap (λ (c : Bool). eqb x y || c) (has_mem x l)

-- answers and labels of the pipeline, of a name that is no tuple word
module _ (x : ℕ) (small : x < 4000000) where
  in_words : (v : List ℕ) (u : Val ℕ) → v ≡ vwords u → has x v ≡ mem x (names u)
  in_words v u e = has_mem x v ∙ ap (mem x) e ∙ sym (names_words x small u)

  abbrev Brings : Answer → Bool
  Brings a = not (has x (entered_by (1 ∷ []) a))

  -- what an in label of side 1 does not have is not heard on in1
  heard : (a : Answer) (l : Label) → SaysInv pipeline a l → Brings a ≡ true → Out∉ (heard_on (env_in 1) l) x
  heard (labelled silent n v) l e h = ap (λ (y : Label). mem x (heard_on (env_in 1) y)) e
  heard (labelled enters n v) l (u, e, f, q) h = ap (λ (y : Label). mem x (heard_on (env_in 1) y)) q ∙ by_side_lem (eqb n 1) refl
    where
      by_side_lem : (c : Bool) → eqb n 1 ≡ c → mem x (cond (eqb (64 + n) (env_in 1)) (names u) []) ≡ false
      by_side_lem true p = rw (ap (λ (m : ℕ). eqb (64 + m) 65) (eqb-true n 1 p)) (sym (in_words v u e) ∙ not-true (has x v) (rw p at h))
      by_side_lem false p = rw (ne_eqb (64 + n) 65 (λ z. eqb-false n 1 p (omega arith))) refl
  heard (labelled leaves n v) l (u, e, f, q) h = ap (λ (y : Label). mem x (heard_on (env_in 1) y)) q
  heard (labelled logs n v) l (u, e, f, (c, i, q)) h = absurd (false≢true i)
  heard (refusal k n) l e h = absurd e

  -- and what is not sent on out1 is in no answer on the first outlet
  sent : (a : Answer) (l : Label) → SaysInv pipeline a l → Out∉ (sent_on (env_out 1) l) x → has x (left_by (1 ∷ []) a) ≡ false
  sent (labelled silent n v) l e h = refl
  sent (labelled enters n v) l e h = refl
  sent (labelled leaves n v) l (u, e, f, q) h = by_side_lem (eqb n 1) refl (sym (ap (λ (y : Label). mem x (sent_on (env_out 1) y)) q) ∙ h)
    where
      by_side_lem : (c : Bool) → eqb n 1 ≡ c → mem x (cond (eqb (72 + n) (env_out 1)) (names u) []) ≡ false → has x (cond (has n (1 ∷ [])) v []) ≡ false
      by_side_lem true p k = rw p (in_words v u e ∙ (rw (ap (λ (m : ℕ). eqb (72 + m) 73) (eqb-true n 1 p)) at k))
      by_side_lem false p k = rw p refl
  sent (labelled logs n v) l (u, e, f, (c, i, q)) h = absurd (false≢true i)
  sent (refusal k n) l e h = refl

  -- over a run of a pipeline
  module _ (b : Composition) (w : b.wrapper ≡ 2) where
    at_pipeline : (a : Answer) (l : Label) → SaysInv (wrapper_of b) a l → SaysInv pipeline a l
    at_pipeline a l h = subst (λ (y : Wrapper). SaysInv y a l) (ap described w) h

    heard_all : {s : State} {ks : List Step} {ls : List Label} → SaysAll b s ks ls → every Brings (answers b s ks) ≡ true → EachLabel (λ l. Out∉ (heard_on (env_in 1) l) x) ls
    unfolding answers
    heard_all says_none h = tt
    heard_all (says_more {s = s} {k = k} {l = l} sy r) h = (heard (step b s k).answer l (at_pipeline (step b s k).answer l (says_inv sy)) (fst _ _ h), heard_all r (snd _ _ h))
    heard_all (says_refused q r) h = heard_all r (snd _ _ h)

    sent_last : (k : Step) (xs : List Step) {s : State} {ls : List Label} → SaysAll b s (xs ++ k ∷ []) ls → EachLabel (λ l. Out∉ (sent_on (env_out 1) l) x) ls
        → has x (left_by (1 ∷ []) (step b (after_all b s xs) k).answer) ≡ false
    unfolding after_all
    sent_last k [] (says_more {s = s} {l = l} sy r) h = sent (step b s k).answer l (at_pipeline (step b s k).answer l (says_inv sy)) h.0
    sent_last k [] (says_refused q r) h = ap (λ (a : Answer). has x (left_by (1 ∷ []) a)) q
    sent_last k (y ∷ xs) (says_more sy r) h = sent_last k xs r h.1
    sent_last k (y ∷ xs) (says_refused q r) h = sent_last k xs r h

-- the answers of a run with one step more
answers_more : (b : Composition) (k : Step) (xs : List Step) (s : State) → answers b s (xs ++ k ∷ []) ≡ answers b s xs ++ (step b (after_all b s xs) k).answer ∷ []
unfolding answers after_all
answers_more b k [] s = refl
answers_more b k (y ∷ xs) s = ap (λ (l : List Answer). (step b s y).answer ∷ l) (answers_more b k xs (step b s y).after)

pub new_names : NewNames
unfolding NewNames WrapperRuns RunsAreTransitions Reached KnownNameDirectional
new_names b s xs k x w e o h = by_answer (step b (after_all b s xs) k).answer refl
  where
    X : List ℕ
    X = x ∷ []

    outside : every is_outside X ≡ true
    outside = both _ _ o refl

    small : x < 4000000
    small = let r = (outside_range x o).1 in omega arith

    known : In (known_of X s) x
    known = by_known X s x (is_brought (go (eqb x x) (eqb_refl x)))
      where
        go : (c : Bool) → T c → T (c || false)
        go true t = tt
        go false t = absurd t

    pipe : Wraps b (W2 tt (handler (table b 1)) (handler (table b 2)))
    pipe = as_pipeline w

    -- where the last step brings nothing for side 1
    by_run : not (has x (entered_by (1 ∷ []) (step b (after_all b s xs) k).answer)) ≡ true → has x (left_by (1 ∷ []) (step b (after_all b s xs) k).answer) ≡ false
    by_run q =
        let (ls, says) = (runs_are_transitions b s (xs ++ k ∷ []) ((reached b).0 s e)).0 in
        let (Q, sequence, to) = wrapper_runs b s X (xs ++ k ∷ []) ls (W2 tt (handler (table b 1)) (handler (table b 2))) e outside pipe says in
        let free : AllN (W2 tt (handler (table b 1)) (handler (table b 2))) (λ z. eqb x z ≡ false) = wrapper_names (λ z. eqb x z ≡ false) (λ z l. ne_eqb x z (λ p. let r = (outside_range x o).0 in omega arith)) pipe in
        let all : every (λ a. not (has x (entered_by (1 ∷ []) a))) (answers b s (xs ++ k ∷ [])) ≡ true = subst (λ (l : List Answer). every (λ a. not (has x (entered_by (1 ∷ []) a))) l ≡ true) (sym (answers_more b k xs s))
        (every_append (λ a. not (has x (entered_by (1 ∷ []) a))) (answers b s xs) _ h (both _ _ q refl)) in
        sent_last x small b w k xs says (known_name_directional (handler (table b 1)) (handler (table b 2)) Q (known_of X s) ls x sequence known free (heard_all x small b w says all))

    by_answer : (a : Answer) → (step b (after_all b s xs) k).answer ≡ a → has x (left_by (1 ∷ []) (step b (after_all b s xs) k).answer) ≡ false
    by_answer (labelled silent n v) q = ap (λ (a : Answer). has x (left_by (1 ∷ []) a)) q
    by_answer (labelled enters n v) q = ap (λ (a : Answer). has x (left_by (1 ∷ []) a)) q
    by_answer (labelled leaves n v) q = by_run (ap (λ (a : Answer). not (has x (entered_by (1 ∷ []) a))) q)
    by_answer (labelled logs n v) q = by_run (ap (λ (a : Answer). not (has x (entered_by (1 ∷ []) a))) q)
    by_answer (refusal c n) q = ap (λ (a : Answer). has x (left_by (1 ∷ []) a)) q
