-- An accepted claim in the published calculus: the labels of its steps, by what the checker shows of the answers.
use mathlib.Core.Path.{◌≡◌, refl, sym, ap, subst, ◌∙◌}
use mathlib.Core.Bool.{Bool, true, false, false≢true}
use mathlib.Core.List.{List, [], ◌∷◌, ◌++◌, append_assoc, append-nil}
use mathlib.Core.Logic.{inr}
use Prim.Native.Nat.{ℕ}
use native.Mathlib.Omega.{arith}
use lib.ListN.{length}
use Rattle.calculus.specs.Syntax.{Val}
use Rattle.calculus.specs.Transitions.{Label}
use Rattle.model.specs.Basics.{◌&◌, Res, refuse, done, every}
use Rattle.model.specs.Side.{State, side}
use Rattle.model.specs.Wrapper.{Wrapper, has_side}
use Rattle.model.specs.Load.{Composition, wrapper_of, setting}
use Rattle.model.specs.WellFormed.{shelf_of, ready}
use Rattle.model.specs.Step.{Step, Moved, Answer, answer_of, known, local, settled, step}
use Rattle.model.specs.Runs.{answers, RefusedWhole}
use Rattle.model.specs.Process.{vwords}
use Rattle.model.specs.Agreement.{Says, says_tau, says_in, says_out, says_log, answer_side}
use Rattle.model.specs.Published.{SaysAll, says_none, says_more, says_refused}
use Rattle.model.specs.Wrapped.{WrapperRuns, TablesToTrace}
use Rattle.model.proofs.Basics.Tests.{fst, snd}
use Rattle.model.proofs.Formed.Refusals.{refused_whole}
use Rattle.model.proofs.Results.WrapperRuns.{wrapper_runs, tables_to_trace}
use Rattle.claims.specs.Claims.{visible, is_label}
use Rattle.claims.specs.Verdicts.{all_visible, joined, AcceptsIff}
use Rattle.claims.specs.Published.{record_of, Shows, shows_none, shows_tau, shows_in, shows_out, shows_log, AcceptedPublished}
use Rattle.claims.proofs.Verdicts.{accepts_iff}

-- THE SIDE OF A LABEL

side_of_lem : (n : ℕ) (r : Res Moved) → answer_side (answer_of n r) ≡ n
side_of_lem n (refuse k) = refl
side_of_lem n (done m) = refl

-- an answer has the step's side
answer_side_lem : (b : Composition) (s : State) (x : Step) → answer_side (step b s x).answer ≡ x.side
unfolding step
answer_side_lem b s x = go (ready b s & has_side (wrapper_of b) x.side) refl
  where
    go : (t : Bool) → ready b s & has_side (wrapper_of b) x.side ≡ t → answer_side (step b s x).answer ≡ x.side
    go false p = rw (p, step) refl
    go true p = rw (p, step) (side_of_lem x.side (settled (local (setting b x.side) (known s) (shelf_of s) (side s x.side).core x)))

-- and where it is a label, the wrapper has the side
labelled_side : (b : Composition) (s : State) (x : Step) → is_label (step b s x).answer ≡ true → has_side (wrapper_of b) (answer_side (step b s x).answer) ≡ true
unfolding RefusedWhole
labelled_side b s x h = ap (has_side (wrapper_of b)) (answer_side_lem b s x) ∙ by (has_side (wrapper_of b) x.side) refl
  where
    by : (t : Bool) → has_side (wrapper_of b) x.side ≡ t → t ≡ true
    by true e = refl
    by false e = absurd (false≢true (sym (ap is_label (refused_whole.0 b s x (inr e)).0) ∙ h))

-- WHAT A RUN SHOWS

joined_append : (x y : List (List ℕ)) → joined (x ++ y) ≡ joined x ++ joined y
joined_append [] y = refl
joined_append (r ∷ x) y = ap (λ (l : List ℕ). r ++ l) (joined_append x y) ∙ sym (append_assoc r (joined x) (joined y))

-- the one record of a value that is known by its words
one_record : (c n : ℕ) (ws : List ℕ) (v : Val ℕ) (cs : List ℕ) → ws ≡ vwords v → record_of c n v ++ cs ≡ joined ((c ∷ n ∷ length ws ∷ ws) ∷ []) ++ cs
one_record c n ws v cs e = ap (λ (l : List ℕ). (c ∷ n ∷ length l ∷ l) ++ cs) (sym e) ∙ ap (λ (l : List ℕ). l ++ cs) (sym (append-nil (c ∷ n ∷ length ws ∷ ws)))

-- one more label
shows_more : {w : Wrapper} {a : Answer} {l : Label} {ls : List Label} {cs : List ℕ} → Says w a l → has_side w (answer_side a) ≡ true → Shows w ls cs → Shows w (l ∷ ls) (joined (visible a) ++ cs)
shows_more says_tau h r = shows_tau r
shows_more {w = w} {cs = cs} (says_in {ws = ws} {v = v} e f) h r = subst (Shows w _) (one_record 0 _ ws v cs e) (shows_in (record { side = h; value = f }) r)
shows_more {w = w} {cs = cs} (says_out {ws = ws} {v = v} e f) h r = subst (Shows w _) (one_record 1 _ ws v cs e) (shows_out (record { side = h; value = f }) r)
shows_more {w = w} {cs = cs} (says_log {ws = ws} {v = v} i e f) h r = subst (Shows w _) (one_record 3 _ ws v cs e) (shows_log i (record { side = h; value = f }) r)

module _ (b : Composition) where
  -- what the checker takes for the visible labels of legal steps is what their labels show
  shows_all : {s : State} {ks : List Step} {ls : List Label} → SaysAll b s ks ls → every is_label (answers b s ks) ≡ true → Shows (wrapper_of b) ls (joined (all_visible (answers b s ks)))
  unfolding answers
  shows_all says_none h = shows_none
  shows_all (says_more {s = s} {k = k} {ks = ks} {l = l} {ls = ls} says r) h =
      let rest = answers b (step b s k).after ks in
      subst (Shows (wrapper_of b) (l ∷ ls)) (sym (joined_append (visible (step b s k).answer) (all_visible rest)))
      (shows_more says (labelled_side b s k (fst _ _ h)) (shows_all r (snd _ _ h)))
  shows_all (says_refused q r) h = absurd (false≢true (sym (ap is_label q) ∙ fst _ _ h))

  -- and each has one
  one_each : {s : State} {ks : List Step} {ls : List Label} → SaysAll b s ks ls → every is_label (answers b s ks) ≡ true → length ls ≡ length ks
  unfolding answers
  one_each says_none h = refl
  one_each (says_more says r) h = let e = one_each r (snd _ _ h) in omega (arith, e)
  one_each (says_refused q r) h = absurd (false≢true (sym (ap is_label q) ∙ fst _ _ h))

pub accepted_published : AcceptedPublished
unfolding AcceptedPublished AcceptsIff TablesToTrace WrapperRuns
accepted_published b ws cs e =
    let h = (accepts_iff b ws cs).0 e in
    let s = h.runs.state in
    let loads = h.runs.loads in
    let (P, wraps, runs) = tables_to_trace b s loads in
    let (ls, says, more) = runs h.steps in
    record {
      state = s;
      loads = loads;
      steps = h.steps;
      words = h.words;
      labels = ls;
      says = says;
      each = one_each b says h.runs.legal;
      shows = subst (Shows (wrapper_of b) ls) (sym h.labels) (shows_all b says h.runs.legal);
      process = P;
      wraps = wraps;
      sequence = λ X outside. wrapper_runs b s X h.steps ls P loads outside wraps says;
    }
