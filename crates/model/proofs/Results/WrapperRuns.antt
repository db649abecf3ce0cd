-- Runs of the wrapper itself: the bench's state and the process that a sequence leads to are congruent, and have the same transitions.
use mathlib.Core.Path.{◌≡◌, refl, sym, ◌∙◌, subst}
use mathlib.Core.List.{List, [], ◌∷◌, ◌++◌}
use mathlib.Core.Bool.{true}
use mathlib.Core.Logic.{inl, inr, ⊎_elim}
use Prim.Native.Nat.{ℕ}
use lib.Dec.{T}
use Rattle.calculus.specs.Syntax.{Val, parent, plain as aside, Proc}
use Rattle.calculus.specs.Congruence.{◌≋◌, rfl, symm}
use Rattle.calculus.specs.Transitions.{Label, send, recv, lnames}
use Rattle.calculus.specs.Marks.{Published, Seq, ended, first, grown_by}
use Rattle.calculus.specs.Purity.{Legit, silent, inward, outward, EachLabel, Proposition2, Proposition3, Proposition4}
use Rattle.calculus.specs.Wrappers.{in_name, out_name, log_name, env_in, env_out}
use Rattle.model.specs.Basics.{every}
use Rattle.model.specs.Values.{is_outside}
use Rattle.model.specs.Side.{State}
use Rattle.model.specs.Table.{Table}
use Rattle.model.specs.Load.{Composition}
use Rattle.model.specs.WellFormed.{ready}
use Rattle.model.specs.Step.{Step}
use Rattle.model.specs.Process.{known_of}
use Rattle.model.specs.Agreement.{process_of, Brought, outside_in}
use Rattle.model.specs.Runs.{Reached, after_all}
use Rattle.model.specs.Published.{MetPublished, Offered, PurePublished, CompletePublished, Path, stop, go, SaysAll, says_none, says_more, says_refused, RunsAreTransitions, PureLabel, pure_tau, pure_in, pure_out, pure_log}
use Rattle.model.specs.Wrapped.{as_filter, as_pipeline, as_logging, WrapperRuns, Led, WrapperComplete, WrapperPure, SequencesPure, TablesToTrace}
use Rattle.calculus.proofs.Members.{SameMembers, step_members}
use Rattle.calculus.proofs.CongruentSteps.{same_steps}
use Rattle.calculus.proofs.Parallels.{Each}
use Rattle.calculus.proofs.KnownNames.{each_mem}
use Rattle.calculus.proofs.Purity.{proposition_2, proposition_3, proposition_4}
use Rattle.model.proofs.Formed.Reached.{reached}
use Rattle.model.proofs.Complete.CompletePublished.{complete_published}
use Rattle.model.proofs.Results.Purity.{pure_published}
use Rattle.model.proofs.Results.Brought.{wrapper_of_lem, wraps_start, load_brought, step_brought}
use Rattle.model.proofs.Results.Corollaries.{step_ready, refused_still, grown, runs_are_transitions}

-- a sequence of states' processes starts as well at a process that is congruent to the first
from_congruent : (b : Composition) {A : List ℕ} {s s' : State} {ls : List Label} (P : Proc (Unit {0}) []) → Path b A s ls s' → P ≋ process_of b s → (Q : Proc (Unit {0}) []) × Seq A P ls Q × (Q ≋ process_of b s')
from_congruent b P stop e = (P, ended, e)
from_congruent b P (go {s' = s'} p rest) e = let (Q, q, f) = from_congruent b (process_of b s') rest rfl in (Q, first (p.0, same_steps (symm e) p.1) q, f)

pub wrapper_runs : WrapperRuns
unfolding WrapperRuns RunsAreTransitions Reached
wrapper_runs b s X ks ls P e h w says = from_congruent b P ((runs_are_transitions b s ks ((reached b).0 s e)).1 X ls (load_brought b s X e h) says) (wraps_start b s e w)

-- after a run the state is ready, and with some outside names brought its known names are those of the start and of the labels
pub record Behind (b : Composition) (s : State) (A : List ℕ) : Type 0 where
  pub is_ready : ready b s ≡ true
  pub X : List ℕ
  pub outside : every is_outside X ≡ true
  pub same : SameMembers (known_of X s) A

pub after_run : (b : Composition) {s : State} {ks : List Step} {ls : List Label} → SaysAll b s ks ls → ready b s ≡ true → (X : List ℕ) → Brought b s X → (A : List ℕ) → SameMembers (known_of X s) A → Behind b (after_all b s ks) (grown_by ls A)
unfolding after_all
after_run b says_none e X h A same = record { is_ready = e; X = X; outside = h.outside; same = same }
after_run b (says_more {s = s} {k = k} {l = l} sy r) e X h A same = after_run b r (step_ready b s k e) (outside_in l ++ X) (step_brought b s X k l e h sy) (lnames l ++ A) (grown b s X k l e sy A same)
after_run b (says_refused {s = s} {k = k} q r) e X h A same =
    let still = sym (refused_still b s k q) in
    after_run b r (step_ready b s k e) X (subst (λ (t : State). Brought b t X) still h) A (subst (λ (t : State). SameMembers (known_of X t) A) still same)

-- lists with the same members keep the same names
offered_same : (A B : List ℕ) (b : Composition) (s : State) (l : Label) (R : Proc (Unit {0}) []) → SameMembers A B → Offered A b s l R → Offered B b s l R
offered_same A B b s l R h (w, k, f) = (w, k, λ k a ask. ⊎_elim (λ m. inl (met k m)) (λ r. inr r) (f k a ask))
  where
    met : (k : Step) → MetPublished A b s l R k → MetPublished B b s l R k
    met k m = record {
      names = record { to = m.names.to; back = m.names.back; to_back = m.names.to_back; back_to = m.names.back_to; keeps = λ z i. m.names.keeps z (subst T (sym (h z)) i) };
      label = m.label;
      side = m.side;
      target = m.target;
    }

-- the transitions of the process that the run leads to are those of the state's
module _ (b : Composition) (s : State) (X : List ℕ) (ks : List Step) (ls : List Label) (A : List ℕ) (Q R : Proc (Unit {0}) []) (l : Label) (r : Led b s X ks ls A Q) where
  led : Behind b (after_all b s ks) (grown_by ls (known_of X s))
  unfolding Reached
  led = after_run b r.says ((reached b).0 s r.loaded) X (load_brought b s X r.loaded r.outside) (known_of X s) (λ z. refl)

  led_same : SameMembers (known_of led.X (after_all b s ks)) A
  led_same z = led.same z ∙ r.members z

  led_step : Published A Q l R → Published (known_of led.X (after_all b s ks)) (process_of b (after_all b s ks)) l R
  led_step p = (p.0, same_steps r.reaches (step_members p.1 (known_of led.X (after_all b s ks)) (λ z. sym (led_same z))))

pub wrapper_complete : WrapperComplete
unfolding WrapperComplete CompletePublished
wrapper_complete b s X ks ls A Q R l r p wr =
    let q = led b s X ks ls A Q R l r in
    offered_same (known_of q.X (after_all b s ks)) A b (after_all b s ks) l R (led_same b s X ks ls A Q R l r)
    (complete_published b (after_all b s ks) q.X l R q.is_ready q.outside (led_step b s X ks ls A Q R l r p) wr)

pub wrapper_pure : WrapperPure
unfolding WrapperPure PurePublished
wrapper_pure b s X ks ls A Q R l r p = let q = led b s X ks ls A Q R l r in pure_published b (after_all b s ks) q.X l R q.is_ready q.outside (led_step b s X ks ls A Q R l r p)

pub tables_to_trace : TablesToTrace
unfolding TablesToTrace RunsAreTransitions Reached WrapperRuns WrapperComplete
tables_to_trace b s e =
    let (P, w) = wrapper_of_lem b s e in (
      P,
      w,
      λ ks.
          let (ls, says) = (runs_are_transitions b s ks ((reached b).0 s e)).0 in (
            ls,
            says,
            λ X h.
                let (Q, sequence, reaches) = wrapper_runs b s X ks ls P e h w says in
                let led : Led b s X ks ls (grown_by ls (known_of X s)) Q = record { loaded = e; outside = h; says = says; members = λ z. refl; reaches = reaches } in
                (Q, sequence, λ l R p written. wrapper_complete b s X ks ls (grown_by ls (known_of X s)) Q R l led p written),
          ),
    )

-- ANY SEQUENCE

-- the labels of Propositions 2 to 4 are those of the description
legit_pure : (b : Composition) (ins outs : List ℕ) → Each (λ x. (v : Val ℕ) → PureLabel b (recv x (aside parent) v)) ins → Each (λ x. (v : Val ℕ) → PureLabel b (send x (aside parent) v)) outs
    → {l : Label} → Legit ins outs l → PureLabel b l
legit_pure b ins outs hi ho silent = pure_tau
legit_pure b ins outs hi ho (inward {x = x} {v = v} i) = each_mem (λ y. (v : Val ℕ) → PureLabel b (recv y (aside parent) v)) ins x hi i v
legit_pure b ins outs hi ho (outward {x = x} {v = v} i) = each_mem (λ y. (v : Val ℕ) → PureLabel b (send y (aside parent) v)) outs x ho i v

each_label : {F G : Label → Type 0} → ((l : Label) → F l → G l) → (ls : List Label) → EachLabel F ls → EachLabel G ls
each_label f [] h = tt
each_label f (l ∷ ls) h = (f l h.0, each_label f ls h.1)

module _ (ts : List Table) where
  abbrev b1 : Composition
  b1 = record { wrapper = 1; tables = ts }

  abbrev b2 : Composition
  b2 = record { wrapper = 2; tables = ts }

  filter_pure : (l : Label) → Legit (in_name ∷ []) (out_name ∷ []) l → PureLabel b1 l
  filter_pure l h = legit_pure b1 (in_name ∷ []) (out_name ∷ []) (λ v. pure_in 1 tt, tt) (λ v. pure_out 1 tt, tt) h

  pipeline_pure : (l : Label) → Legit (env_in 1 ∷ env_in 2 ∷ []) (env_out 1 ∷ env_out 2 ∷ []) l → PureLabel b2 l
  pipeline_pure l h = legit_pure b2 (env_in 1 ∷ env_in 2 ∷ []) (env_out 1 ∷ env_out 2 ∷ []) (λ v. pure_in 1 tt, (λ v. pure_in 2 tt, tt)) (λ v. pure_out 1 tt, (λ v. pure_out 2 tt, tt)) h

  abbrev b3 : Composition
  b3 = record { wrapper = 3; tables = ts }

  logging_pure : (l : Label) → Legit (in_name ∷ []) (out_name ∷ log_name ∷ []) l → PureLabel b3 l
  logging_pure l h = legit_pure b3 (in_name ∷ []) (out_name ∷ log_name ∷ []) (λ v. pure_in 1 tt, tt) (λ v. pure_out 1 tt, (λ v. pure_log refl, tt)) h

pub sequences_pure : SequencesPure
unfolding SequencesPure Proposition2 Proposition3 Proposition4
sequences_pure b P Q A ls (as_filter w) q =
    each_label (subst (λ (x : ℕ). (l : Label) → Legit (in_name ∷ []) (out_name ∷ []) l → PureLabel (record { wrapper = x; tables = b.tables }) l) (sym w) (filter_pure b.tables)) ls (proposition_2 _ Q A ls q)
sequences_pure b P Q A ls (as_pipeline w) q =
    each_label (subst (λ (x : ℕ). (l : Label) → Legit (env_in 1 ∷ env_in 2 ∷ []) (env_out 1 ∷ env_out 2 ∷ []) l → PureLabel (record { wrapper = x; tables = b.tables }) l) (sym w) (pipeline_pure b.tables)) ls (proposition_4 _ _ Q A ls q)
sequences_pure b P Q A ls (as_logging w) q =
    each_label (subst (λ (x : ℕ). (l : Label) → Legit (in_name ∷ []) (out_name ∷ log_name ∷ []) l → PureLabel (record { wrapper = x; tables = b.tables }) l) (sym w) (logging_pure b.tables)) ls (proposition_3 _ Q A ls q)
