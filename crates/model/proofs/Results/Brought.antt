-- The names brought from outside: after a load the wrapper has none, and behind a label those of the label are known.
use mathlib.Core.Path.{◌≡◌, refl, sym, ap, ◌∙◌, subst, transport}
use mathlib.Core.List.{List, [], ◌∷◌, ◌++◌}
use mathlib.Core.Bool.{Bool, true, false, false≢true}
use mathlib.Core.Logic.{◌⊎◌, inl, inr, ⊎_elim}
use Prim.Native.Nat.{ℕ, ◌<◌}
use native.Mathlib.Omega.{arith}
use borrow.Author.Tests.{eqb-true, ltb-true}
use lib.Dec.{eqb, ltb, eqb_refl}
use Rattle.calculus.specs.Syntax.{Proc, var, AllN, AllV, outer}
use Rattle.calculus.specs.Congruence.{◌≋◌, symm}
use Rattle.calculus.specs.Transitions.{Label, In, Fn⊆, lnames}
use Rattle.calculus.specs.Named.{public}
use Rattle.calculus.specs.Wrappers.{W1, W2, L, two_scope, far}
use Rattle.calculus.specs.Tree.{process}
use Rattle.model.specs.Basics.{every}
use Rattle.model.specs.Values.{is_outside}
use Rattle.model.specs.Side.{State}
use Rattle.model.specs.Table.{Table, term}
use Rattle.model.specs.Wrapper.{is_wrapper}
use Rattle.model.specs.Load.{Composition, wrapper_of, table, load, ok, is_ok}
use Rattle.model.specs.WellFormed.{ready}
use Rattle.model.specs.Step.{Step, step}
use Rattle.model.specs.Process.{code_of, conf_of, new_of, known_of}
use Rattle.model.specs.Agreement.{process_of, handler, LoadAgrees, Says, Sound, SoundAt, Brought, outside_in, BroughtKept, NamesGrow}
use Rattle.model.specs.Wrapped.{Wraps, as_filter, as_pipeline, as_logging}
use Rattle.calculus.proofs.Renaming.{AllN-map, AllN-ren}
use Rattle.calculus.proofs.FreeNames.{cong_fn, step_fn, or_left, or_right}
use Rattle.calculus.proofs.Restriction.{fn_news}
use Rattle.calculus.proofs.Unfolding.{proc_all}
use Rattle.calculus.proofs.WrapperStart.{sound_names}
use Rattle.calculus.proofs.Marks.{remark_all}
use Rattle.model.proofs.Basics.Tests.{alt, both, every_append}
use Rattle.model.proofs.Processes.KnownNames.{outside_names, in_outside, is_low, by_known, keep_out}
use Rattle.model.proofs.Sound.StateMoves.{fn_all, is_process}
use Rattle.model.proofs.Sound.Sound.{sound}
use Rattle.model.proofs.Sound.NamesGrowing.{names_grow}
use Rattle.model.proofs.Sound.LoadAgrees.{load_agrees}

-- THE WRAPPER OF A LOAD THAT SUCCEEDS

-- it is the filter, the pipeline or the logging wrapper
loads_known : (b : Composition) (s : State) → load b ≡ ok s → is_wrapper b.wrapper ≡ true
unfolding load
loads_known b s e = go (is_wrapper b.wrapper) refl
  where
    go : (t : Bool) → is_wrapper b.wrapper ≡ t → is_wrapper b.wrapper ≡ true
    go true h = h
    go false h = let z : ◌≡◌ {A = Bool} false true = ap is_ok (rw (h, load) at e) in absurd (false≢true z)

pub wrapper_of_lem : (b : Composition) (s : State) → load b ≡ ok s → (P : Proc (Unit {0}) []) × Wraps b P
wrapper_of_lem b s e = by_number (eqb b.wrapper 1) refl (eqb b.wrapper 2) refl (eqb b.wrapper 3) refl
  where
    by_number : (t : Bool) → eqb b.wrapper 1 ≡ t → (u : Bool) → eqb b.wrapper 2 ≡ u → (v : Bool) → eqb b.wrapper 3 ≡ v → (P : Proc (Unit {0}) []) × Wraps b P
    by_number true h u k v j = (W1 tt (handler (table b 1)), as_filter (eqb-true b.wrapper 1 h))
    by_number false h true k v j = (W2 tt (handler (table b 1)) (handler (table b 2)), as_pipeline (eqb-true b.wrapper 2 k))
    by_number false h false k true j = (L tt (handler (table b 1)), as_logging (eqb-true b.wrapper 3 j))
    by_number false h false k false j = absurd (⊎_elim (λ q. false≢true (sym h ∙ q)) (λ q. ⊎_elim (λ q. false≢true (sym k ∙ q)) (λ q. false≢true (sym j ∙ q)) (alt _ _ q)) (alt _ _ (loads_known b s e)))

pub wraps_start : (b : Composition) (s : State) {P : Proc (Unit {0}) []} → load b ≡ ok s → Wraps b P → P ≋ process_of b s
unfolding LoadAgrees
wraps_start b s e (as_filter w) = symm ((load_agrees b s e).0 w)
wraps_start b s e (as_pipeline w) = symm ((load_agrees b s e).1 w)
wraps_start b s e (as_logging w) = symm ((load_agrees b s e).2 w)

-- ITS NAMES are those of documents 01 and 004, all below 81: a table's are public
module _ (A : ℕ → Type 0) (low : (z : ℕ) → z < 81 → A z) where
  handler_names : (t : Table) → AllN (handler t) A
  handler_names t = proc_all [] tt (code_of (term t 0)) public A (sound_names [] (code_of (term t 0)) public (λ n. tt)) (λ n. go n (ltb n 64) refl)
    where
      go : (n : ℕ) (c : Bool) → ltb n 64 ≡ c → AllV (public n) A
      go n true q = rw q (low n (let l = ltb-true n 64 q in omega arith))
      go n false q = rw q (low 0 (omega arith))

  -- a forwarder's channels are such names; its tags and its value are bound
  pub wrapper_names : {b : Composition} {P : Proc (Unit {0}) []} → Wraps b P → AllN P A
  unfolding AllN
  wrapper_names {b} (as_filter w) = (
    (tt, AllN-ren (var ∷ []) (handler (table b 1)) inr (outer A) (handler_names (table b 1))),
    ((low 0 (omega arith), tt, (low 0 (omega arith), tt, tt)), ((low 1 (omega arith), tt, (low 1 (omega arith), tt, tt)), tt)),
  )
  wrapper_names {b} (as_pipeline w) = (
    (tt, AllN-ren two_scope (handler (table b 1)) far (outer (outer A)) (handler_names (table b 1))),
    (
      (tt, AllN-ren two_scope (handler (table b 2)) far (outer (outer A)) (handler_names (table b 2))),
      (
        (low 65 (omega arith), tt, (low 0 (omega arith), tt, tt)),
        (
          (low 66 (omega arith), tt, (low 0 (omega arith), tt, tt)),
          (
            (low 1 (omega arith), tt, (low 73 (omega arith), tt, tt)),
            ((low 1 (omega arith), tt, (low 74 (omega arith), tt, tt)), ((low 2 (omega arith), tt, (low 2 (omega arith), tt, tt)), tt)),
          ),
        ),
      ),
    ),
  )
  wrapper_names {b} (as_logging w) = (
    (tt, AllN-ren (var ∷ []) (handler (table b 1)) inr (outer A) (handler_names (table b 1))),
    (
      (low 0 (omega arith), tt, ((low 3 (omega arith), tt, tt), (low 0 (omega arith), tt, tt))),
      ((low 1 (omega arith), tt, ((low 3 (omega arith), tt, tt), (low 1 (omega arith), tt, tt))), tt),
    ),
  )

-- EVERY ONE OF A LIST
every_of : (f : ℕ → Bool) (l : List ℕ) → ((z : ℕ) → In l z → f z ≡ true) → every f l ≡ true
every_of f [] h = refl
every_of f (x ∷ l) h = both _ _ (h x (or_left (eqb x x) _ (eqb_refl x))) (every_of f l (λ z i. h z (or_right (eqb z x) _ i)))

-- IN EVERY STATE all of them will do
all_brought : (b : Composition) (s : State) → ready b s ≡ true → Brought b s outside_names
all_brought b s e = record {
  outside = every_of is_outside outside_names in_outside;
  free = transport (remark_all (λ m. tt) (process (conf_of b s)) (In (known_of outside_names s)))
      (subst (λ (P : Proc _ []). Fn⊆ P (known_of outside_names s)) (sym (is_process b s e s)) (fn_news (new_of b s) (known_of outside_names s) _ (fn_all b s e)));
}

-- AFTER A LOAD any will do
pub load_brought : (b : Composition) (s : State) (X : List ℕ) → load b ≡ ok s → every is_outside X ≡ true → Brought b s X
load_brought b s X e h =
    let (P, w) = wrapper_of_lem b s e in
    record { outside = h; free = (cong_fn (wraps_start b s e w) (In (known_of X s))).0 (wrapper_names (In (known_of X s)) (λ z l. by_known X s z (is_low l)) w) }

-- BEHIND A LABEL its target has the names of its source and of the label
pub step_brought : (b : Composition) (s : State) (X : List ℕ) (k : Step) (l : Label) → ready b s ≡ true → Brought b s X → Says (wrapper_of b) (step b s k).answer l → Brought b (step b s k).after (outside_in l ++ X)
unfolding Sound SoundAt NamesGrow
step_brought b s X k l e h sy =
    let (w, at, asks, side, R, d, to) = (sound b s k e).1 X l h sy in
    let known : (z : ℕ) → In (lnames l) z ⊎ In (known_of X s) z → In (known_of (outside_in l ++ X) (step b s k).after) z = λ z i. (names_grow b s X k l e sy z).1 (⊎_elim (λ p. inr p) (λ p. inl p) i) in
    record {
      outside = every_append is_outside (outside_in l) X (every_of is_outside (outside_in l) (λ z i. (keep_out is_outside (lnames l) z i).1)) h.outside;
      free = AllN-map (process_of b (step b s k).after) known ((cong_fn to _).0 (transport (remark_all (λ m. tt) R _) (step_fn d)));
    }

pub brought_kept : BroughtKept
unfolding BroughtKept
brought_kept = (λ b s e. (outside_names, all_brought b s e), load_brought, step_brought)
