-- Demand 2 of the wrapper itself, as document 004 writes it round the tables' processes: from the tables to the trace.
use Rattle.std.specs.Prelude.{◌≡◌, true, List, [], ℕ}
use Rattle.calculus.specs.Syntax.{Proc}
use Rattle.calculus.specs.Congruence.{◌≋◌}
use Rattle.calculus.specs.Transitions.{Label, mem}
use Rattle.calculus.specs.Marks.{Published, Seq, grown_by}
use Rattle.calculus.specs.Purity.{EachLabel}
use Rattle.calculus.specs.Wrappers.{W1, W2, L}
use Rattle.model.specs.Basics.{every}
use Rattle.model.specs.Values.{is_outside}
use Rattle.model.specs.Side.{State}
use Rattle.model.specs.Load.{Composition, table, load, ok}
use Rattle.model.specs.Step.{Step}
use Rattle.model.specs.Runs.{after_all}
use Rattle.model.specs.Process.{known_of}
use Rattle.model.specs.Agreement.{process_of, handler, Written}
use Rattle.model.specs.Published.{PureLabel, Offered, SaysAll}

-- THE WRAPPER ITSELF

-- the wrapper round the tables' processes
pub data Wraps (b : Composition) : Proc (Unit {0}) [] → Type 0 where
  as_filter : b.wrapper ≡ 1 → Wraps b (W1 tt (handler (table b 1)))
  as_pipeline : b.wrapper ≡ 2 → Wraps b (W2 tt (handler (table b 1)) (handler (table b 2)))
  as_logging : b.wrapper ≡ 3 → Wraps b (L tt (handler (table b 1)))

-- from a load that succeeds, every run's labels are a sequence of published transitions of the wrapper itself, to the process of
-- the state after it
unfoldable pub WrapperRuns : Type 0
WrapperRuns = (b : Composition) (s : State) (X : List ℕ) (ks : List Step) (ls : List Label) (P : Proc (Unit {0}) []) → load b ≡ ok s → every is_outside X ≡ true → Wraps b P → SaysAll b s ks ls
    → (Q : Proc (Unit {0}) []) × Seq (known_of X s) P ls Q × (Q ≋ process_of b (after_all b s ks))

-- Q is what a run from a load that succeeds leads to, as in WrapperRuns, and A has the names known at its start, the outside names X among
-- them, and those of its labels
pub record Led (b : Composition) (s : State) (X : List ℕ) (ks : List Step) (ls : List Label) (A : List ℕ) (Q : Proc (Unit {0}) []) : Type 0 where
  pub loaded : load b ≡ ok s
  pub outside : every is_outside X ≡ true
  pub says : SaysAll b s ks ls
  pub members : (z : ℕ) → mem z (grown_by ls (known_of X s)) ≡ mem z A
  pub reaches : Q ≋ process_of b (after_all b s ks)

-- each published transition of such a Q is offered by the bench in the state after the run
unfoldable pub WrapperComplete : Type 0
WrapperComplete = (b : Composition) (s : State) (X : List ℕ) (ks : List Step) (ls : List Label) (A : List ℕ) (Q R : Proc (Unit {0}) []) (l : Label)
    → Led b s X ks ls A Q → Published A Q l R → Written l → Offered A b (after_all b s ks) l R

-- and its label is τ, an input on a side's inlet, an output on a side's outlet or, under wrapper 3, on `log`
unfoldable pub WrapperPure : Type 0
WrapperPure = (b : Composition) (s : State) (X : List ℕ) (ks : List Step) (ls : List Label) (A : List ℕ) (Q R : Proc (Unit {0}) []) (l : Label)
    → Led b s X ks ls A Q → Published A Q l R → PureLabel b l

-- so are the labels of every sequence of the wrapper, from any A, whether the bench can run it or not
unfoldable pub SequencesPure : Type 0
SequencesPure = (b : Composition) (P Q : Proc (Unit {0}) []) (A : List ℕ) (ls : List Label) → Wraps b P → Seq A P ls Q → EachLabel (PureLabel b) ls

-- DEMAND 2 in one statement, from the tables to the trace: a load that succeeds is of the wrapper round the tables' processes; every run has
-- its labels, and they are a sequence of published transitions of that wrapper; and each published transition of what it leads to is offered
unfoldable pub TablesToTrace : Type 0
TablesToTrace = (b : Composition) (s : State) → load b ≡ ok s
    → (P : Proc (Unit {0}) []) × Wraps b P
    × ((ks : List Step) → (ls : List Label) × SaysAll b s ks ls
    × ((X : List ℕ) → every is_outside X ≡ true → (Q : Proc (Unit {0}) []) × Seq (known_of X s) P ls Q
    × ((l : Label) (R : Proc (Unit {0}) []) → Published (grown_by ls (known_of X s)) Q l R → Written l → Offered (grown_by ls (known_of X s)) b (after_all b s ks) l R)))
