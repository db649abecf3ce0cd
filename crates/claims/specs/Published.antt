-- An accepted claim in the published calculus: the wrapper itself makes transitions, one for each step, that show what is claimed.
use Rattle.std.specs.Prelude.{◌≡◌, true, not, List, [], ◌∷◌, ◌++◌, ℕ, T, length}
use Rattle.calculus.specs.Syntax.{Val, parent, plain, Proc}
use Rattle.calculus.specs.Congruence.{◌≋◌}
use Rattle.calculus.specs.Transitions.{Label, tau, send, recv}
use Rattle.calculus.specs.Marks.{Seq}
use Rattle.model.specs.Basics.{has, every}
use Rattle.model.specs.Values.{is_outside}
use Rattle.model.specs.Side.{State}
use Rattle.model.specs.Wrapper.{Wrapper, has_side}
use Rattle.model.specs.Load.{Composition, wrapper_of, ok, load}
use Rattle.model.specs.Step.{Step}
use Rattle.model.specs.Process.{vwords, known_of}
use Rattle.model.specs.Agreement.{foreign, process_of}
use Rattle.model.specs.Published.{SaysAll}
use Rattle.model.specs.Wrapped.{Wraps}
use Rattle.model.specs.Runs.{after_all}
use Rattle.format.specs.Words.{all_step_words}
use Rattle.claims.specs.Claims.{accepted, check_trace}

-- the record of a value on a channel: channel, side, count and value words
abbrev pub record_of : (channel side : ℕ) → Val ℕ → List ℕ
record_of c n v = c ∷ n ∷ length (vwords v) ∷ vwords v

-- a side that the wrapper has, and a value whose names are all public, minted or from outside, so that it is known by its words
pub record Readable (w : Wrapper) (n : ℕ) (v : Val ℕ) : Type 0 where
  pub side : has_side w n ≡ true
  pub value : T (not (foreign v))

-- what the labels of some transitions show, one record behind another: τ nothing, an input on a side's inlet its value on channel 0, an
-- output on a side's outlet its value on 1, and one on a channel of copies its value on 3
pub data Shows (w : Wrapper) : List Label → List ℕ → Type 0 where
  shows_none : Shows w [] []
  shows_tau : {ls : List Label} {cs : List ℕ} → Shows w ls cs → Shows w (tau ∷ ls) cs
  shows_in : {ls : List Label} {cs : List ℕ} {n : ℕ} {v : Val ℕ} → Readable w n v → Shows w ls cs → Shows w (recv (w.inlet n) (plain parent) v ∷ ls) (record_of 0 n v ++ cs)
  shows_out : {ls : List Label} {cs : List ℕ} {n : ℕ} {v : Val ℕ} → Readable w n v → Shows w ls cs → Shows w (send (w.outlet n) (plain parent) v ∷ ls) (record_of 1 n v ++ cs)
  shows_log : {ls : List Label} {cs : List ℕ} {n c : ℕ} {v : Val ℕ} → has c w.copies ≡ true → Readable w n v → Shows w ls cs → Shows w (send c (plain parent) v ∷ ls) (record_of 3 n v ++ cs)

-- the load succeeds; the words ws are those of some steps, each answered with a label; these labels show the claimed words cs; and they are
-- a sequence of published transitions of the wrapper round the tables' processes, to the process of the state after the steps
pub record Performed (b : Composition) (ws cs : List ℕ) : Type 0 where
  pub state : State
  pub loads : load b ≡ ok state
  pub steps : List Step
  pub words : ws ≡ all_step_words steps
  pub labels : List Label
  pub says : SaysAll b state steps labels
  pub each : length labels ≡ length steps
  pub shows : Shows (wrapper_of b) labels cs
  pub process : Proc (Unit {0}) []
  pub wraps : Wraps b process
  pub sequence : (X : List ℕ) → every is_outside X ≡ true → (Q : Proc (Unit {0}) []) × Seq (known_of X state) process labels Q × (Q ≋ process_of b (after_all b state steps))

-- DEMAND 2 OF AN ACCEPTED CLAIM: what the maker claims is what the published calculus shows
unfoldable pub AcceptedPublished : Type 0
AcceptedPublished = (b : Composition) (ws cs : List ℕ) → check_trace b ws cs ≡ accepted → Performed b ws cs
