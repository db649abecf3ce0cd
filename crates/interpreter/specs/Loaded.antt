-- What load answers, as the structs hold it.
use Rattle.std.specs.Prelude.{◌≡◌, true, map, ℕ}
use Rattle.std.proofs.Math.Option.{Option, none, some}
use Rattle.model.specs.Basics.{has}
use Rattle.model.specs.Side.{no_side}
use Rattle.model.specs.Side.{State as MState}
use Rattle.model.specs.Wrapper.{all_sides, has_side}
use Rattle.model.specs.Load.{Composition, wrapper_of, Refused, Loaded, refused, ok}
use Rattle.model.specs.Load.{table as table_of}
use Rattle.sides.specs.declared.State.{State}
use Rattle.sides.specs.Sides.{view_state, fits_arrays, state_of}
use Rattle.loading.specs.Loading.{refusal_of}
use Rattle.loading.specs.Starting.{Startable}
use Rattle.interpreter.specs.declared.LoadAnswer.{LoadAnswer}

-- r is the state s, every count within its array
pub record StateIs (s : MState) (r : State) : Type 0 where
  pub view : view_state r ≡ s
  pub fits : fits_arrays r ≡ true

-- every side that the wrapper has passes checks 1 to 7
pub record AllStartable (b : Composition) : Type 0 where
  pub sides : (n : ℕ) → has n all_sides ≡ true → has_side (wrapper_of b) n ≡ true → Startable n (table_of b n)

-- a load by its refusal, or by the state where nothing is refused
abbrev pub loaded_by : Option Refused → MState → Loaded
loaded_by none s = ok s
loaded_by (some x) s = refused x

-- the load that an answer gives: number, side and node of its refusal, or its state
abbrev pub loaded_of : LoadAnswer → Loaded
loaded_of r = loaded_by (refusal_of r.outcome) (view_state r.state)

-- the state beside what load says: nothing where it refuses
abbrev pub state_loaded : Loaded → MState
state_loaded (refused x) = record { sides = map (λ n. no_side) all_sides }
state_loaded (ok s) = s

-- r is what load answers
pub record LoadIs (l : Loaded) (r : LoadAnswer) : Type 0 where
  pub answer : loaded_of r ≡ l
  pub state : state_of r.state ≡ some (state_loaded l)
