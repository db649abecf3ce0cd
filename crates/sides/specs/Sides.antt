-- A side of the model: from its words, and the rest of it by value. A state, from the struct.
use Rattle.std.specs.Prelude.{◌≡◌, Bool, true, cond, List, map, ℕ, leb}
use Rattle.std.proofs.Math.Option.{Option, none, some}
use Rattle.model.specs.Basics.{◌&◌, every}
use Rattle.model.specs.Side.{Contents, Core, no_side}
use Rattle.model.specs.Side.{Side as MSide, State as MState}
use Rattle.sides.specs.Views.{view_lobby, fits_lobby}
use Rattle.sides.specs.Layout.{view_rows, view_boxes, view_shelf, fits_rows, fits_shelf}
use Rattle.sides.specs.declared.Rest.{Rest}
use Rattle.sides.specs.declared.Side.{Side}
use Rattle.sides.specs.declared.State.{State}

-- what unfolding adds to: so many rows and boxes, and the count of minted names
abbrev pub contents_of : List ℕ → (particles boxes minted : ℕ) → Contents
contents_of l ps bs m = record { particles = view_rows l ps; boxes = view_boxes l bs; minted = m }

-- what a side's own steps read and write
abbrev pub core_of : List ℕ → Rest → Core
core_of l o = record { contents = contents_of l o.particles o.boxes o.minted; lobby = view_lobby o.lobby; shelf = view_shelf l o.shelved; taken = o.taken }

-- every count is within its array
abbrev pub fits_side : List ℕ → Rest → Bool
fits_side l o = fits_rows l o.particles & (leb o.boxes 16 & (fits_lobby o.lobby & fits_shelf l o.shelved))

-- the rest r is that of a side that the wrapper lacks, whatever its words are
pub record Nothing (r : Rest) : Type 0 where
  pub core : (l : List ℕ) → core_of l r ≡ no_side.core
  pub fits : (l : List ℕ) → fits_side l r ≡ true

-- a side, with its marks
abbrev pub side_of : List ℕ → Rest → List Bool → MSide
side_of l o m = record { core = core_of l o; left = m }

abbrev pub view_side : Side → MSide
view_side s = side_of s.words s.rest s.left

-- r is the side o, every count within its array
pub record SideIs (o : MSide) (r : Side) : Type 0 where
  pub view : view_side r ≡ o
  pub fits : fits_side r.words r.rest ≡ true

-- all sides
abbrev pub view_state : State → MState
view_state s = record { sides = map view_side s.sides }

-- the array test: every count that says how much of an array is used is at most the array's length
abbrev pub fits_arrays : State → Bool
fits_arrays s = every (λ o. fits_side o.words o.rest) s.sides

-- the state that a struct is; none where a count passes its array
abbrev pub state_of : State → Option MState
state_of s = cond (fits_arrays s) (some (view_state s)) none
