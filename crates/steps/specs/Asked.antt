-- What the checks of the steps answer, and what is known of a side where they answer a position.
use Rattle.std.specs.Prelude.{◌≡◌, Bool, true, false, not, cond, List, [], ℕ, ◌+◌, ◌<◌, ◌≤◌, eqb, length, get_or}
use Rattle.model.specs.Basics.{◌&◌, ◌or◌, Res, refuse, every, one_of}
use Rattle.model.specs.Values.{is_value, is_minted}
use Rattle.model.specs.Wrapper.{all_sides, shelves, filter, pipeline}
use Rattle.model.specs.Load.{Setting}
use Rattle.model.specs.Side.{taken_at}
use Rattle.model.specs.Step.{Moved, is_down, is_arrived, is_leaving, is_to_parent, is_to_child, up_from, enter, marked, settled}
use Rattle.values.specs.declared.Value.{Value}
use Rattle.values.specs.Env.{Stores}
use Rattle.wrappers.specs.Copies.{log_if}
use Rattle.sides.specs.declared.Message.{Message}
use Rattle.sides.specs.declared.Status.TheVariants.{Leaving}
use Rattle.sides.specs.Views.{view_status, fits_message}
use Rattle.sides.specs.declared.Rest.{Rest}
use Rattle.sides.specs.Layout.{row_at, places_of, tag_in, view_place, boxes_of, view_box, fits_shelf}
use Rattle.sides.specs.Sides.{core_of}
use Rattle.steps.specs.declared.Said.{Said}
use Rattle.steps.specs.declared.Offer.{Offer}
use Rattle.steps.specs.declared.Offer.TheVariants.{At, Refused}
use Rattle.steps.specs.declared.RestStep.{RestStep}

-- the number of a refusal
abbrev pub number_of : Offer → ℕ
number_of (At k) = 0
number_of (Refused n) = n

-- said, with no value, beside the rest o
pub record Says (s : Said) (o : Rest) (r : RestStep) : Type 0 where
  pub says : r.said ≡ s
  pub value : Stores [] r.value
  pub rest : r.rest ≡ o

-- the position or value length i, with the facts P of it; or the number with which the model refuses
abbrev pub OfferIs : Res Moved → ℕ → (ℕ → Type 0) → Offer → Type 0
OfferIs m i P (At k) = (k ≡ i) × P k
OfferIs m i P (Refused n) = m ≡ refuse n

-- the position or value length i where P holds, or the refusal x where it does not
abbrev pub OfferIf : Type 0 → (i x : ℕ) → Offer → Type 0
OfferIf P i x (At k) = (k ≡ i) × P
OfferIf P i x (Refused n) = (n ≡ x) × (P → ⊥)

-- lobby i is down, and there is room for a particle
pub record DownAt (o : Rest) (i : ℕ) : Type 0 where
  pub held : i < o.lobby.len
  pub status : (d : Message) → is_down (view_status (get_or o.lobby.msgs i d).status) ≡ true
  pub room : o.particles < 32

-- a copy of the value fits its array
abbrev pub copy_fits : Value → Bool
copy_fits v = fits_message (record { status = Leaving; channel = 3; value = v })

-- lobby i has arrived on `out`, and there is room for its copies
pub record PassAt (logging : Bool) (o : Rest) (i : ℕ) : Type 0 where
  pub held : i < o.lobby.len
  pub status : (d : Message) → is_arrived (view_status (get_or o.lobby.msgs i d).status) ≡ true
  pub chan : (d : Message) → (get_or o.lobby.msgs i d).channel ≡ 1
  pub room : o.lobby.len + length (log_if logging) ≤ 16

-- lobby i is leaving
pub record LeaveAt (o : Rest) (i : ℕ) : Type 0 where
  pub held : i < o.lobby.len
  pub status : (d : Message) → is_leaving (view_status (get_or o.lobby.msgs i d).status) ≡ true

-- the channel and the value of the output at row i
abbrev pub channel_in : List ℕ → ℕ → ℕ
channel_in l i = get_or (row_at l i) 2 0

abbrev pub value_in : List ℕ → ℕ → List ℕ
value_in l i = view_place (get_or (places_of (row_at l i)) 0 [])

-- what comes up on the channel ch goes to the shelf
abbrev pub goes_to_shelf : Setting → ℕ → Bool
goes_to_shelf c ch = shelves c.wrapper c.side & eqb ch 2

-- what the model makes of output i of box b as it goes up on the channel ch
abbrev pub up_by : Setting → List ℕ → Rest → (i b ch : ℕ) → Res Moved
up_by c l o i b ch = settled (up_from c (core_of l o) i b ch (value_in l i))

-- a setting whose side has a shelf, or has none: all that up reads of its setting
abbrev pub with_shelf : Bool → Setting
with_shelf b = record { wrapper = cond b pipeline filter; side = 1; table = record { nodes = []; pool = [] } }

-- particle i is an output with tag parent
pub record UpAt (l : List ℕ) (o : Rest) (i : ℕ) : Type 0 where
  pub held : i < o.particles
  pub is : get_or (row_at l i) 0 0 ≡ 1
  pub tag : is_to_parent (tag_in (row_at l i)) ≡ true

-- particle i is an output whose tag names box j, a child of its box
pub record DescendAt (l : List ℕ) (o : Rest) (j i : ℕ) : Type 0 where
  pub held : i < o.particles
  pub box : j < o.boxes
  pub inner : (j ≡ 0 → ⊥)
  pub is : get_or (row_at l i) 0 0 ≡ 1
  pub parent : (view_box (get_or (boxes_of l) j [])).parent ≡ get_or (row_at l i) 1 0
  pub tag : is_to_child (tag_in (row_at l i)) (view_box (get_or (boxes_of l) j [])).name ≡ true

-- a minted name that has left by an outlet: marks for each side
abbrev pub known_by : List (List Bool) → ℕ → Bool
known_by ms w = one_of (λ l. marked l w) ms

-- a word that passes 12
abbrev pub may_enter : List (List Bool) → ℕ → Bool
may_enter ms w = not (is_minted w) or known_by ms w

-- what the model makes of the words ws as they enter
abbrev pub enter_by : (logging : Bool) → List (List Bool) → List ℕ → Rest → (ws : List ℕ) → Res Moved
enter_by logging ms l o ws = settled (enter (log_if logging) (known_by ms) (core_of l o) ws)

-- the k words ws are a value that may enter, and there is room for a message and its copies
pub record EnterAt (logging : Bool) (o : Rest) (ms : List (List Bool)) (ws : List ℕ) (k : ℕ) : Type 0 where
  pub shape : is_value ws ≡ true
  pub names : every (may_enter ms) ws ≡ true
  pub short : k ≤ 16
  pub room : o.lobby.len + (length (log_if logging) + 1) ≤ 16

-- the words l of a source have n values on their shelf
pub record Source (source : ℕ) (l : List ℕ) (n : ℕ) : Type 0 where
  pub first : 0 < source
  pub last : source ≤ length all_sides
  pub long : length l ≡ 5184
  pub fits : fits_shelf l n ≡ true

-- shelf i of a source with n values on it is not yet taken, and there is room for a message
pub record TakeAt (o : Rest) (source n i : ℕ) : Type 0 where
  pub held : i < n
  pub fresh : get_or o.taken (taken_at source i) false ≡ false
  pub room : o.lobby.len < 16
