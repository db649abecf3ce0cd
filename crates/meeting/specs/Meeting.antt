-- What meet is given, and what its functions say of their results. l is a side's words, e an environment in lent words.
use Rattle.std.specs.Prelude.{◌≡◌, Bool, true, false, cond, List, [], ◌⊎◌, ◌≢◌, ℕ, ◌+◌, ◌-◌, ◌<◌, ◌≤◌, leb, eqb, length, get_or, drop}
use Rattle.model.specs.Basics.{◌&◌, refuse, done}
use Rattle.model.specs.Values.{Env, Fit, matches, binders, extend, word}
use Rattle.model.specs.Table.{Table, kind, field, Term, term}
use Rattle.model.specs.Side.{Core}
use Rattle.model.specs.Unfolding.{tag_of, defined, particles_in, boxes_in, new_names_in}
use Rattle.model.specs.Wrapper.{filter}
use Rattle.model.specs.Load.{Setting}
use Rattle.model.specs.WellFormed.{env_at, wf_core}
use Rattle.model.specs.WellFormed.{Counts as Minted}
use Rattle.model.specs.Step.{tags_fit, without, meet_particles, settled}
use Rattle.tables.specs.Checks.{Passes}
use Rattle.sides.specs.declared.Rest.{Rest}
use Rattle.sides.specs.Layout.{row_at, places_of, tag_in, fits_place, view_row, view_rows, fits_rows}
use Rattle.sides.specs.Environments.{env_of}
use Rattle.sides.specs.Sides.{core_of, fits_side}
use Rattle.environments.specs.Fits.{Fits}
use Rattle.environments.specs.Inputs.{node_of, values_of, Waits}
use Rattle.environments.specs.Long.{long_in}
use Rattle.environments.specs.Matching.{pattern_at}
use Rattle.steps.specs.declared.Offer.{Offer}
use Rattle.steps.specs.declared.Offer.TheVariants.{At, Refused}
use Rattle.steps.specs.Asked.{channel_in, value_in}
use Rattle.steps.specs.StepIs.{Sane}
use Rattle.unfolding.specs.Scoped.{Scoped}

-- a setting with this side and this table: all that meet reads of its setting
abbrev pub with_table : ℕ → Table → Setting
with_table n t = record { wrapper = filter; side = n; table = t }

-- what meet is given: a table that passes checks 1 to 6, and a side that is well formed for it and some counts of minted names,
-- its counts within their arrays
pub record Meetable (t : Table) (side : ℕ) (l : List ℕ) (o : Rest) : Type 0 where
  pub passes : Passes t
  pub narrow : side < 65536
  pub long : length l ≡ 5184
  pub arrays : fits_side l o ≡ true
  pub setting : Setting
  pub counts : Minted
  pub table : setting.table ≡ t
  pub ok : wf_core setting counts (core_of l o) ≡ true

-- row i of n is an output, and row j an input
pub record PairAt (l : List ℕ) (n i j : ℕ) : Type 0 where
  pub held_i : i < n
  pub held_j : j < n
  pub out : get_or (row_at l i) 0 0 ≡ 1
  pub inp : get_or (row_at l j) 0 0 ≢ 1

-- the node of the input j, that of its body, its environment, its pattern
abbrev pub node_at : List ℕ → ℕ → ℕ
node_at l j = node_of (row_at l j)

abbrev pub body_at : Table → List ℕ → ℕ → ℕ
body_at t l j = field t (node_at l j) 4

abbrev pub input_env : Table → List ℕ → ℕ → Env
input_env t l j = env_at t (node_at l j) (values_of (row_at l j))

abbrev pub input_pattern : Table → List ℕ → ℕ → List ℕ
input_pattern t l j = pattern_at t.pool (field t (node_at l j) 3)

-- the output i and the input j, under ρ, are in one box, on one channel, with fitting tags
abbrev pub fits_at : Table → List ℕ → (i j : ℕ) → Env → Bool
fits_at t l i j ρ =
    eqb (get_or (row_at l i) 1 0) (get_or (row_at l j) 1 0) & (eqb (channel_in l i) (word ρ (field t (node_at l j) 1)) &
    tags_fit (tag_in (row_at l i)) (tag_of ρ (field t (node_at l j) 2)))

-- row i is an output whose value is within its place, and row j a waiting input
pub record Joinable (t : Table) (l : List ℕ) (i j : ℕ) : Type 0 where
  pub row : i < 32
  pub out : get_or (row_at l i) 0 0 ≡ 1
  pub value : fits_place (get_or (places_of (row_at l i)) 0 []) ≡ true
  pub waits : Waits t l j
  pub kind : 5 ≤ kind t (node_at l j)

-- the answer of 14 for the pattern p and the value v under ρ: the first k names of e are those of ρ and p
abbrev pub MatchAnswer : (p v : List ℕ) → Env → List ℕ → Offer → Type 0
MatchAnswer p v ρ e (At k) = (m : Fit) × (matches p 1 v ≡ done m) × (env_of e k ≡ extend ρ (binders p) m.bound) × Fits e k
MatchAnswer p v ρ e (Refused x) = (x ≡ 14) × (matches p 1 v ≡ refuse 14)

-- the answer of 15 and 16 for the term a under ρ, which has d names
abbrev pub BodyAnswer : ℕ → Term → Env → Offer → Type 0
BodyAnswer d a ρ (At k) = (k ≡ d) × (defined a ρ ≡ true) × (long_in a ρ ≡ false)
BodyAnswer d a ρ (Refused x) = ((x ≡ 15) × (defined a ρ ≡ false)) ⊎ ((x ≡ 16) × (defined a ρ ≡ true) × (long_in a ρ ≡ true))

-- the output i and the input j join: the input's body unfolds under the first d names of e
pub record Joins (t : Table) (l : List ℕ) (i j : ℕ) (e : List ℕ) (d : ℕ) : Type 0 where
  pub fits : fits_at t l i j (input_env t l j) ≡ true
  pub fit : Fit
  pub matched : matches (input_pattern t l j) 1 (value_in l i) ≡ done fit
  pub env : env_of e d ≡ extend (input_env t l j) (binders (input_pattern t l j)) fit.bound
  pub words : Fits e d
  pub scoped : Scoped t (body_at t l j) d
  pub is_defined : defined (term t (body_at t l j)) (env_of e d) ≡ true
  pub short : long_in (term t (body_at t l j)) (env_of e d) ≡ false

-- the answer of 13 to 16: the model refuses with the number, whatever else the side holds; or they join
abbrev pub Joining : Table → List ℕ → (i j : ℕ) → List ℕ → Offer → Type 0
Joining t l i j e (At d) = Joins t l i j e d
Joining t l i j e (Refused x) = (c : Setting) → c.table ≡ t → (s : Core) → settled (meet_particles c s i j (view_row (row_at l i)) (view_row (row_at l j))) ≡ refuse x

-- the limits are kept where a term unfolds beside so many particles, boxes and minted names
abbrev pub room_for : Term → (particles boxes minted : ℕ) → Bool
room_for a particles boxes minted = leb (particles + particles_in a) 32 & (leb (boxes + boxes_in a) 16 & leb (minted + new_names_in a) 256)

-- two rows of n
pub record Apart (l : List ℕ) (n i j : ℕ) : Type 0 where
  pub long : length l ≡ 5184
  pub few : n ≤ 32
  pub held_i : i < n
  pub held_j : j < n
  pub other : i ≢ j

-- m is l without the output i of n rows, and without the input j unless it is replicated; the words behind the rows stay
pub record RowsLeft (replicated : Bool) (l : List ℕ) (n i j : ℕ) (m : List ℕ) : Type 0 where
  pub view : view_rows m (n - cond replicated 1 2) ≡ without replicated (view_rows l n) i j
  pub fits : fits_rows l n ≡ true → fits_rows m (n - cond replicated 1 2) ≡ true
  pub behind : drop 4608 m ≡ drop 4608 l
  pub long : length m ≡ length l

-- what the pair is given
pub record MeetablePair (t : Table) (side : ℕ) (l : List ℕ) (o : Rest) (i j : ℕ) : Type 0 where
  pub narrow : side < 65536
  pub sane : Sane l o
  pub pair : PairAt l o.particles i j
  pub joinable : Joinable t l i j
