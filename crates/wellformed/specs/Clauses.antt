-- Single clauses of well-formedness, as the functions test them: a box, a mark, a message's channel, a row, a shelf, a side.
use Rattle.std.specs.Prelude.{◌≡◌, Bool, true, not, cond, List, [], ◌∷◌, map, ℕ, suc, ◌+◌, ◌*◌, ◌/◌, ◌%◌, ◌<◌, leb, ltb, eqb, length, get_or}
use Rattle.model.specs.Basics.{◌&◌, ◌or◌, implies, every, has}
use Rattle.model.specs.Table.{Table, term, scope, kind, count}
use Rattle.model.specs.Side.{Box, Status, down, arrived, leaving, Side}
use Rattle.model.specs.Unfolding.{defined}
use Rattle.model.specs.Wrapper.{all_sides, described, has_side, takes_any}
use Rattle.model.specs.Load.{Composition, wrapper_of, table, Setting}
use Rattle.model.specs.WellFormed.{Counts, count_of, held, wf_value, wf_tag, env_at, wf_core, wf_left, is_no_side}
use Rattle.tables.specs.Checks.{Passes}
use Rattle.sides.specs.Layout.{row_at, places_of, tag_in, view_place, fits_row}
use Rattle.sides.specs.declared.State.{State}
use Rattle.environments.specs.Inputs.{node_of, values_of}

-- every element passes, by a test of its place and itself, from place i on
unfoldable pub every_from : {A : Type 0} → (ℕ → A → Bool) → ℕ → List A → Bool
every_from f i [] = true
every_from f i (x ∷ xs) = f i x & every_from f (i + 1) xs

-- box i is box 0, or has an earlier box as parent and a name that is held
unfoldable pub box_at : Counts → ℕ → Box → Bool
box_at k i x = eqb i 0 or (ltb x.parent i & held k x.name)

-- place i of the marks of names that have left is not marked, or the name is below its side's count
unfoldable pub left_at : Counts → ℕ → Bool → Bool
left_at k i x = implies x (ltb (i % 256) (count_of k (suc (i / 256))))

-- place i of the taken marks is not marked, or is a taker's and filled; h has how many values each side has on its shelf
unfoldable pub taken_at : (taker : Bool) (h : Counts) → ℕ → Bool → Bool
taken_at t h i x = implies x (t & ltb (i % 32) (count_of h (suc (i / 32))))

-- where a message of a status may stand
unfoldable pub channel_fits : (shelved : Bool) (copies : List ℕ) → Status → ℕ → Bool
channel_fits shelved cs down c = eqb c 0 or eqb c 2
channel_fits shelved cs arrived c = not (shelved & eqb c 2)
channel_fits shelved cs leaving c = eqb c 1 or has c cs

-- row i of a side's words is within its places
pub record RowFits (words : List ℕ) (i : ℕ) : Type 0 where
  pub long : length words ≡ 5184
  pub row : i < 32
  pub fits : fits_row (row_at words i) ≡ true

-- the channel, tag and value of an output's row are held
unfoldable pub output_held : Counts → List ℕ → Bool
output_held k r = held k (get_or r 2 0) & (wf_tag k (tag_in r) & wf_value k (view_place (get_or (places_of r) 0 [])))

-- a waiting input's row has no tuple where 15 forbids one
abbrev pub input_defined : Table → List ℕ → Bool
input_defined t r = defined (term t (node_of r)) (env_at t (node_of r) (values_of r))

-- and one value for every bound name in force at its node
unfoldable pub values_fit : Table → List ℕ → Bool
values_fit t r = eqb (length (values_of r)) (length (scope t (node_of r))) & input_defined t r

-- it waits at an input's node, with held values that fit it
unfoldable pub input_waits : Table → Counts → List ℕ → Bool
input_waits t k r = ltb (node_of r) (count t) & (leb 5 (kind t (node_of r)) & (every (wf_value k) (values_of r) & values_fit t r))

-- the values of a shelf are held, and there are none but where somebody takes from it
unfoldable pub shelf_allowed : Bool → Counts → List (List ℕ) → Bool
shelf_allowed shelved k vs = every (wf_value k) vs & (eqb (length vs) 0 or shelved)

-- five numbers are 0
unfoldable pub all_zero : ℕ → ℕ → ℕ → ℕ → ℕ → Bool
all_zero a b c d e = eqb a 0 & (eqb b 0 & (eqb c 0 & (eqb d 0 & eqb e 0)))

-- what a side is tested with, by the wrapper's number and its own
abbrev pub setting_of : (wrapper side : ℕ) → Table → Setting
setting_of w n t = record { wrapper = described w; side = n; table = t }

-- a side, its taken marks by how many values each side has on its shelf
unfoldable pub side_fits : Setting → (k h : Counts) → Side → Bool
side_fits c k h s =
    wf_core c k s.core &
    ((eqb (length s.left) (256 * length all_sides) & wf_left k 0 s.left) &
    (eqb (length s.core.taken) (32 * length all_sides) & every_from (taken_at (takes_any c.wrapper c.side) h) 0 s.core.taken))

-- a side that the wrapper has is well formed, and one that it lacks is nothing
unfoldable pub side_stands : Setting → (k h : Counts) → Side → Bool
side_stands c k h s = cond (has_side c.wrapper c.side) (side_fits c k h s) (is_no_side s)

-- the table of each side that the wrapper has passes checks 1 to 6
abbrev pub TablesPass : Composition → Type 0
TablesPass b = (n : ℕ) → has_side (wrapper_of b) n ≡ true → Passes (table b n)

-- how many names each side has minted, and how many values are on its shelf
abbrev pub minted_in : State → Counts
minted_in s = map (λ o. o.rest.minted) s.sides

abbrev pub shelved_in : State → Counts
shelved_in s = map (λ o. o.rest.shelved) s.sides
