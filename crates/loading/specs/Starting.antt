-- A side at its start, in its words and the rest of it.
use Rattle.std.specs.Prelude.{◌≡◌, true, List, ℕ, length}
use Rattle.model.specs.Basics.{has}
use Rattle.model.specs.Table.{Table}
use Rattle.model.specs.Side.{within_limits, start_side}
use Rattle.model.specs.Wrapper.{all_sides}
use Rattle.model.specs.Load.{start}
use Rattle.tables.specs.Checks.{Passes}
use Rattle.sides.specs.declared.Rest.{Rest}
use Rattle.sides.specs.Sides.{core_of, fits_side}

-- a table that passes checks 1 to 7, of a side i
pub record Startable (i : ℕ) (t : Table) : Type 0 where
  pub side : has i all_sides ≡ true
  pub passes : Passes t
  pub few : within_limits (start i t) ≡ true

-- the words l and the rest r are side i at its start
pub record StartIs (i : ℕ) (t : Table) (l : List ℕ) (r : Rest) : Type 0 where
  pub core : core_of l r ≡ (start_side (start i t)).core
  pub arrays : fits_side l r ≡ true
  pub long : length l ≡ 5184
