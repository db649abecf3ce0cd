-- What the walks of an unfolding are given.
use Rattle.std.specs.Prelude.{ℕ, ◌<◌, ◌≤◌, length}
use Rattle.model.specs.Table.{Table, count, scope}
use Rattle.tables.specs.Checks.{Passes}

-- node n of a table that passes checks 1 to 6, where k names are bound, at most as many as are in force there
pub record Scoped (t : Table) (n k : ℕ) : Type 0 where
  pub passes : Passes t
  pub inside : n < count t
  pub names : k ≤ length (scope t n)
