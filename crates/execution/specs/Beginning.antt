-- The sides at their start, in their words and the rests of them.
use Rattle.std.specs.Prelude.{◌≡◌, Bool, true, false, cond, List, ℕ, ◌*◌, length, replicate}
use Rattle.model.specs.Table.{Table}
use Rattle.model.specs.Side.{start_side, no_side}
use Rattle.model.specs.Wrapper.{Wrapper, all_sides, has_side}
use Rattle.model.specs.Load.{Composition, start, ok, load}
use Rattle.sides.specs.declared.Rest.{Rest}
use Rattle.sides.specs.Sides.{core_of, fits_side}
use Rattle.dispatch.specs.Sharing.{shelved_of, state_in, Lent}
use Rattle.execution.specs.declared.beginning.Standing.{Standing}

-- no name has left
abbrev pub no_marks : List (List Bool)
no_marks = replicate (length all_sides) (replicate (256 * length all_sides) false)

-- the words l and the rest r are side n at its start, or nothing where the wrapper lacks it
pub record BeginIs (w : Wrapper) (n : ℕ) (t : Table) (l : List ℕ) (r : Rest) : Type 0 where
  pub core : core_of l r ≡ (cond (has_side w n) (start_side (start n t)) no_side).core
  pub arrays : fits_side l r ≡ true
  pub long : length l ≡ 5184

-- the words ls and the rests are the state that load leads to
pub record BegunIs (b : Composition) (ls : List (List ℕ)) (r : Standing) : Type 0 where
  pub lent : Lent ls r.rests no_marks
  pub loads : load b ≡ ok (state_in ls r.rests no_marks)
  pub shelved : r.shelved ≡ shelved_of r.rests
