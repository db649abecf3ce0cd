use Rattle.std.proofs.Common.{◌≡◌, ℕ, Bool, ◌-◌, ◌/◌, length}
use Rattle.model.specs.Checks.{first_bad}
use Rattle.tables.specs.Checks.{Tests}
use Rattle.tables.proofs.checks.lowest_bad.Given as goal

-- no node below n fails
abbrev pub invariant-loop-n : goal.invariant-loop-n
invariant-loop-n g l = (p : ℕ → Bool) → Tests l.nodes (goal.F-post g l.is_ok) p → first_bad p (length l.nodes / 5) 0 ≡ first_bad p (length l.nodes / 5 - l.n) l.n
