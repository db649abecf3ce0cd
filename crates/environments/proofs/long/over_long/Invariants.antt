use mathlib.Core.Path.{◌≡◌}
use Prim.Native.Nat.{◌≤◌}
use lib.ListN.{take}
use Rattle.environments.specs.Long.{size_by}
use Rattle.environments.proofs.long.over_long.Given as goal

abbrev pub invariant-loop-w : goal.invariant-loop-w
invariant-loop-w l = (l.n ≤ 16) × (l.n ≡ size_by l.t.of (take l.w-index l.s))
