use mathlib.Core.Path.{◌≡◌}
use Prim.Native.Nat.{◌≤◌}
use lib.ListN.{length, take}
use lib.Seq.{sets}
use Rattle.model.specs.Values.{substitute}
use Rattle.sides.specs.Environments.{env_of}
use Rattle.sides.proofs.environment.put_substituted.Given as goal

abbrev pub invariant-loop-w : goal.invariant-loop-w
invariant-loop-w l =
    (length l.v ≡ 17) × (l.m ≤ 16) × (l.m ≡ length (substitute (env_of l.e l.n) (take l.w-index l.s))) × (l.v ≡ sets l.initial.v 1 (substitute (env_of l.e l.n) (take l.w-index l.s)))
