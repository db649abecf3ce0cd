use Prim.Native.Nat.{◌+◌, ◌≤◌}
use Rattle.environments.proofs.Bindings.{Grown}
use Rattle.environments.proofs.matching.bind_parts.Given as goal

abbrev pub invariant-loop-w : goal.invariant-loop-w
invariant-loop-w l = Grown l.initial.e l.n l.p l.v l.b l.w-index l.k l.e × (l.n + l.k ≤ 8)
