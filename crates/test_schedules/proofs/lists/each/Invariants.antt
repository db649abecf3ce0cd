-- `test_schedules::lists::each` meets its contract. The loop's invariant: so many turns are made as numbers are behind, none where there are none.
use Rattle.std.proofs.Common.{◌≡◌, ◌-◌, ◌≤◌}
use Rattle.test_schedules.specs.Lists.{Turned, Turns}
use Rattle.test_schedules.proofs.lists.each.Given as goal

abbrev pub invariant-loop-k : goal.invariant-loop-k
invariant-loop-k g l = Turns (Turned (goal.F-post g l.add)) l.a (l.k - l.a) l.initial.list l.initial.end l.end l.list × (l.b ≤ l.a → l.k ≡ l.a)
