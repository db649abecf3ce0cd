-- `test_schedules::lists::each` meets its contract.
use Rattle.std.proofs.Common.{refl, arith}
use Rattle.test_schedules.proofs.ListLaws.{no_turns, more_turns, as_many_turns, all_made}
use Rattle.test_schedules.proofs.lists.each.Goals as goal

pub loop-k-init : goal.loop-k-init
loop-k-init g c = (no_turns _ _ _ _ _ (omega arith), λ h. refl)

pub loop-k-preserved : goal.loop-k-preserved
loop-k-preserved g c =
    let after = c.loop-k.auto.k in (
      more_turns _ _ _ _ _ _ _ _ _ _ _ (omega (arith, after)) (omega (arith, after)) c.loop-k.invariant.0 (record { shown = _; shows = refl; left = _; met = c.add-end.ensures; leaves = refl }),
      λ h. omega (arith, after, h, c.loop-k-test.true),
    )

pub returns : goal.returns
returns g c =
    as_many_turns _ _ _ _ _ _ _ _ (all_made _ _ _ c.loop-k.auto.k c.loop-k.auto.k-end c.loop-k.invariant.1 c.loop-k-test.false) c.loop-k.invariant.0
