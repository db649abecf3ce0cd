-- `test_schedules::lists::repeat` meets its contract. The loop's invariant: the words are there so many times.
use Rattle.std.proofs.Common.{◌≡◌, ℕ, sym, ap, rules}
use Rattle.test_schedules.specs.Lists.{times}
use Rattle.test_schedules.proofs.ListLaws.{begun, joined, spelled, no_times, more_times}
use Rattle.test_schedules.proofs.lists.repeat.Goals as goal

pub loop-init : goal.loop-init
loop-init c = spelled (sym (no_times c.args.words.now)) (begun c.append-end.ensures)

pub loop-preserved : goal.loop-preserved
loop-preserved c = spelled (more_times c.loop.counter c.args.words.now) (joined c.loop.invariant c.append-end-in-loop.ensures)

pub returns : goal.returns
returns c =
    let all : c.loop.counter ≡ c.args.n = search rules in
    joined c.append-end.ensures (spelled (ap (λ (k : ℕ). times k c.args.words.now) all) c.loop.invariant)
