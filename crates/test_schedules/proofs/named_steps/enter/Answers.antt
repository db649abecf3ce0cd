-- `test_schedules::steps::enter` meets its contract.
use Rattle.std.proofs.Common.{ℕ, ◌∷◌, ap}
use Rattle.test_schedules.proofs.ListLaws.{joined, spelled}
use Rattle.test_schedules.proofs.named_steps.enter.Goals as goal

pub returns : goal.returns
returns c =
    let x = c.args in
    let counted = c.narrow.ensures in
    spelled (ap (λ (n : ℕ). 1 ∷ x.side ∷ 0 ∷ 0 ∷ n ∷ x.words.now) counted) (joined c.append-end.ensures c.append.ensures)
