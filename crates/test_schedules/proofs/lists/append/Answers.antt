-- `test_schedules::lists::append` meets its contract.
use borrow.Rule.Slice.PartMut.{put_mid}
use Rattle.std.proofs.Common.{List, ℕ, ◌+◌, ◌-◌, ap, ◌∙◌, arith}
use Rattle.test_schedules.proofs.ListLaws.{copied}
use Rattle.test_schedules.proofs.lists.append.Goals as goal

pub returns : goal.returns
returns c =
    let x = c.args in
    let a = c.min-start.result in
    let n = c.min-n.result in
    let start = c.min-start.ensures in
    let count = c.min-n.ensures in
    record {
      end = omega (arith, start, count);
      words = ap (λ (s : List ℕ). put_mid a (a + n - a) x.list.now s) c.copy_from_slice.ensures.after ∙ copied x.words.now x.list.now x.at a n start count;
    }
