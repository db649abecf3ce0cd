use Rattle.std.proofs.Common.{sym, arith, length-take-le}
use Rattle.stranded_test.proofs.questions.Goals as goal

pub slice_bounds-asked-end : goal.slice_bounds-asked-end
slice_bounds-asked-end c = sym (length-take-le 40 _ (omega (arith, c.sender_nodes.array_long)))
