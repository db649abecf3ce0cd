-- The words stand in the list.
use native.Mathlib.Omega.{arith}
use Rattle.reading.proofs.StoreLaws.{copied}
use Rattle.reading.proofs.lines.store.Goals as goal

pub returns : goal.returns
returns c = copied c.args.list.now c.args.words.now _ c.args.at _ c.requires (omega arith) c.copy_from_slice.ensures.after
