use mathlib.Core.Path.{◌∙◌}
use Rattle.values.proofs.Words.{minted_none, minted_high, minted_serial}
use borrow.Author.Tests.{lt-leb}
use native.Mathlib.Omega.{arith}
use Rattle.values.proofs.is_minted.Goals as goal
use Rattle.values.proofs.is_minted.Goals.{then-side-ge1, else-side-ge1}

pub returns-then-side-le-SIDES : goal.returns-then-side-le-SIDES
returns-then-side-le-SIDES c = minted_serial c.args.w (omega arith) (omega arith)

pub returns-else-side-le-SIDES : goal.returns-else-side-le-SIDES
returns-else-side-le-SIDES c = elim c.if-side-ge1.branch [
  | then-side-ge1 w ↦ w.t-5-is ∙ lt-leb _ 2 (omega arith) ∙ minted_high c.args.w (omega arith)
  | else-side-ge1 w ↦ w.t-5-is ∙ lt-leb 1 _ (omega arith) ∙ minted_none c.args.w (omega arith)
]
