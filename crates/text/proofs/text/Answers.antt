use mathlib.Core.Path.{ap}
use mathlib.Core.List.{List, ◌++◌}
use Prim.Native.Nat.{ℕ}
use lib.ListN.{drop}
use Rattle.writing.proofs.WrittenLaws.{page_within}
use Rattle.text.proofs.TextLaws.{text_short, text_written}
use Rattle.text.proofs.text.Goals as goal

pub returns-then-out-n : goal.returns-then-out-n
returns-then-out-n c = text_short c.output_on-n.ensures _ c.if-out-n.true _

pub slice_bounds-page-end : goal.slice_bounds-page-end
slice_bounds-page-end c = page_within c.output_on-n.ensures

pub returns : goal.returns
returns c =
    let out = c.args.out.now in
    let copied = ap (λ (l : List ℕ). l ++ drop c.output_on-n.result out) c.copy_from_slice.ensures.after in
    text_written c.output_on-n.ensures out c.if-out-n.false _ copied
