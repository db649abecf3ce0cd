use mathlib.Core.Path.{sym, ◌∙◌}
use borrow.Author.Tests.{leb-true, leb-false}
use Rattle.values.proofs.Spans.{value_long, value_of}
use Rattle.values.proofs.is_value.Goals as goal

pub returns-then-length_within : goal.returns-then-length_within
returns-then-length_within c =
    let short = leb-true _ 16 (sym c.length_within.ensures ∙ c.if-length_within.true) in
    c.eq.ensures ∙ value_of _ _ short c.item_end.ensures

pub returns-else-length_within : goal.returns-else-length_within
returns-else-length_within c = c.if-length_within.false ∙ value_long _ (leb-false _ 16 (sym c.length_within.ensures ∙ c.if-length_within.false))
