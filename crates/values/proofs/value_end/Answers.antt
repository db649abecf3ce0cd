use mathlib.Core.Path.{◌∙◌}
use Rattle.values.proofs.Spans.{end_or}
use Rattle.values.proofs.value_end.Goals as goal

pub returns : goal.returns
returns c = rw c.max.ensures at c.unwrap_or.ensures ∙ end_or _ _ _ c.item_end.ensures
