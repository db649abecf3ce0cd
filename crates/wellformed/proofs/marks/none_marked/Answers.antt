use Rattle.std.proofs.Common.{◌∙◌, ap}
use mathlib.Core.Bool.{not}
use Rattle.wellformed.proofs.ListLaws.{none_set}
use Rattle.wellformed.proofs.marks.none_marked.Goals as goal

pub returns : goal.returns
returns c = ap not c.contains.ensures.value ∙ none_set c.args.marks.now
