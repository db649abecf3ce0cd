-- A whole pattern is matched after no parts.
use Rattle.values.proofs.Matches.{whole}
use Rattle.values.proofs.matching.Goals as goal

pub returns : goal.returns
returns c = whole _ _ _ c.none.result c.none.ensures c.match_item.ensures
