use Rattle.interpreter.proofs.StrandedLaws.{listed_as}
use Rattle.interpreter.proofs.stranded_positions.stranded.Goals as goal

pub list_stranded-requires : goal.list_stranded-requires
list_stranded-requires c = c.lobby_asked-l.ensures.1

pub returns : goal.returns
returns c = listed_as c.lobby_asked-l.ensures.0 c.list_stranded.ensures
