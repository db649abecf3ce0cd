use Rattle.std.proofs.Common.{rules}
use Rattle.model.specs.Basics.{◌&◌}
use Rattle.model.specs.WellFormed.{wf_message}
use Rattle.wellformed.specs.Clauses.{channel_fits}
use Rattle.wellformed.proofs.ListLaws.{message_is}
use Rattle.wellformed.proofs.lobby.message_ok.Goals as goal

pub returns-then-held : goal.returns-then-held
unfolding wf_message channel_fits ◌&◌
returns-then-held c = search (rules, message_is)

pub returns-else-held : goal.returns-else-held
unfolding wf_message channel_fits ◌&◌
returns-else-held c = search (rules, message_is)
