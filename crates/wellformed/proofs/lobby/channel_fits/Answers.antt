use Rattle.std.proofs.Common.{rules}
use Rattle.model.specs.Basics.{◌or◌, ◌&◌}
use Rattle.wellformed.specs.Clauses.{channel_fits}
use Rattle.wellformed.proofs.lobby.channel_fits.Goals as goal

pub returns-then-channel-eq0 : goal.returns-then-channel-eq0
unfolding channel_fits ◌or◌ ◌&◌
returns-then-channel-eq0 c = search rules

pub returns-else-channel-eq0 : goal.returns-else-channel-eq0
unfolding channel_fits ◌or◌ ◌&◌
returns-else-channel-eq0 c = search rules

pub returns-then-not-shelved : goal.returns-then-not-shelved
unfolding channel_fits ◌or◌ ◌&◌
returns-then-not-shelved c = search rules

pub returns-else-not-shelved : goal.returns-else-not-shelved
unfolding channel_fits ◌or◌ ◌&◌
returns-else-not-shelved c = search rules

pub returns-then-channel-eq1 : goal.returns-then-channel-eq1
unfolding channel_fits ◌or◌ ◌&◌
returns-then-channel-eq1 c = search rules

pub returns-else-channel-eq1 : goal.returns-else-channel-eq1
unfolding channel_fits ◌or◌ ◌&◌
returns-else-channel-eq1 c = search rules
