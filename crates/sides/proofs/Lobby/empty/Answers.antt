use mathlib.Core.Path.{refl}
use Rattle.model.proofs.Basics.Tests.{both}
use Rattle.sides.proofs.Lobby.empty.Goals as goal

pub returns : goal.returns
returns c = record { view = refl; len = refl; fits = λ e. both _ _ refl refl }
