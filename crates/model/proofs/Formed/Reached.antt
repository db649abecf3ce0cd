-- Every state of a run is well formed.
use Rattle.model.specs.Runs.{Reached}
use Rattle.model.proofs.Formed.Invariant.{keeps}
use Rattle.model.proofs.Formed.Starts.{starts}

pub reached : Reached
unfolding Reached
reached b = (λ s e. starts b s e, λ s x e. keeps b s x e)
