use mathlib.Core.Path.{refl}
use Rattle.environments.proofs.Bindings.{binding_env, binding_none}
use Rattle.meeting.proofs.pairs.match_offer.Goals as goal

pub returns-in-Some : goal.returns-in-Some
returns-in-Some c =
    let a = c.args in
    binding_env a.pool.now a.place a.e.now a.d a.v c.requires.0 _ c.in-Some.n c.in-Some.ensures c.requires.1

pub returns-in-None : goal.returns-in-None
returns-in-None c =
    let a = c.args in
    (refl, (binding_none a.pool.now a.place a.e.now a.d a.v c.requires.0 _ c.in-None.ensures).0)
