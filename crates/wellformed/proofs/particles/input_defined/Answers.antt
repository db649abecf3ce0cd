-- The environment that is made is the input's.
use mathlib.Core.Path.{refl, ap₂, ◌∙◌}
use Prim.Native.Nat.{ℕ}
use Rattle.model.specs.Values.{Env}
use Rattle.model.specs.Unfolding.{defined}
use Rattle.model.specs.Table.{term}
use Rattle.tables.specs.Nodes.{table}
use Rattle.environments.proofs.Waiting.{env_is}
use Rattle.wellformed.proofs.particles.input_defined.Goals as goal

pub defined_at-requires : goal.defined_at-requires
defined_at-requires c =
    let a = c.args in
    let t = table a.nodes.now a.pool.now in
    let w = c.requires in
    let env = env_is t a.words.now a.i w _ _ _ refl c.input_env-n.ensures in
    let node = c.word_at.ensures in
    (w.passes, rw node w.inside, env.1)

pub returns : goal.returns
returns c =
    let a = c.args in
    let t = table a.nodes.now a.pool.now in
    let env = env_is t a.words.now a.i c.requires _ _ _ refl c.input_env-n.ensures in
    let node = c.word_at.ensures in
    c.defined_at.ensures ∙ ap₂ (λ (n : ℕ) (e : Env). defined (term t n) e) node env.0
