use Rattle.tables.specs.Nodes.{table}
use Rattle.environments.proofs.Waiting.{input_is}
use Rattle.environments.proofs.inputs.input_env.Goals as goal

pub returns : goal.returns
returns c =
    let a = c.args in
    let t = table a.nodes.now a.pool.now in
    let put = c.put_names-n.ensures in
    input_is t a.rows.now a.j c.requires.0 a.e.now _ _ _ _ c.word_at-node.ensures c.names_in_force.ensures put.0 _ put.1 c.take_values.ensures
