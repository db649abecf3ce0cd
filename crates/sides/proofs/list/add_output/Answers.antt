use mathlib.Core.Path.{refl}
use Rattle.values.specs.Env.{view_value}
use Rattle.sides.specs.Stored.{output_put}
use Rattle.sides.proofs.Storing.{sent_back, value_length}
use Rattle.sides.proofs.list.add_output.Goals as goal

pub returns : goal.returns
unfolding output_put
returns c =
    let o = c.args.o in
    let short = value_length o.value c.requires.3 in
    (refl, sent_back c.args.rows.now c.args.n c.requires.0 c.requires.1 _ _ o.at o.channel o.tag (view_value o.value) short c.put_head.ensures c.put_value.ensures)
