use Rattle.sides.proofs.Storing.{head_stored}
use Rattle.sides.proofs.outputs.put_head.Goals as goal

pub returns : goal.returns
returns c =
    head_stored c.args.r.now c.args.at c.args.channel c.args.tag _ _ c.tag_kind.ensures c.tag_name.ensures
