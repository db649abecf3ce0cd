use Rattle.sides.proofs.Storing.{sent_back}
use Rattle.sides.proofs.list.put_sent.Goals as goal

pub returns : goal.returns
returns c =
    sent_back c.args.rows.now c.args.i c.requires.0 c.requires.1 _ _ c.args.at c.args.channel c.args.tag _ c.requires.6
    c.put_head.ensures c.put_substituted.ensures
