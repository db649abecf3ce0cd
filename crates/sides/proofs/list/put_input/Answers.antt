use Rattle.sides.proofs.Storing.{input_back}
use Rattle.sides.proofs.list.put_input.Goals as goal

pub returns : goal.returns
returns c =
    input_back c.args.rows.now c.args.i c.requires.0 c.requires.1 _ c.args.at c.args.node c.args.e.now c.args.n c.requires.5 c.write_input.ensures
