use Rattle.sides.proofs.Storing.{shelf_back}
use Rattle.sides.proofs.shelf.put_shelf.Goals as goal

pub returns : goal.returns
returns c =
    shelf_back c.args.rows.now _ c.args.i c.args.v c.requires.0 c.requires.1 c.requires.2 c.put_value.ensures
