use Rattle.sides.proofs.Storing.{move_stored}
use Rattle.sides.proofs.list.move_output.Goals as goal

pub returns : goal.returns
returns c =
    move_stored c.args.rows.now _ c.args.at c.args.tag _ _ c.tag_kind.ensures c.tag_name.ensures
