use Rattle.sides.proofs.Storing.{box_stored}
use Rattle.sides.proofs.boxes.put_box.Goals as goal

pub returns : goal.returns
returns c = box_stored c.args.rows.now c.args.j c.args.name c.args.parent
