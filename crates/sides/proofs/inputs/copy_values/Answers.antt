use mathlib.Core.Path.{refl}
use Rattle.sides.proofs.Storing.{part_turn, values_stored}
use borrow.Author.Rules.{rules}
use Rattle.sides.proofs.inputs.copy_values.Goals as goal

pub loop-k-init : goal.loop-k-init
loop-k-init c = (search rules, refl)

pub loop-k-preserved : goal.loop-k-preserved
loop-k-preserved c =
    let l = c.loop-k in
    (search rules, part_turn c.args.d.now c.args.s.now l.d 8 8 l.k (search rules) l.invariant.1)

pub returns : goal.returns
returns c =
    let l = c.loop-k in
    values_stored c.args.d.now c.args.s.now l.d c.args.n l.k (search rules) l.invariant.1
