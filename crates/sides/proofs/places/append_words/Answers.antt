use mathlib.Core.Path.{refl}
use Prim.Native.Nat.{◌+◌}
use Rattle.sides.proofs.Sets.{sets_turn}
use Rattle.sides.proofs.Storing.{all_stored}
use borrow.Author.Rules.{rules}
use Rattle.sides.proofs.places.append_words.Goals as goal

pub loop-k-init : goal.loop-k-init
loop-k-init c = (search rules, refl)

pub loop-k-preserved : goal.loop-k-preserved
loop-k-preserved c =
    let l = c.loop-k in
    (search rules, sets_turn c.args.v.now c.args.s.now l.v (1 + c.args.m) l.k 0 (search rules) l.invariant.1)

pub returns : goal.returns
returns c =
    let l = c.loop-k in
    (search rules, all_stored c.args.v.now c.args.s.now l.v (1 + c.args.m) l.k (search rules) l.invariant.1)
