use mathlib.Core.Path.{◌≡◌, ap, ◌∙◌}
use lib.ListN.{length, length-take, length-drop}
use Rattle.values.proofs.Lists.{unmap}
use Rattle.environments.proofs.Bindings.{grown_none, grown_length, grown_other, grown_room, grown_name}
use borrow.Author.Rules.{rules}
use native.Mathlib.Omega.{arith}
use Rattle.environments.proofs.matching.bind_parts.Goals as goal
use Rattle.environments.proofs.matching.bind_parts.Goals.{then-w-le63, else-w-le63}

pub loop-w-init : goal.loop-w-init
loop-w-init c = let a = c.args in (grown_none a.e.now a.n a.p.now a.v.now a.b, omega (arith, c.requires.room))

pub bounds-b-k : goal.bounds-b-k
bounds-b-k c =
    let room = grown_room c.loop-w.invariant.0 c.loop-w-test.true c.if-w-le63.true in
    omega (arith, c.requires.room)

pub bind_words-requires : goal.bind_words-requires
bind_words-requires c =
    let g = c.loop-w.invariant.0 in
    let room = grown_room g c.loop-w-test.true c.if-w-le63.true in
    let part = simp (length-take, length-drop) at (ap length c.part_words.ensures) in
    (grown_length g ∙ c.requires.long, omega (arith, c.requires.room), omega (arith, c.requires.short))

pub loop-w-preserved : goal.loop-w-preserved
loop-w-preserved c =
    let l = c.loop-w in
    let g = l.invariant.0 in
    let more = c.loop-w-test.true in
    let full : length c.args.b.rows ≡ 8 = search (rules, unmap, c.well_formed) in
    elim c.if-w-le63.branch [
      | then-w-le63 w ↦
          let room = grown_room g more w.if-w-le63.true in
          let grown = grown_name g more w.if-w-le63.true (omega (arith, c.requires.room)) _ _ _ w.part_words.ensures w.bind_words.ensures in
          rw (w.k-is, w.e-is) (grown, omega (arith, c.requires.room))
      | else-w-le63 w ↦ rw (w.k-is, w.e-is) (grown_other g more w.if-w-le63.false, l.invariant.1)
    ]
