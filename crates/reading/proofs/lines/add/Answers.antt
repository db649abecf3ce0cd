-- Each test that fails is one of the definition's; where all pass, the words are stored behind the others of the side.
use mathlib.Core.Path.{◌≡◌}
use native.Mathlib.Omega.{arith}
use lib.ListN.{length}
use Rattle.reading.proofs.NamedLaws.{by_zero, by_size, by_side, by_room, words_added, nothing_added}
use borrow.Author.Rules.{rules}
use Rattle.reading.proofs.lines.add.Goals as goal
use Rattle.reading.proofs.lines.add.Goals.{then-l-size-via-then-l-size, then-l-size-via-else-l-size+then-side-ge-COUNT, then-l-size-via-else-l-size+else-side-ge-COUNT+then-wide-counts}

pub returns-in_err-side : goal.returns-in_err-side
returns-in_err-side c =
    let a = c.args in
    let w : length a.l.now.words ≡ 21 = search (rules, c.well_formed) in
    rw (c.from_residual.ensures) (nothing_added _ _ _ _ _ (by_zero _ _ _ a.l.now.len a.l.now.words w c.requires.size_bound.0 c.requires.size_bound.1 (omega (arith, c.in_err-side.ensures))))

pub returns-then-l-size : goal.returns-then-l-size
returns-then-l-size c =
    let a = c.args in
    let w : length a.l.now.words ≡ 21 = search (rules, c.well_formed) in
    let s = c.in_ok-side.ensures in
    nothing_added _ _ _ _ _ (elim c.then-l-size.branch [
      | then-l-size-via-then-l-size x ↦ by_size _ _ _ a.l.now.len a.l.now.words w c.requires.size_bound.0 c.requires.size_bound.1 x.if-l-size.true
      | then-l-size-via-else-l-size+then-side-ge-COUNT x ↦ by_side _ _ _ a.l.now.len a.l.now.words w c.requires.size_bound.0 c.requires.size_bound.1 x.if-l-size.false (omega (arith, s, x.if-side-ge-COUNT.true))
      | then-l-size-via-else-l-size+else-side-ge-COUNT+then-wide-counts x ↦ by_room _ _ _ a.l.now.len a.l.now.words w c.requires.size_bound.0 c.requires.size_bound.1 x.if-l-size.false (rw (s.1) at (x.if-wide-counts.true))
    ])

pub returns : goal.returns
returns c =
    let a = c.args in
    let w : length a.l.now.words ≡ 21 = search (rules, c.well_formed) in
    let s = c.in_ok-side.ensures in
    words_added _ _ _ a.l.now.len a.l.now.words w c.requires.size_bound.0 c.requires.size_bound.1 c.if-l-size.false _ _ _ s.0 s.1 c.if-side-ge-COUNT.false c.if-wide-counts.false c.store.ensures
