-- Each test that fails is one of the definition's, and so is each that passes.
use mathlib.Core.Path.{◌≡◌}
use lib.ListN.{length}
use Rattle.reading.proofs.LetterLaws.{w_late, w_size, w_taken}
use borrow.Author.Rules.{rules}
use Rattle.reading.proofs.lines.on_w.Goals as goal
use Rattle.reading.proofs.lines.on_w.Goals.{then-p-ne0-via-then-p-ne0, then-p-ne0-via-else-p-ne0+then-l-ne1}

pub returns-then-p-ne0 : goal.returns-then-p-ne0
returns-then-p-ne0 c =
    let a = c.args in
    let w : length a.l.now.words ≡ 21 = search (rules, c.well_formed) in
    λ l i old e h. elim c.then-p-ne0.branch [
      | then-p-ne0-via-then-p-ne0 x ↦ w_late i _ old l e h a.l.now.len a.l.now.words w x.if-p-ne0.true
      | then-p-ne0-via-else-p-ne0+then-l-ne1 x ↦ w_size i _ old l e h a.l.now.len a.l.now.words w x.if-l-ne1.true
    ]

pub returns : goal.returns
returns c =
    let a = c.args in
    let w : length a.l.now.words ≡ 21 = search (rules, c.well_formed) in
    λ l i old e h. w_taken i _ old l e h a.l.now.len a.l.now.words w c.if-p-ne0.false c.if-l-ne1.false
