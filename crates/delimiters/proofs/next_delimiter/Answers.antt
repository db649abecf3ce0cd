-- The words up to a place have neither a tab nor a newline.
use mathlib.Core.Path.{sym, ap, ◌∙◌}
use Prim.Native.Nat.{◌+◌, ◌≤◌}
use native.Mathlib.Omega.{arith}
use lib.ListN.{length}
use Rattle.delimiters.specs.Delimiters.{flagged}
use Rattle.delimiters.proofs.WordLaws.{Bytes}
use Rattle.delimiters.proofs.SearchLaws.{hit, miss}
use Rattle.delimiters.proofs.next_delimiter.Goals as goal

pub returns-then-found-ne0 : goal.returns-then-found-ne0
returns-then-found-ne0 c =
    let l = c.loop-at in
    let s = c.args.s.now in
    let bytes : Bytes s = λ k h. omega (arith, c.type_inv.s k) in
    let is = c.flags-found.ensures ∙ ap (flagged 8) c.word_at.ensures in
    let fits : l.at + 8 ≤ length s = omega (arith, c.loop-at-test.true, c.saturating_sub-end.ensures) in
    sym (l.invariant ∙ hit s l.at _ fits bytes is c.if-found-ne0.true)

pub loop-at-preserved : goal.loop-at-preserved
loop-at-preserved c =
    let l = c.loop-at in
    let s = c.args.s.now in
    let bytes : Bytes s = λ k h. omega (arith, c.type_inv.s k) in
    let is = c.flags-found.ensures ∙ ap (flagged 8) c.word_at.ensures in
    let fits : l.at + 8 ≤ length s = omega (arith, c.loop-at-test.true, c.saturating_sub-end.ensures) in
    l.invariant ∙ miss s l.at _ fits bytes is c.if-found-ne0.false
