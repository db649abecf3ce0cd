use Rattle.std.proofs.Common.{sym, ap, ◌∙◌}
use mathlib.Core.Bool.{not}
use borrow.Author.Tests.{lt-ltb}
use Rattle.scopes.proofs.FreeUseLaws.{use_chan, use_low, use_tag}
use Rattle.scopes.proofs.free_uses.outside.Goals as goal

pub returns-then-tag-lt2 : goal.returns-then-tag-lt2
returns-then-tag-lt2 c =
    let a = c.args in
    lt-ltb a.tag 2 c.if-tag-lt2.true ∙ use_low a.ts.on a.channel a.tag (sym c.has.ensures ∙ c.if-not-has.true) c.if-tag-lt2.true

pub returns-else-tag-lt2 : goal.returns-else-tag-lt2
returns-else-tag-lt2 c =
    let a = c.args in
    use_tag a.ts.on a.channel a.tag _ (sym c.has.ensures ∙ c.if-not-has.true) c.if-tag-lt2.false (sym c.has-else-tag-lt2.ensures)

pub returns-else-not-has : goal.returns-else-not-has
returns-else-not-has c =
    let a = c.args in
    ap not c.if-not-has.false ∙ use_chan a.ts.on a.channel a.tag (sym c.has.ensures ∙ c.if-not-has.false)
