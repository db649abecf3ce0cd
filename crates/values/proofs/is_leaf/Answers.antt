use mathlib.Core.Path.{sym, ◌∙◌}
use Rattle.values.proofs.Words.{leaf_low, leaf_public, leaf_pattern, leaf_minted, leaf_outside}
use borrow.Author.Tests.{le-leb}
use Rattle.values.proofs.is_leaf.Goals as goal

pub returns-then-w-le63 : goal.returns-then-w-le63
returns-then-w-le63 c = le-leb _ _ c.if-w-le63.true ∙ leaf_low _ c.args.l c.if-w-le63.true

pub returns-in-Public : goal.returns-in-Public
returns-in-Public c = leaf_public _ _ c.in-Public.is c.if-w-le63.false

pub returns-in-Pattern : goal.returns-in-Pattern
returns-in-Pattern c = leaf_pattern _ _ c.in-Pattern.is c.if-w-le63.false

pub returns-then-is_minted : goal.returns-then-is_minted
returns-then-is_minted c =
    let minted = sym c.if-is_minted.true ∙ c.is_minted.ensures in
    c.if-is_minted.true ∙ leaf_minted _ _ c.in-Name.is c.if-w-le63.false minted

pub returns-else-is_minted : goal.returns-else-is_minted
returns-else-is_minted c =
    let minted = sym c.if-is_minted.false ∙ c.is_minted.ensures in
    c.is_outside.ensures ∙ leaf_outside _ _ c.in-Name.is c.if-w-le63.false minted
