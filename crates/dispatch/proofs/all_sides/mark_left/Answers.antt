use mathlib.Core.Path.{sym, ◌∙◌}
use Rattle.values.specs.Env.{view_value}
use Rattle.dispatch.proofs.AllSides.{marked_left, marked_not}
use Rattle.dispatch.proofs.all_sides.mark_left.Goals as goal

pub returns-then-says_left : goal.returns-then-says_left
returns-then-says_left c =
    let a = c.args in
    let out = sym c.says_left.ensures ∙ c.if-says_left.true in
    marked_left a.said (view_value a.v) a.marks.now _ _ _ out c.place_of-k.ensures c.mark_all.ensures

pub returns-else-says_left : goal.returns-else-says_left
returns-else-says_left c =
    let a = c.args in
    marked_not a.said (view_value a.v) a.marks.now _ (sym c.says_left.ensures ∙ c.if-says_left.false)
