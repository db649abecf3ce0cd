use Rattle.std.proofs.Common.{rules, sym, ◌∙◌}
use Rattle.tables.proofs.FieldLaws.{tree_bad, tree_once, tree_root}
use Rattle.tables.specs.Fields.{child_ok}
use Rattle.tables.proofs.fields.tree_ok.Goals as goal

pub returns-then-n-eq0 : goal.returns-then-n-eq0
returns-then-n-eq0 c =
    let e = c.all_fields.ensures (child_ok c.args.n c.args.count) (λ u w b e. search rules) in
    tree_root _ _ _ _ (sym e ∙ c.if-all_fields.true) c.if-n-eq0.true

pub returns-else-n-eq0 : goal.returns-else-n-eq0
returns-else-n-eq0 c =
    let e = c.all_fields.ensures (child_ok c.args.n c.args.count) (λ u w b e. search rules) in
    tree_once _ _ _ _ (sym e ∙ c.if-all_fields.true) c.if-n-eq0.false

pub returns-else-all_fields : goal.returns-else-all_fields
returns-else-all_fields c =
    let e = c.all_fields.ensures (child_ok c.args.n c.args.count) (λ u w b e. search rules) in
    c.if-all_fields.false ∙ tree_bad c.args.n c.args.count c.args.times c.args.x (sym e ∙ c.if-all_fields.false)
