-- `scopes::names::is_parent` meets its contract.
use Rattle.std.proofs.Common.{rules, ◌∙◌}
use Rattle.tables.proofs.FieldLaws.{any_said}
use Rattle.scopes.specs.Names.{is_child}
use Rattle.scopes.proofs.NameLaws.{parent_by}
use Rattle.scopes.proofs.names.is_parent.Goals as goal

pub returns : goal.returns
returns c = any_said (λ u w. is_child u w c.args.m) (λ u w b e. search rules) c.args.x _ c.any_field.ensures ∙ parent_by c.args.x c.args.m
