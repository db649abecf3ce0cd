use Rattle.std.proofs.Common.{rules}
use Rattle.tables.proofs.FieldLaws.{kind_known, kind_unknown}
use Rattle.tables.specs.Fields.{unused_ok}
use Rattle.tables.proofs.fields.kind_ok.Goals as goal

pub returns-then-x-le6 : goal.returns-then-x-le6
returns-then-x-le6 c = kind_known _ _ c.if-x-le6.true (c.all_fields.ensures unused_ok (λ u w b e. search rules))

pub returns-else-x-le6 : goal.returns-else-x-le6
returns-else-x-le6 c = kind_unknown _ c.if-x-le6.false
