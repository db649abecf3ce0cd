use Rattle.std.proofs.Common.{[]}
use Rattle.tables.proofs.nodes.node_by_fields.Goals as goal

pub returns : goal.returns
returns c =
    record {
      k = c.field_at.ensures [];
      f1 = c.field_at-2.ensures [];
      f2 = c.field_at-3.ensures [];
      f3 = c.field_at-4.ensures [];
      f4 = c.field_at-5.ensures [];
    }
