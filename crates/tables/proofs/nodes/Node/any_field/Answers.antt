use Rattle.std.proofs.Common.{ℕ, Bool}
use Rattle.tables.specs.Fields.{SaysField, OneOf}
use Rattle.tables.proofs.FieldLaws.{one_first, one_second}
use Rattle.tables.proofs.nodes.Node.any_field.Goals.{then-passes, else-passes, then-passes-2, else-passes-2, then-passes-3, else-passes-3}
use Rattle.tables.proofs.nodes.Node.any_field.Goals as goal

pub returns : goal.returns
returns g c =
    let x = c.args.self in
    let says : (i w : ℕ) → Bool → Type 0 = SaysField (goal.F-post g c.args.passes) x in
    let two = OneOf (says 0 x.a) (says 1 x.b) in
    let three = OneOf two (says 2 x.c) in
    let a : says 0 x.a c.passes.result = record { by_use = _; used = c.use_of.ensures; said = c.passes.ensures } in
    let ab : two c.if-passes.value = elim c.if-passes.branch [
      | then-passes w ↦ one_first (says 0 x.a) (says 1 x.b) _ _ w.if-passes.true a w.value-is
      | else-passes w ↦ one_second (says 0 x.a) (says 1 x.b) _ _ _ w.if-passes.false a (record { by_use = _; used = w.use_of-else-passes.ensures; said = w.passes-else-passes.ensures }) w.value-is
    ] in
    let abc : three c.if-passes-2.value = elim c.if-passes-2.branch [
      | then-passes-2 w ↦ one_first two (says 2 x.c) _ _ w.if-passes-2.true ab w.value-is
      | else-passes-2 w ↦ one_second two (says 2 x.c) _ _ _ w.if-passes-2.false ab (record { by_use = _; used = w.use_of-else-passes-2.ensures; said = w.passes-else-passes-2.ensures }) w.value-is
    ] in
    elim c.if-passes-3.branch [
      | then-passes-3 w ↦ one_first three (says 3 x.d) _ _ w.if-passes-3.true abc w.result-is
      | else-passes-3 w ↦ one_second three (says 3 x.d) _ _ _ w.if-passes-3.false abc (record { by_use = _; used = w.use_of-else-passes-3.ensures; said = w.passes-else-passes-3.ensures }) w.result-is
    ]
