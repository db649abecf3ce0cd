use Rattle.std.proofs.Common.{◌≡◌, ap, ◌∙◌, ℕ}
use Rattle.model.specs.Basics.{◌&◌}
use Rattle.tables.specs.Fields.{use_of}
use Rattle.tables.proofs.FieldLaws.{and_yes, and_no, all_four}
use Rattle.tables.proofs.nodes.Node.all_fields.Goals.{then-passes, else-passes, then-passes-2, else-passes-2, then-passes-3, else-passes-3}
use Rattle.tables.proofs.nodes.Node.all_fields.Goals as goal

pub returns : goal.returns
returns g c = λ p t.
    let x = c.args.self in
    let a = t _ _ _ c.passes.ensures ∙ ap (λ (u : ℕ). p u x.a) c.use_of.ensures in
    let ab : c.if-passes.value ≡ p (use_of x 0) x.a & p (use_of x 1) x.b = elim c.if-passes.branch [
      | then-passes w ↦ and_yes _ w.if-passes.true a (w.value-is ∙ t _ _ _ w.passes-then-passes.ensures ∙ ap (λ (u : ℕ). p u x.b) w.use_of-then-passes.ensures)
      | else-passes w ↦ and_no _ w.if-passes.false a w.value-is
    ] in
    let abc : c.if-passes-2.value ≡ (p (use_of x 0) x.a & p (use_of x 1) x.b) & p (use_of x 2) x.c = elim c.if-passes-2.branch [
      | then-passes-2 w ↦ and_yes _ w.if-passes-2.true ab (w.value-is ∙ t _ _ _ w.passes-then-passes-2.ensures ∙ ap (λ (u : ℕ). p u x.c) w.use_of-then-passes-2.ensures)
      | else-passes-2 w ↦ and_no _ w.if-passes-2.false ab w.value-is
    ] in
    let abcd : c.if-passes-3.result ≡ ((p (use_of x 0) x.a & p (use_of x 1) x.b) & p (use_of x 2) x.c) & p (use_of x 3) x.d = elim c.if-passes-3.branch [
      | then-passes-3 w ↦ and_yes _ w.if-passes-3.true abc (w.result-is ∙ t _ _ _ w.passes-then-passes-3.ensures ∙ ap (λ (u : ℕ). p u x.d) w.use_of-then-passes-3.ensures)
      | else-passes-3 w ↦ and_no _ w.if-passes-3.false abc w.result-is
    ] in
    all_four p x _ abcd
