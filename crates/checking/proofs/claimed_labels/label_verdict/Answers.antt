use mathlib.Core.Path.{sym, ap, ◌∙◌}
use mathlib.Core.List.{[]}
use mathlib.Core.Option.{none}
use Prim.Native.Nat.{ℕ}
use Rattle.std.specs.declared.result.Result.{Result}
use Rattle.claims.specs.Claims.{judged}
use Rattle.checking.specs.declared.claimed_labels.Agreed.{Agreed}
use Rattle.checking.specs.Checking.{fault_from}
use Rattle.checking.proofs.LabelLaws.{over_fault, none_over}
use Rattle.checking.proofs.claimed_labels.label_verdict.Goals as goal

pub returns-then-a-labels : goal.returns-then-a-labels
returns-then-a-labels c =
    let whole = ap (λ (r : Result Agreed ℕ). fault_from c.args.labels.now r []) c.in-Ok.is in
    ap (judged none) (sym (whole ∙ over_fault c.args.labels.now c.in-Ok.a.at c.in-Ok.a.count c.if-a-labels.true))

pub returns-else-a-labels : goal.returns-else-a-labels
returns-else-a-labels c =
    let whole = ap (λ (r : Result Agreed ℕ). fault_from c.args.labels.now r []) c.in-Ok.is in
    ap (judged none) (sym (whole ∙ none_over c.args.labels.now c.in-Ok.a.at c.in-Ok.a.count c.if-a-labels.false))
