use mathlib.Core.Path.{◌≡◌, sym, ap₂, subst, ◌∙◌}
use mathlib.Core.List.{List, ◌∷◌, ◌++◌}
use Prim.Native.Nat.{ℕ}
use native.Mathlib.Omega.{arith}
use lib.ListN.{length, drop}
use Rattle.std.specs.Prelude.{Some}
use Rattle.std.specs.declared.result.Result.{Result}
use Rattle.claims.specs.Claims.{records_past, label_fault}
use Rattle.values.specs.Env.{view_value}
use Rattle.execution.specs.Execution.{record_end}
use Rattle.execution.proofs.RecordEnds.{found_end}
use Rattle.checking.specs.declared.claimed_labels.Agreed.{Agreed}
use Rattle.checking.specs.Checking.{shown, fault_from, Within, Counted}
use Rattle.checking.proofs.LabelLaws.{missing, agrees, parts, shown_some}
use Rattle.checking.proofs.claimed_labels.agreed_past.Goals as goal
use Rattle.checking.proofs.claimed_labels.agreed_past.Goals.{In-Some, In-Some-record_end}

abbrev label : (c : In-Some) → List ℕ
label c = let v = view_value c.args.x.value in c.in-Some.channel ∷ c.args.x.side ∷ length v ∷ v

-- the label that is shown stands first
seen : (c : In-Some) (vs : List (List ℕ)) → fault_from c.args.labels.now c.args.agreed (shown c.args.x.said c.args.x.side (view_value c.args.x.value) ++ vs)
    ≡ label_fault c.in-Ok.a.count (label c ∷ vs) (records_past 2 (drop c.in-Ok.a.at c.args.labels.now) 0)
seen c vs =
    ap₂ (λ (r : Result Agreed ℕ) (s : List (List ℕ)). fault_from c.args.labels.now r (s ++ vs)) c.in-Ok.is
    (shown_some c.args.x.said c.args.x.side c.in-Some.channel (view_value c.args.x.value) (sym c.channel.ensures ∙ c.in-Some.is))

found : (c : In-Some-record_end) → record_end 2 c.args.labels.now c.in-Ok.a.at ≡ Some c.in-Some-record_end.e
found c = sym c.record_end.ensures ∙ c.in-Some-record_end.is

pub is_label-requires : goal.is_label-requires
is_label-requires c = let at = found_end _ _ _ _ (found (goal.at.is_label-requires c).In-Some-record_end) in (omega (arith, at.1), c.requires.1)

pub returns-in-Some-record_end : goal.returns-in-Some-record_end
returns-in-Some-record_end c =
    let there = found (goal.at.returns-in-Some-record_end c).In-Some-record_end in
    let at = found_end _ _ _ _ there in
    let w : Within c.args.labels.now c.in-Ok.a = subst (Counted c.args.labels.now) c.in-Ok.is c.requires.0 in
    let s = (goal.at.returns-in-Some-record_end c).In-Some in (
      record { few = omega (arith, at.0, w.few); within = omega (arith, at.0, at.1) },
      λ vs. agrees c.args.labels.now c.in-Ok.a.at c.in-Ok.a.count (label s) vs _ there (sym c.if-is_label.true ∙ c.is_label.ensures) ∙ sym (seen s vs),
    )

pub returns-in_default-record_end : goal.returns-in_default-record_end
returns-in_default-record_end c =
    let there = found (goal.at.returns-in_default-record_end c).In-Some-record_end in
    let s = (goal.at.returns-in_default-record_end c).In-Some in
    (_, λ vs. parts c.args.labels.now c.in-Ok.a.at c.in-Ok.a.count (label s) vs _ there (sym c.if-is_label.false ∙ c.is_label.ensures) ∙ sym (seen s vs))

pub returns-in_default-record_end-2 : goal.returns-in_default-record_end-2
returns-in_default-record_end-2 c =
    let s = (goal.at.returns-in_default-record_end-2 c).In-Some in
    (_, λ vs. missing c.args.labels.now c.in-Ok.a.at c.in-Ok.a.count (label s) vs (sym c.record_end.ensures ∙ c.in_default-record_end.is) ∙ sym (seen s vs))
