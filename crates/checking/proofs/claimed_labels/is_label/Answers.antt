use mathlib.Core.Path.{◌≡◌, sym, ap, ◌∙◌}
use mathlib.Core.Bool.{false≢true}
use Prim.Native.Nat.{ℕ, ◌+◌, ◌-◌}
use native.Mathlib.Omega.{arith}
use borrow.Author.Tests.{eqb-true, eqb-false}
use lib.ListN.{length, take, drop}
use lib.Seq.{length-take-le}
use Rattle.claims.specs.Claims.{same_words}
use Rattle.values.specs.Env.{view_value}
use Rattle.checking.proofs.LabelLaws.{words_compared, other_channel, other_side, other_length, same_head}
use borrow.Author.Rules.{rules}
use Rattle.checking.proofs.claimed_labels.is_label.Goals as goal
use Rattle.checking.proofs.claimed_labels.is_label.Goals.{Start}
use Rattle.checking.proofs.claimed_labels.is_label.Goals.{then-labels-at, else-labels-at}
use Rattle.checking.proofs.claimed_labels.is_label.Goals.{then-labels-at-2, else-labels-at-2}

value_long : (c : Start) → length (view_value c.args.v) ≡ c.args.v.len
value_long c =
    let all : length c.args.v.words ≡ 16 = search (rules, c.well_formed) in
    length-take-le c.args.v.len c.args.v.words (omega (arith, all, c.requires.1))

pub returns-then-labels-at-3 : goal.returns-then-labels-at-3
returns-then-labels-at-3 c =
    let a = c.args in
    let v = view_value a.v in
    let long = value_long (goal.at.returns-then-labels-at-3 c).Start in
    elim c.if-labels-at-2.branch [
      | then-labels-at-2 w ↦
          let counts = eqb-true _ _ (sym w.value-is ∙ c.if-labels-at-3.true) in
          elim c.if-labels-at.branch [
            | then-labels-at x ↦
                let side = eqb-true _ _ (sym x.value-is ∙ w.if-labels-at-2.true) in
                let head = same_head a.labels.now a.at c.requires.0 a.channel a.side _ v x.if-labels-at.true side (counts ∙ sym long) in
                let many : (a.at + 3 + a.v.len) - (a.at + 3) ≡ length v = omega (arith, long) in
                c.eq.ensures ∙ words_compared v _ ∙ ap (λ (n : ℕ). same_words v (take n (drop (a.at + 3) a.labels.now))) many ∙ head
            | else-labels-at x ↦ absurd (x.if-labels-at.false (eqb-true _ _ (sym x.value-is ∙ w.if-labels-at-2.true)))
          ]
      | else-labels-at-2 w ↦ absurd (false≢true (sym w.if-labels-at-2.false ∙ sym w.value-is ∙ c.if-labels-at-3.true))
    ]

pub returns-else-labels-at-3 : goal.returns-else-labels-at-3
returns-else-labels-at-3 c =
    let a = c.args in
    let v = view_value a.v in
    let long = value_long (goal.at.returns-else-labels-at-3 c).Start in
    c.if-labels-at-3.false ∙
    elim c.if-labels-at-2.branch [
      | then-labels-at-2 w ↦
          let counts = eqb-false _ _ (sym w.value-is ∙ c.if-labels-at-3.false) in
          elim c.if-labels-at.branch [
            | then-labels-at x ↦
                let side = eqb-true _ _ (sym x.value-is ∙ w.if-labels-at-2.true) in
                other_length a.labels.now a.at c.requires.0 a.channel a.side _ v x.if-labels-at.true side (λ e. counts (e ∙ long))
            | else-labels-at x ↦ absurd (x.if-labels-at.false (eqb-true _ _ (sym x.value-is ∙ w.if-labels-at-2.true)))
          ]
      | else-labels-at-2 w ↦
          elim c.if-labels-at.branch [
            | then-labels-at x ↦ other_side a.labels.now a.at c.requires.0 a.channel a.side _ v x.if-labels-at.true (eqb-false _ _ (sym x.value-is ∙ w.if-labels-at-2.false))
            | else-labels-at x ↦ other_channel a.labels.now a.at c.requires.0 a.channel a.side _ v x.if-labels-at.false
          ]
    ]
