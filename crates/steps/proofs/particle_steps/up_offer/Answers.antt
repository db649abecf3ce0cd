use mathlib.Core.Path.{refl, sym, ap, ◌∙◌}
use Rattle.model.specs.Step.{is_to_parent}
use Rattle.steps.proofs.Held.{rows_cap}
use Rattle.steps.proofs.ParticleSteps.{up_past, up_no_output, up_not}
use native.Mathlib.Omega.{arith}
use borrow.Author.Rules.{rules}
use Rattle.steps.proofs.particle_steps.up_offer.Goals as goal
use Rattle.steps.proofs.particle_steps.up_offer.Goals.{then-word_at-ne1-via-then-word_at-ne1, then-word_at-ne1-via-else-word_at-ne1+then-not-is_to_parent}

pub returns-then-o-i : goal.returns-then-o-i
returns-then-o-i c = λ s. up_past c.args.rows.now c.args.o c.args.i c.requires s c.if-o-i.true

pub word_at-requires : goal.word_at-requires
word_at-requires c = (c.requires.long, omega (arith, c.if-o-i.false, rows_cap c.args.rows.now c.args.o c.requires), search rules)

pub tag_at-requires : goal.tag_at-requires
tag_at-requires c = (c.requires.long, omega (arith, c.if-o-i.false, rows_cap c.args.rows.now c.args.o c.requires))

pub returns-then-word_at-ne1 : goal.returns-then-word_at-ne1
returns-then-word_at-ne1 c =
    let l = c.args.rows.now in
    let o = c.args.o in
    let i = c.args.i in
    λ s. elim c.then-word_at-ne1.branch [
      | then-word_at-ne1-via-then-word_at-ne1 w ↦ up_no_output l o i c.requires c.if-o-i.false s (λ e. w.if-word_at-ne1.true (c.word_at.ensures ∙ e))
      | then-word_at-ne1-via-else-word_at-ne1+then-not-is_to_parent w ↦
          up_not l o i c.requires c.if-o-i.false s (sym c.word_at.ensures ∙ w.if-word_at-ne1.false)
          (ap is_to_parent (sym w.tag_at.ensures) ∙ sym w.is_to_parent.ensures ∙ w.if-not-is_to_parent.true)
    ]

pub returns : goal.returns
returns c =
    let is = sym c.word_at.ensures ∙ c.if-word_at-ne1.false in
    let tag = ap is_to_parent (sym c.tag_at.ensures) ∙ sym c.is_to_parent.ensures ∙ c.if-not-is_to_parent.false in
    λ s. (refl, record { held = c.if-o-i.false; is = is; tag = tag })
