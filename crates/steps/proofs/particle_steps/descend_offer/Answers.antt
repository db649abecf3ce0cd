use mathlib.Core.Path.{refl, sym, ap₂, ◌∙◌}
use Prim.Native.Nat.{ℕ}
use Rattle.model.specs.Side.{Tag}
use Rattle.model.specs.Step.{is_to_child}
use Rattle.steps.proofs.Held.{rows_cap, boxes_cap}
use Rattle.steps.proofs.ParticleSteps.{descend_past, descend_no_box, descend_no_output, descend_handler_box, descend_parent, descend_name}
use native.Mathlib.Omega.{arith}
use borrow.Author.Rules.{rules}
use Rattle.steps.proofs.particle_steps.descend_offer.Goals as goal
use Rattle.steps.proofs.particle_steps.descend_offer.Goals.{then-o-i-via-then-o-i, then-o-i-via-else-o-i+then-o-j}
use Rattle.steps.proofs.particle_steps.descend_offer.Goals.{then-word_at-ne1-via-then-word_at-ne1, then-word_at-ne1-via-else-word_at-ne1+then-j-eq0}
use Rattle.steps.proofs.particle_steps.descend_offer.Goals.{then-word_at-ne1-via-else-word_at-ne1+else-j-eq0+then-box_parent-word_at}
use Rattle.steps.proofs.particle_steps.descend_offer.Goals.{then-word_at-ne1-via-else-word_at-ne1+else-j-eq0+else-box_parent-word_at+then-not-is_to_child}

pub returns-then-o-i : goal.returns-then-o-i
returns-then-o-i c =
    let l = c.args.rows.now in
    let o = c.args.o in
    elim c.then-o-i.branch [
      | then-o-i-via-then-o-i w ↦ descend_past l o c.args.i c.requires c.args.j w.if-o-i.true
      | then-o-i-via-else-o-i+then-o-j w ↦ descend_no_box l o c.args.i c.requires w.if-o-i.false c.args.j w.if-o-j.true
    ]

pub word_at-requires : goal.word_at-requires
word_at-requires c = (c.requires.long, omega (arith, c.if-o-i.false, rows_cap c.args.rows.now c.args.o c.requires), search rules)

pub returns-then-word_at-ne1 : goal.returns-then-word_at-ne1
returns-then-word_at-ne1 c =
    let l = c.args.rows.now in
    let o = c.args.o in
    let i = c.args.i in
    let j = c.args.j in
    elim c.then-word_at-ne1.branch [
      | then-word_at-ne1-via-then-word_at-ne1 w ↦
          descend_no_output l o i c.requires c.if-o-i.false j c.if-o-j.false (λ e. w.if-word_at-ne1.true (c.word_at.ensures ∙ e))
      | then-word_at-ne1-via-else-word_at-ne1+then-j-eq0 w ↦
          descend_handler_box l o i c.requires c.if-o-i.false j c.if-o-j.false (sym c.word_at.ensures ∙ w.if-word_at-ne1.false) w.if-j-eq0.true
      | then-word_at-ne1-via-else-word_at-ne1+else-j-eq0+then-box_parent-word_at w ↦
          descend_parent l o i c.requires c.if-o-i.false j c.if-o-j.false (sym c.word_at.ensures ∙ w.if-word_at-ne1.false)
          (λ e. w.if-box_parent-word_at.true (w.box_parent.ensures.0 ∙ e ∙ sym w.word_at-else-j-eq0.ensures))
      | then-word_at-ne1-via-else-word_at-ne1+else-j-eq0+else-box_parent-word_at+then-not-is_to_child w ↦
          descend_name l o i c.requires c.if-o-i.false j c.if-o-j.false (sym c.word_at.ensures ∙ w.if-word_at-ne1.false)
          (sym (ap₂ (λ (g : Tag) (n : ℕ). is_to_child g n) w.tag_at.ensures w.box_name.ensures) ∙ sym w.is_to_child.ensures ∙ w.if-not-is_to_child.true)
    ]

pub box_parent-requires : goal.box_parent-requires
box_parent-requires c = (c.requires.long, omega (arith, c.if-o-j.false, boxes_cap c.args.rows.now c.args.o c.requires))

pub word_at-requires-else-j-eq0 : goal.word_at-requires-else-j-eq0
word_at-requires-else-j-eq0 c = (c.requires.long, omega (arith, c.if-o-i.false, rows_cap c.args.rows.now c.args.o c.requires), search rules)

pub tag_at-requires : goal.tag_at-requires
tag_at-requires c = (c.requires.long, omega (arith, c.if-o-i.false, rows_cap c.args.rows.now c.args.o c.requires))

pub box_name-requires : goal.box_name-requires
box_name-requires c = (c.requires.long, omega (arith, c.if-o-j.false, boxes_cap c.args.rows.now c.args.o c.requires))

pub returns : goal.returns
returns c =
    let is = sym c.word_at.ensures ∙ c.if-word_at-ne1.false in
    let parent = sym c.box_parent.ensures.0 ∙ c.if-box_parent-word_at.false ∙ c.word_at-else-j-eq0.ensures in
    let tag = sym (ap₂ (λ (g : Tag) (n : ℕ). is_to_child g n) c.tag_at.ensures c.box_name.ensures) in
    let child = tag ∙ sym c.is_to_child.ensures ∙ c.if-not-is_to_child.false in
    (refl, record { held = c.if-o-i.false; box = c.if-o-j.false; inner = c.if-j-eq0.false; is = is; parent = parent; tag = child })
