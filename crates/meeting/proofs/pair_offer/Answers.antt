use mathlib.Core.Path.{refl, sym, ◌∙◌}
use Rattle.meeting.proofs.PairLaws.{pair_past, pair_past_input, pair_no_output, pair_no_input}
use Rattle.meeting.proofs.pair_offer.Goals as goal
use Rattle.meeting.proofs.pair_offer.Goals.{then-n-i-via-then-n-i, then-n-i-via-else-n-i+then-n-j, then-word_at-ne1-via-then-word_at-ne1, then-word_at-ne1-via-else-word_at-ne1+then-word_at-eq1}

pub returns-then-n-i : goal.returns-then-n-i
returns-then-n-i c =
    let a = c.args in
    λ s k q. elim c.then-n-i.branch [
      | then-n-i-via-then-n-i w ↦ pair_past a.rows.now a.n a.i a.j c.requires.1 s k q w.if-n-i.true
      | then-n-i-via-else-n-i+then-n-j w ↦ pair_past_input a.rows.now a.n a.i a.j c.requires.1 s k q w.if-n-i.false w.if-n-j.true
    ]

pub returns-then-word_at-ne1 : goal.returns-then-word_at-ne1
returns-then-word_at-ne1 c =
    let a = c.args in
    λ s k q. elim c.then-word_at-ne1.branch [
      | then-word_at-ne1-via-then-word_at-ne1 w ↦
          pair_no_output a.rows.now a.n a.i a.j c.requires.1 s k q c.if-n-i.false c.if-n-j.false (λ e. w.if-word_at-ne1.true (c.word_at.ensures ∙ e))
      | then-word_at-ne1-via-else-word_at-ne1+then-word_at-eq1 w ↦
          pair_no_input a.rows.now a.n a.i a.j c.requires.1 s k q c.if-n-i.false c.if-n-j.false (sym c.word_at.ensures ∙ w.if-word_at-ne1.false)
          (sym w.word_at-else-word_at-ne1.ensures ∙ w.if-word_at-eq1.true)
    ]

pub returns : goal.returns
returns c =
    let out = sym c.word_at.ensures ∙ c.if-word_at-ne1.false in
    λ s k q. (refl, record { held_i = c.if-n-i.false; held_j = c.if-n-j.false; out = out; inp = λ e. c.if-word_at-eq1.false (c.word_at-else-word_at-ne1.ensures ∙ e) })
