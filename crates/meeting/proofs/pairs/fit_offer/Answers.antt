use mathlib.Core.Path.{refl, sym, ap, ◌∙◌}
use mathlib.Core.Bool.{false≢true}
use Rattle.model.specs.Values.{word}
use Rattle.model.specs.Unfolding.{tag_of}
use Rattle.tables.specs.Nodes.{table}
use Rattle.sides.specs.Environments.{env_of}
use Rattle.meeting.proofs.PairLaws.{fit_box, fit_channel, fit_tags}
use Rattle.meeting.proofs.pairs.fit_offer.Goals as goal
use Rattle.meeting.proofs.pairs.fit_offer.Goals.{then-word_at-via-then-word_at, then-word_at-via-else-word_at+then-word_at-word_in}
use Rattle.meeting.proofs.pairs.fit_offer.Goals.{then-word_at-via-else-word_at+else-word_at-word_in+then-not-tags_fit}

pub returns-then-word_at : goal.returns-then-word_at
returns-then-word_at c =
    let a = c.args in
    let ρ = env_of a.e.now a.d in
    λ pool.
    let t = table a.nodes.now pool in (
      refl,
      elim c.then-word_at.branch [
        | then-word_at-via-then-word_at w ↦ fit_box t a.rows.now a.i a.j ρ c.word_at.ensures c.word_at-2.ensures w.if-word_at.true
        | then-word_at-via-else-word_at+then-word_at-word_in w ↦
            fit_channel t a.rows.now a.i a.j ρ c.word_at.ensures c.word_at-2.ensures w.if-word_at.false c.word_at-n.ensures
            w.word_at-else-word_at.ensures (w.word_in.ensures ∙ ap (word ρ) (w.field_at.ensures pool)) w.if-word_at-word_in.true
        | then-word_at-via-else-word_at+else-word_at-word_in+then-not-tags_fit w ↦
            let fits = fit_tags t a.rows.now a.i a.j ρ c.word_at.ensures c.word_at-2.ensures w.if-word_at.false c.word_at-n.ensures
            w.word_at-else-word_at.ensures (w.word_in.ensures ∙ ap (word ρ) (w.field_at.ensures pool)) w.if-word_at-word_in.false
            _ _ w.tag_at.ensures (w.tag_in.ensures ∙ ap (tag_of ρ) (w.field_at-else-word_at-word_in.ensures pool)) _ w.tags_fit.ensures in
            λ y. false≢true (sym w.if-not-tags_fit.true ∙ fits ∙ y)
      ],
    )

pub returns : goal.returns
returns c =
    let a = c.args in
    let ρ = env_of a.e.now a.d in
    λ pool.
    let fits = fit_tags (table a.nodes.now pool) a.rows.now a.i a.j ρ c.word_at.ensures c.word_at-2.ensures c.if-word_at.false c.word_at-n.ensures
    c.word_at-else-word_at.ensures (c.word_in.ensures ∙ ap (word ρ) (c.field_at.ensures pool)) c.if-word_at-word_in.false
    _ _ c.tag_at.ensures (c.tag_in.ensures ∙ ap (tag_of ρ) (c.field_at-else-word_at-word_in.ensures pool)) _ c.tags_fit.ensures in
    (c.word_at-n.ensures, sym fits ∙ c.if-not-tags_fit.false)
