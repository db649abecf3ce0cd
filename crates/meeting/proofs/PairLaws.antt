-- Which rows are an output and an input; whether the two fit; 15 and 16 of a body: a law for each way that the code goes.
use mathlib.Core.Path.{◌≡◌, refl, sym, ap, ◌∙◌}
use mathlib.Core.Bool.{Bool, true, false, false≢true}
use mathlib.Core.List.{List}
use mathlib.Core.Logic.{inl, inr, ◌≢◌}
use mathlib.Core.Option.{some}
use Prim.Native.Nat.{ℕ, ◌<◌, ◌≤◌}
use native.Mathlib.Omega.{arith}
use borrow.Author.Tests.{eq-eqb, ne_eqb}
use lib.ListN.{length, get_or, get_elem?}
use Rattle.model.specs.Basics.{refuse}
use Rattle.model.specs.Values.{Env, word}
use Rattle.model.specs.Table.{Table, field, Term}
use Rattle.model.specs.Side.{Particle, Tag, Core}
use Rattle.model.specs.Unfolding.{tag_of, defined}
use Rattle.model.specs.Load.{Setting}
use Rattle.model.specs.Step.{tags_fit, meet, settled}
use Rattle.sides.proofs.Lists.{stops, goes_on}
use Rattle.sides.specs.Layout.{row_at, tag_in, view_row, view_rows}
use Rattle.sides.proofs.Viewing.{view_count, view_row_lem, output_view, input_view}
use Rattle.environments.specs.Long.{long_in}
use Rattle.steps.specs.declared.Offer.TheVariants.{At, Refused}
use Rattle.steps.specs.Asked.{channel_in}
use Rattle.meeting.specs.Meeting.{node_at, fits_at, BodyAnswer}
use Rattle.meeting.proofs.MeetSteps.{meet_10, meet_10_input, meet_13_no_output, meet_13_no_input}

-- WHETHER i IS AN OUTPUT AND j AN INPUT
module _ (l : List ℕ) (n i j : ℕ) (few : n ≤ 32) (c : Setting) (s : Core) (e : s.contents.particles ≡ view_rows l n) where
  held : length s.contents.particles ≡ n
  held = ap length e ∙ view_count l n few

  row : (k : ℕ) → k < n → get_elem? s.contents.particles k ≡ some (view_row (row_at l k))
  row k h = ap (λ (ps : List Particle). get_elem? ps k) e ∙ view_row_lem l n k h few

  pub pair_past : n ≤ i → settled (meet c s i j) ≡ refuse 10
  pair_past h = meet_10 c s i j (omega (arith, held))

  module _ (h : i < n) where
    pub pair_past_input : n ≤ j → settled (meet c s i j) ≡ refuse 10
    pair_past_input g = meet_10_input c s i j _ (row i h) (omega (arith, held))

    module _ (g : j < n) where
      pub pair_no_output : get_or (row_at l i) 0 0 ≢ 1 → settled (meet c s i j) ≡ refuse 13
      pair_no_output z = meet_13_no_output c s i j _ _ _ _ (row i h ∙ ap some (input_view (row_at l i) z)) (row j g)

      pub pair_no_input : get_or (row_at l i) 0 0 ≡ 1 → get_or (row_at l j) 0 0 ≡ 1 → settled (meet c s i j) ≡ refuse 13
      pair_no_input y z = meet_13_no_input c s i j _ _ _ _ _ _ _ _ (row i h ∙ ap some (output_view (row_at l i) y)) (row j g ∙ ap some (output_view (row_at l j) z))

-- a test that does not pass
pub is_false : (b : Bool) → (b ≡ true → ⊥) → b ≡ false
is_false true h = absurd (h refl)
is_false false h = refl

-- ONE BOX, ONE CHANNEL, FITTING TAGS: a and b are the two boxes, n the input's node, x the output's channel, w the input's
module _ (t : Table) (l : List ℕ) (i j : ℕ) (ρ : Env) {a b : ℕ} (ea : a ≡ get_or (row_at l i) 1 0) (eb : b ≡ get_or (row_at l j) 1 0) where
  pub fit_box : (a ≡ b → ⊥) → fits_at t l i j ρ ≡ true → ⊥
  fit_box z y = false≢true (stops _ _ (ne_eqb _ _ (λ q. z (ea ∙ q ∙ sym eb))) ∙ y)

  module _ (q : a ≡ b) {n : ℕ} (en : n ≡ node_at l j) {x w : ℕ} (ex : x ≡ channel_in l i) (ew : w ≡ word ρ (field t n 1)) where
    same_box : get_or (row_at l i) 1 0 ≡ get_or (row_at l j) 1 0
    same_box = sym ea ∙ q ∙ eb

    channel : w ≡ word ρ (field t (node_at l j) 1)
    channel = ew ∙ ap (λ (k : ℕ). word ρ (field t k 1)) en

    pub fit_channel : (x ≡ w → ⊥) → fits_at t l i j ρ ≡ true → ⊥
    fit_channel z y = false≢true (goes_on _ _ _ (eq-eqb _ _ same_box) (stops _ _ (ne_eqb _ _ (λ p. z (ex ∙ p ∙ sym channel)))) ∙ y)

    pub fit_tags : x ≡ w → (g k : Tag) → g ≡ tag_in (row_at l i) → k ≡ tag_of ρ (field t n 2) → (r : Bool) → r ≡ tags_fit g k → r ≡ fits_at t l i j ρ
    fit_tags p g k eg ek r z =
        let tag : k ≡ tag_of ρ (field t (node_at l j) 2) = ek ∙ ap (λ (m : ℕ). tag_of ρ (field t m 2)) en in
        let both : r ≡ tags_fit (tag_in (row_at l i)) (tag_of ρ (field t (node_at l j) 2)) = z ∙ ap (λ (y : Tag). tags_fit y k) eg ∙ ap (tags_fit (tag_in (row_at l i))) tag in
        goes_on _ _ _ (eq-eqb _ _ same_box) (goes_on _ _ _ (eq-eqb _ _ (sym ex ∙ p ∙ channel)) both)

-- 15 AND 16
module _ (d : ℕ) (a : Term) (ρ : Env) {c : Bool} (ce : c ≡ defined a ρ) where
  pub body_15 : c ≡ false → BodyAnswer d a ρ (Refused 15)
  body_15 z = inl (refl, sym ce ∙ z)

  module _ (y : c ≡ true) {k : Bool} (ke : k ≡ long_in a ρ) where
    pub body_16 : k ≡ true → BodyAnswer d a ρ (Refused 16)
    body_16 z = inr (refl, sym ce ∙ y, sym ke ∙ z)

    pub body_at : k ≡ false → BodyAnswer d a ρ (At d)
    body_at z = (refl, sym ce ∙ y, sym ke ∙ z)
