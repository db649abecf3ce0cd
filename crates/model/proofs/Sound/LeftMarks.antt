-- A side's marks of names that have left, after a step.
use mathlib.Core.Path.{◌≡◌, refl, sym, ap, ◌∙◌, subst}
use mathlib.Core.Bool.{Bool, true, false, cond, ◌||◌}
use mathlib.Core.List.{List, [], ◌∷◌}
use mathlib.Core.Logic.{◌⊎◌, inl, inr}
use Prim.Native.Nat.{ℕ}
use borrow.Author.Tests.{eqb-true, eqb-false, eq-eqb, ne_eqb}
use lib.Dec.{eqb}
use Rattle.calculus.specs.Transitions.{mem}
use Rattle.model.specs.Basics.{Res, refuse, done, has}
use Rattle.model.specs.Values.{is_minted}
use Rattle.model.specs.Wrapper.{has_side}
use Rattle.model.specs.Side.{State, side, put_side}
use Rattle.model.specs.Load.{Composition, wrapper_of}
use Rattle.model.specs.WellFormed.{ready}
use Rattle.model.specs.Step.{Step, Label, silent, enters, leaves, logs, Moved, labelled, answer_of, side_after, marks, mark_all, marked, Result, step}
use Rattle.model.specs.Runs.{RefusedWhole, left_by, LeftMarks}
use Rattle.model.proofs.Basics.Sides.{put_same, put_other}
use Rattle.model.proofs.Formed.Invariant.{which}
use Rattle.model.proofs.Independent.Independence.{moved, step_has, left_size}
use Rattle.model.proofs.Sound.NamesLeaving.{marked_all}
use Rattle.model.proofs.Sound.SideViews.{pos, lt}
use Rattle.model.proofs.Formed.Refusals.{refused_whole}

or_none : (a : Bool) → a ≡ (a || false)
or_none true = refl
or_none false = refl

has_is : (w : ℕ) (v : List ℕ) → mem w v ≡ has w v
has_is w [] = refl
has_is w (x ∷ v) = ap (λ (t : Bool). eqb w x || t) (has_is w v)

-- the own side's marks, by the label
module _ (b : Composition) (s : State) (x : Step) (w : ℕ) (e : ready b s ≡ true) (h : has_side (wrapper_of b) x.side ≡ true) (m : is_minted w ≡ true) where
  abbrev before : List Bool
  before = (side s x.side).left

  by_mark : (v : List ℕ) → marked (mark_all before v) w ≡ (marked before w || has w (cond (has x.side (x.side ∷ [])) v []))
  by_mark v = marked_all v before w (left_size b s x.side e (which b.wrapper x.side h)) m ∙ ap (λ (t : Bool). marked before w || t) (has_is w v ∙ rw (eq-eqb x.side x.side refl))

  by_label : (l : Label) (v : List ℕ) → marked (marks l v before) w ≡ (marked before w || has w (left_by (x.side ∷ []) (labelled l x.side v)))
  by_label silent v = or_none _
  by_label enters v = or_none _
  by_label leaves v = by_mark v
  by_label logs v = by_mark v

  own : (r : Res Moved) → marked (side_after (side s x.side) r).left w ≡ (marked before w || has w (left_by (x.side ∷ []) (answer_of x.side r)))
  own (refuse k) = or_none _
  own (done y) = by_label y.label y.val

-- an answer to another side lets nothing out by side n
not_by : (n k : ℕ) → (n ≡ k → ⊥) → (r : Res Moved) → left_by (n ∷ []) (answer_of k r) ≡ []
not_by n k d (refuse c) = refl
not_by n k d (done y) = by_label y.label
  where
    by_label : (l : Label) → left_by (n ∷ []) (labelled l k y.val) ≡ []
    by_label silent = refl
    by_label enters = refl
    by_label leaves = rw (ne_eqb k n (λ q. d (sym q)))
    by_label logs = rw (ne_eqb k n (λ q. d (sym q)))

-- what is said of a side's marks, of a result of the step
abbrev Kept : State → (n w : ℕ) → Result → Type 0
Kept s n w r = marked (side r.after n).left w ≡ (marked (side s n).left w || has w (left_by (n ∷ []) r.answer))

module _ (b : Composition) (s : State) (x : Step) (n w : ℕ) (m : is_minted w ≡ true) where
  refused_keeps : (ready b s ≡ false) ⊎ (has_side (wrapper_of b) x.side ≡ false) → Kept s n w (step b s x)
  unfolding RefusedWhole
  refused_keeps h = let r = refused_whole.0 b s x h in rw (r.0, r.1) (or_none _)

  by_side_lem : ready b s ≡ true → has_side (wrapper_of b) x.side ≡ true → (t : Bool) → eqb n x.side ≡ t
      → Kept s n w (record { answer = answer_of x.side (moved b s x); after = put_side s x.side (side_after (side s x.side) (moved b s x)) })
  by_side_lem e h true q =
      let own_side : n ≡ x.side = eqb-true n x.side q in
      rw (own_side, put_same s x.side (side_after (side s x.side) (moved b s x)) (pos b s e x.side h) (lt b s e x.side h)) (own b s x w e h m (moved b s x))
  by_side_lem e h false q =
      let other : n ≡ x.side → ⊥ = eqb-false n x.side q in
      rw (put_other s x.side n (side_after (side s x.side) (moved b s x)) other, not_by n x.side other (moved b s x)) (or_none _)

  by_test : (t : Bool) → ready b s ≡ t → (u : Bool) → has_side (wrapper_of b) x.side ≡ u → Kept s n w (step b s x)
  by_test false e u h = refused_keeps (inl e)
  by_test true e false h = refused_keeps (inr h)
  by_test true e true h = subst (Kept s n w) (sym (step_has b s x e h)) (by_side_lem e h (eqb n x.side) refl)

pub left_marks : LeftMarks
unfolding LeftMarks
left_marks b s x n w m = by_test b s x n w m (ready b s) refl (has_side (wrapper_of b) x.side) refl
