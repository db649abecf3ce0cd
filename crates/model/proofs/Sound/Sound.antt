-- Demand 2, first half: a labelled step is a transition at its place, and leads where the bench goes.
use mathlib.Core.Path.{◌≡◌, refl, sym, ◌∙◌, subst, transport}
use mathlib.Core.Bool.{Bool, true, false}
use mathlib.Core.List.{[]}
use Prim.Native.Nat.{ℕ}
use native.Mathlib.Omega.{arith}
use borrow.Author.Tests.{not-true}
use Rattle.calculus.specs.Transitions.{Label, tau, Participants, joint, In, Fn⊆}
use Rattle.calculus.specs.Tree.{process}
use Rattle.model.specs.Basics.{Res, refuse, done}
use Rattle.model.specs.Wrapper.{Route, has_side}
use Rattle.model.specs.Side.{State, side, put_side, has_taken}
use Rattle.model.specs.Load.{Composition, wrapper_of, setting}
use Rattle.model.specs.WellFormed.{counts, shelf_of, ready}
use Rattle.model.specs.Step.{Step, Moved, labelled, Result, settled, local, route_to, takes, known, step, answer_of, side_after}
use Rattle.model.specs.Process.{Mark, shelf, taker, conf_of, known_of}
use Rattle.model.specs.Agreement.{At, Asks, asks_tau, Says, IsLabelled, SoundAt, Sound, answer_side}
use Rattle.calculus.proofs.Marks.{remark_all}
use Rattle.calculus.proofs.KnownNames.{strengthen}
use Rattle.model.proofs.Basics.Tests.{need_done}
use Rattle.model.proofs.Processes.KnownNames.{known_fewer}
use Rattle.model.proofs.Formed.Keeping.{done_inj}
use Rattle.model.proofs.Basics.Splits.{pick_get}
use Rattle.model.proofs.Formed.Invariant.{settled_done, side_keeps, which, route_j}
use Rattle.model.proofs.Independent.Independence.{step_has, step_lacks}
use Rattle.model.proofs.Processes.StateTree.{reach_boxes}
use Rattle.model.proofs.Sound.ItemMoves.{ids}
use Rattle.model.proofs.Sound.StateMoves.{Goes}
use Rattle.model.proofs.Sound.SideViews.{view}
use Rattle.model.proofs.Sound.Labels.{SaysInv, says_inv, at_take}
use Rattle.model.proofs.Sound.AskedValues.{spoken_says}
use Rattle.model.proofs.Sound.SideSteps.{Done, local_done}
use Rattle.model.proofs.Sound.BoxOrder.{orient}
use Rattle.model.proofs.Sound.MeetMoves.{meeting}
use Rattle.model.proofs.Sound.TakeMoves.{route_get, took_state, took_goes}

-- by the result
abbrev SoundRes : Composition → State → Step → Label → Result → Type 0
SoundRes b s k l r = (w : Participants Mark) × At (wrapper_of b) k w × Asks k l × (answer_side r.answer ≡ k.side) × Goes b s r.after l w

module _ (b : Composition) (s : State) (e : ready b s ≡ true) where
  taking : (n : ℕ) (h : has_side (wrapper_of b) n ≡ true) (x : Step) (l : Label) (m : Moved) (r : Route) → x.kind ≡ 8 → x.words ≡ [] → x.side ≡ n → route_to (wrapper_of b).routes n x.j ≡ done r
      → takes r.source (shelf_of s r.source) (side s n).core x.i ≡ done m → SaysInv (wrapper_of b) (labelled m.label n m.val) l → Done b s e (view b s e n h) x l m
  unfolding takes Done view
  taking n h x l m r k8 ws sd fr t sy =
      let (v, g, t1) = pick_get (shelf_of s r.source) x.i _ m t in
      let a = need_done _ _ _ _ t1 in
      let rg = route_get (wrapper_of b).routes n x.j r fr in
      let gg = took_goes b s e n h x.j r fr x.i v g (not-true (has_taken (side s n).core r.source x.i) a.0) in
      let em = done_inj a.1 in
      let lt : l ≡ tau = subst (λ (y : Moved). SaysInv (wrapper_of b) (labelled y.label n y.val) l) (sym em) sy in
      subst (λ (y : Moved). (w : Participants Mark) × At (wrapper_of b) x w × Asks x l × Goes b s (put_side s n (side_after (side s n) (done y))) l w) em
      (subst (λ (y : Label). (w : Participants Mark) × At (wrapper_of b) x w × Asks x y × Goes b s (took_state b s e n h x.j r fr x.i v) y w) (sym lt) (
        joint (shelf r.source x.i) (taker r.source r.receiver),
        at_take (wrapper_of b) x rg.0 r rg.1 k8 (sd ∙ sym rg.2) (sym (route_j (wrapper_of b).routes n x.j r fr)) ws,
        asks_tau (λ z. omega arith) (λ z. omega arith),
        gg,
      ))

  own_side : (k : Step) (l : Label) (h : has_side (wrapper_of b) k.side ≡ true) (r : Res Moved) → settled (local (setting b k.side) (known s) (shelf_of s) (side s k.side).core k) ≡ r → SaysInv (wrapper_of b) (answer_of k.side r) l
      → SoundRes b s k l (record { answer = answer_of k.side r; after = put_side s k.side (side_after (side s k.side) r) })
  unfolding view Done
  own_side k l h (refuse n) q sy = absurd sy
  own_side k l h (done m) q sy =
      let n = k.side in
      let st = settled_done _ m q in
      let d = local_done b s e (view b s e n h) (meeting b s e (view b s e n h) (orient b s e n h) (which b.wrapper n h, refl) (reach_boxes b s e ids n h)) (taking n h) k l m refl st.is st.few sy in
      (d.0, d.1, d.2, refl, d.3)

  sound_res : (k : Step) (l : Label) → SaysInv (wrapper_of b) (step b s k).answer l → SoundRes b s k l (step b s k)
  sound_res k l sy = go (has_side (wrapper_of b) k.side) refl
    where
      go : (t : Bool) → has_side (wrapper_of b) k.side ≡ t → SoundRes b s k l (step b s k)
      go true h = rw (step_has b s k e h) (own_side k l h _ refl (rw (step_has b s k e h) at sy))
      go false h = absurd (rw (step_lacks b s k e h) at sy)

  -- an answer that is no refusal has a label
  told_side : (k : Step) (h : has_side (wrapper_of b) k.side ≡ true) (r : Res Moved) → settled (local (setting b k.side) (known s) (shelf_of s) (side s k.side).core k) ≡ r →
      IsLabelled (answer_of k.side r) → (l : Label) × Says (wrapper_of b) (answer_of k.side r) l
  told_side k h (refuse n) q y = absurd y
  told_side k h (done m) q y = spoken_says (wrapper_of b) k.side (counts s) m.label m.val (side_keeps b s e k.side h k m q).said

  pub label_of : (k : Step) → IsLabelled (step b s k).answer → (l : Label) × Says (wrapper_of b) (step b s k).answer l
  label_of k y = go (has_side (wrapper_of b) k.side) refl
    where
      go : (t : Bool) → has_side (wrapper_of b) k.side ≡ t → (l : Label) × Says (wrapper_of b) (step b s k).answer l
      go true h = rw (step_has b s k e h) (told_side k h _ refl (rw (step_has b s k e h) at y))
      go false h = absurd (rw (step_lacks b s k e h) at y)

-- the step asks for the label that it gets
pub asks_of : (b : Composition) (s : State) → ready b s ≡ true → (k : Step) (l : Label) → Says (wrapper_of b) (step b s k).answer l → Asks k l
asks_of b s e k l sy = (sound_res b s e k l (says_inv sy)).2

-- a transition where all outside names are known is one where fewer are, as long as those of the process are among them
pub sound : Sound
unfolding Sound SoundAt
sound b s k e = (
  label_of b s e k,
  λ X l br sy.
      let r = sound_res b s e k l (says_inv sy) in
      let free : Fn⊆ (process (conf_of b s)) (known_of X s) = transport (sym (remark_all (λ m. tt) (process (conf_of b s)) (In (known_of X s)))) br.free in
      (r.0, r.1, r.2, r.3, r.4.R, strengthen r.4.step (known_of X s) (known_fewer X s br.outside) free, r.4.to),
)
