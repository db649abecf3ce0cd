-- Purity: the transitions of a state's process are silent, or on a side's inlet or outlet, or on `log` under wrapper 3, with the environment.
use mathlib.Core.Path.{◌≡◌, refl, sym, ap, ◌∙◌, subst}
use mathlib.Core.Bool.{Bool, true, false, false≢true}
use mathlib.Core.List.{List, []}
use mathlib.Core.Logic.{inl, ⊎_elim}
use Prim.Native.Nat.{ℕ}
use native.Mathlib.Omega.{arith}
use borrow.Author.Tests.{eqb-true}
use Rattle.calculus.specs.Syntax.{Val, Tag, plain, received_parent, received_child, Proc, ren, tren, within, parent, child}
use Rattle.calculus.specs.Transitions.{Label, tau, send, recv, Participants, In}
use Rattle.calculus.specs.Transitions.{Step as Trans}
use Rattle.calculus.specs.Marks.{Marks}
use Rattle.calculus.specs.Tree.{process}
use Rattle.model.specs.Basics.{every}
use Rattle.model.specs.Values.{is_outside}
use Rattle.model.specs.Wrapper.{has_side}
use Rattle.model.specs.Side.{State}
use Rattle.model.specs.Load.{Composition, wrapper_of}
use Rattle.model.specs.WellFormed.{ready}
use Rattle.model.specs.Runs.{RefusedWhole}
use Rattle.model.specs.Step.{Step, Answer, labelled, refusal, silent, enters, leaves, logs, Result, step}
use Rattle.model.specs.Process.{Mark, inert, conf_of, known_of}
use Rattle.model.specs.Agreement.{IsLabelled, Says, Rename, renamed, Asks, asks_out, Met, Excused, by_11_long, by_11_name, by_12, by_16, by_17}
use Rattle.model.specs.Agreement.{Over, enter_full, pass_full, take_full, down_full, up_full, shelf_full, meet_full, answer_side, Complete}
use Rattle.model.specs.Published.{PureLabel, pure_tau, pure_in, pure_out, pure_log, Pure, PurePublished, LogAlone}
use Rattle.calculus.proofs.Marks.{marks}
use Rattle.calculus.proofs.Members.{step_members}
use Rattle.calculus.proofs.KnownNames.{lren_fix}
use Rattle.calculus.proofs.MoreNames.{more_names}
use Rattle.model.proofs.Basics.Tests.{has_every}
use Rattle.model.proofs.Formed.Keeping.{is_log}
use Rattle.model.proofs.Formed.Invariant.{copies_log, copies_where}
use Rattle.model.proofs.Formed.Refusals.{refused_whole}
use Rattle.model.proofs.Independent.Independence.{step_lacks}
use Rattle.model.proofs.Processes.KnownNames.{is_true, outside_names, known_all, is_low, by_known, known_more}
use Rattle.model.proofs.Processes.StateTree.{inlet_low, outlet_low}
use Rattle.model.proofs.Sound.Labels.{SaysInv, says_inv}
use Rattle.model.proofs.Sound.Sound.{label_of}
use Rattle.model.proofs.Complete.StateInversion.{rename_of}
use Rattle.model.proofs.Complete.EntryMoves.{entry_of}
use Rattle.model.proofs.Complete.Complete.{is_send, complete}

-- a renaming that keeps a name takes no other to it
only_kept : {A : List ℕ} (f : Rename A) (x z : ℕ) → In A z → f.to x ≡ z → x ≡ z
only_kept f x z h q = sym (f.back_to x) ∙ ap f.back (q ∙ sym (f.keeps z h)) ∙ f.back_to z

-- and no other tag to the parent's
only_parent : (o : Tag ℕ) (f : ℕ → ℕ) → tren o f ≡ plain parent → o ≡ plain parent
only_parent (plain within) f q = absurd (let z : ◌≡◌ {A = ℕ} 0 1 = cc in omega arith)
only_parent (plain parent) f q = refl
only_parent (plain (child n)) f q = absurd (let z : ◌≡◌ {A = ℕ} 0 1 = cc in omega arith)
only_parent received_parent f q = absurd (let z : ◌≡◌ {A = ℕ} 0 1 = cc in omega arith)
only_parent (received_child n) f q = absurd (let z : ◌≡◌ {A = ℕ} 0 1 = cc in omega arith)

-- the channels towards the environment are known
in_known : (b : Composition) (s : State) (e : ready b s ≡ true) (X : List ℕ) (side : ℕ) → has_side (wrapper_of b) side ≡ true → In (known_of X s) ((wrapper_of b).inlet side)
in_known b s e X side h = by_known X s _ (is_low (inlet_low b s e side h))

out_known : (b : Composition) (s : State) (e : ready b s ≡ true) (X : List ℕ) (side : ℕ) → has_side (wrapper_of b) side ≡ true → In (known_of X s) ((wrapper_of b).outlet side)
out_known b s e X side h = by_known X s _ (is_low (outlet_low b s e side h))

-- a side that the wrapper lacks gets 10
has_side_lem : (b : Composition) (s : State) (k : Step) → ready b s ≡ true → ((step b s k).answer ≡ refusal 10 k.side → ⊥) → has_side (wrapper_of b) k.side ≡ true
has_side_lem b s k e h = go (has_side (wrapper_of b) k.side) refl
  where
    go : (t : Bool) → has_side (wrapper_of b) k.side ≡ t → t ≡ true
    go true p = refl
    go false p = absurd (h (ap (λ (r : Result). r.answer) (step_lacks b s k e p)))

-- the channel and the tag of a label
abbrev chan_of : Label → ℕ
chan_of tau = 0
chan_of (send x o v) = x
chan_of (recv x o v) = x

abbrev tag_of : Label → Tag ℕ
tag_of tau = received_parent
tag_of (send x o v) = o
tag_of (recv x o v) = o

-- a step that leaves passes no limit, and nothing else excuses its refusal
over_no : {b : Composition} {s : State} {k : Step} → Over b s k → k.kind ≡ 7 → ⊥
over_no (enter_full p f) q = omega (arith, p, q)
over_no (pass_full p f) q = omega (arith, p, q)
over_no (take_full p f) q = omega (arith, p, q)
over_no (down_full p f) q = omega (arith, p, q)
over_no (up_full p f g h) q = omega (arith, p, q)
over_no (shelf_full p f g h) q = omega (arith, p, q)
over_no (meet_full p f g h) q = omega (arith, p, q)

no_excuse : {b : Composition} {s : State} {k : Step} {l : Label} {n : ℕ} → Excused b s k l n → is_send l ≡ true → k.kind ≡ 7 → ⊥
no_excuse (by_11_long p h) f q = false≢true f
no_excuse (by_11_name p h) f q = false≢true f
no_excuse (by_12 p h) f q = false≢true f
no_excuse (by_16 p g h i j k) f q = false≢true f
no_excuse (by_17 h) f q = over_no h q

asks_kind : {k : Step} {x : ℕ} {o : Tag ℕ} {v : Val ℕ} → Asks k (send x o v) → k.kind ≡ 7
asks_kind (asks_out p) = p

module _ (b : Composition) (s : State) (e : ready b s ≡ true) (X : List ℕ) (out : every is_outside X ≡ true) where
  -- what the environment says, with all that it may bring
  recv_pure : {x : ℕ} {o : Tag ℕ} {v : Val ℕ} {w : Participants Mark} {R : Proc Mark []} → Trans (known_of X s) (process (conf_of b s)) (recv x o v) w R → PureLabel b (recv x o v)
  recv_pure {x} {o} {v} {w} {R} d =
      let m = more_names outside_names d in
      let t = entry_of b s e (subst (λ (l : Label). Trans (known_all s) (process (conf_of b s)) l w (ren {r = []} R m.perm.to)) (lren_fix (recv x o v) m.perm.to (m.heard tt))
      (step_members m.step (known_all s) (known_more X s out))) in
      let n = t.1 in
      let h = n.vw.is_side in
      let ex : x ≡ (wrapper_of b).inlet n.vw.c.side = only_kept (rename_of t.0) x _ (in_known b s e outside_names n.vw.c.side h) n.on in
      let eo : o ≡ plain parent = only_parent o t.0.perm.to n.tagged in
      subst (PureLabel b) (sym (λ i. recv (ex i) (eo i) v)) (pure_in n.vw.c.side (is_true _ h))

  -- what it hears: the step that leaves says so
  said : {x : ℕ} {o : Tag ℕ} {v : Val ℕ} {R : Proc Mark []} {k : Step} → Met (known_of X s) b s (send x o v) R k → PureLabel b (send x o v)
  said {x} {o} {v} {R} {k} m = go (step b s k).answer (says_inv m.label) m.side (has_side_lem b s k e (λ q. subst (λ (a : Answer). SaysInv (wrapper_of b) a (renamed (send x o v) m.names.to)) q (says_inv m.label)))
    where
      go : (a : Answer) → SaysInv (wrapper_of b) a (renamed (send x o v) m.names.to) → answer_side a ≡ k.side → has_side (wrapper_of b) k.side ≡ true → PureLabel b (send x o v)
      go (labelled silent n u) q sd h = absurd (let z : ◌≡◌ {A = ℕ} 0 1 = cc in omega arith)
      go (labelled enters n u) q sd h = absurd (let z : ◌≡◌ {A = ℕ} 0 1 = cc in omega arith)
      go (labelled leaves n u) q sd h =
          let h' : has_side (wrapper_of b) n ≡ true = subst (λ (y : ℕ). has_side (wrapper_of b) y ≡ true) (sym sd) h in
          let ex : x ≡ (wrapper_of b).outlet n = only_kept m.names x _ (out_known b s e X n h') (ap chan_of q.3) in
          let eo : o ≡ plain parent = only_parent o m.names.to (ap tag_of q.3) in
          subst (PureLabel b) (sym (λ i. send (ex i) (eo i) v)) (pure_out n (is_true _ h'))
      go (labelled logs n u) (y, p, f, (c, i, q)) sd h =
          let c3 : c ≡ 3 = eqb-true c 3 (has_every is_log (wrapper_of b).copies c (copies_log b.wrapper) i) in
          let ex : x ≡ 3 = only_kept m.names x 3 (by_known X s 3 (is_low (omega arith))) (ap chan_of q ∙ c3) in
          let eo : o ≡ plain parent = only_parent o m.names.to (ap tag_of q) in
          subst (PureLabel b) (sym (λ i. send (ex i) (eo i) v)) (pure_log (copies_where b.wrapper c i))
      go (refusal n m) q sd h = absurd q

  send_pure : {x : ℕ} {o : Tag ℕ} {v : Val ℕ} {w : Participants Mark} {R : Proc Mark []} → Trans (known_of X s) (process (conf_of b s)) (send x o v) w R → PureLabel b (send x o v)
  unfolding Complete
  send_pure {x} {o} {v} {w} {R} d =
      let c = complete b s X (send x o v) w R e out d tt in
      let k = c.0.0 in
      ⊎_elim (λ m. said m) (λ r. absurd (no_excuse r.2 refl (asks_kind c.0.2))) (c.1 k c.0.1 c.0.2)

  by_label : (l : Label) (w : Participants Mark) (R : Proc Mark []) → Trans (known_of X s) (process (conf_of b s)) l w R → PureLabel b l
  by_label tau w R d = pure_tau
  by_label (send x o v) w R d = send_pure d
  by_label (recv x o v) w R d = recv_pure d

pub pure : Pure
unfolding Pure
pure b s X l w R e h d = by_label b s e X h l w R d

pub pure_published : PurePublished
unfolding PurePublished Marks
pure_published b s X l Q e h p = let r = (marks Mark).1 (known_of X s) (process (conf_of b s)) l Q inert p in by_label b s e X h l r.0 r.1 r.2

-- a label log is an output on a channel of copies
pub log_alone : LogAlone
unfolding LogAlone RefusedWhole
log_alone b s k n v q = go (ready b s) refl
  where
    told : (l : Label) × Says (wrapper_of b) (labelled logs n v) l → b.wrapper ≡ 3
    told (l, sy) = let (u, p, f, (c, i, r)) = says_inv sy in copies_where b.wrapper c i

    go : (t : Bool) → ready b s ≡ t → b.wrapper ≡ 3
    go true e = told (subst (λ (a : Answer). IsLabelled a → (l : Label) × Says (wrapper_of b) a l) q (label_of b s e k) tt)
    go false e = absurd (let r = (refused_whole.0 b s k (inl e)).0 in let z : ◌≡◌ {A = ℕ} 0 1 = cc in omega arith)
