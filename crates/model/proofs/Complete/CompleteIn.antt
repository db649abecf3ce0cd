-- Demand 2, second half, for the labels that enter: each transition that takes a value from the environment has a step at its place, and that step answers its label and leads where it leads, or it is refused: 11, 12 or 17.
use mathlib.Core.Path.{◌≡◌, refl, sym, ap, ap₂, ◌∙◌, subst, subst₂}
use mathlib.Core.Bool.{Bool, true, false, not, cond}
use mathlib.Core.List.{List, [], ◌∷◌, ◌++◌}
use mathlib.Core.Logic.{◌⊎◌, inl, inr, ⊎_elim}
use Prim.Native.Nat.{ℕ, ◌+◌, ◌≤◌}
use native.Mathlib.Omega.{arith}
use lib.ListN.{length, set, length-append}
use Rattle.calculus.specs.Syntax.{Val, Tag, plain, Proc, tren, vren, ren}
use Rattle.calculus.specs.Syntax.{par as ppar, out as pout, parent as iparent, child as ichild}
use Rattle.calculus.specs.Congruence.{◌≋◌, symm, trans}
use Rattle.calculus.specs.Transitions.{Label, recv, Participants, joint, Out∉, names, lnames}
use Rattle.calculus.specs.Transitions.{Step as Trans}
use Rattle.calculus.specs.Tree.{fill, upd}
use Rattle.calculus.specs.Parallel.{parallel}
use Rattle.calculus.specs.Tree.{Item, select}
use Rattle.calculus.specs.Tree.{process}
use Rattle.model.specs.Basics.{◌&◌, ◌or◌, refuse, done, need, choose, bind, every}
use Rattle.model.specs.Values.{is_minted, is_value}
use Rattle.model.specs.Wrapper.{Wrapper}
use Rattle.model.specs.Side.{State, Message, Core, down}
use Rattle.model.specs.Load.{Composition, wrapper_of, Setting}
use Rattle.model.specs.WellFormed.{counts, shelf_of, ready}
use Rattle.model.specs.Step.{Step, Moved, enters, labelled, Result, refusal, settled, local, step, known, copied, enter as entry}
use Rattle.model.specs.Process.{Mark, enterer, inert, own_name, vwords, conf_of, new_of, enters as entering-item}
use Rattle.model.specs.Agreement.{plainly, At, Asks, asks_in, Says, says_in, Met, Excused, by_11_long, by_11_name, by_12, by_17, enter_full, answer_side, Written, enter, go_down, go_up, descend, meet, pass, leave, take}
use Rattle.calculus.proofs.Renaming.{AllV-map, vren-agree, vren-id}
use Rattle.calculus.proofs.Equivariance.{lren}
use Rattle.calculus.proofs.Restriction.{minus, Eachn}
use Rattle.calculus.proofs.Forwarders.{sends, copy_items}
use Rattle.calculus.proofs.Bags.{item, at, Bag, bag_eq, bag_trans, ritems}
use Rattle.model.proofs.Basics.Items.{shaped_items}
use Rattle.model.proofs.Formed.Keeping.{length_copied, shaped_words}
use Rattle.model.proofs.Formed.Invariant.{copies_log}
use Rattle.model.proofs.Basics.Tests.{snd}
use Rattle.model.proofs.Processes.KnownNames.{known_all, All}
use Rattle.model.proofs.Processes.StateTree.{few}
use Rattle.model.proofs.Sound.ItemMoves.{ids, forget, whole°, sent_of, add_sent}
use Rattle.model.proofs.Sound.StateMoves.{wf_all, rooted_all}
use Rattle.model.proofs.Sound.SideViews.{View, new_same}
use Rattle.model.proofs.Sound.NamesEntering.{enter_fresh}
use Rattle.model.proofs.Sound.SideSteps.{inwards_low}
use Rattle.model.proofs.Complete.StateInversion.{kept_target, rename_of}
use Rattle.model.proofs.Complete.ItemPlaces.{one_changed}
use Rattle.model.proofs.Complete.Completing.{Completed, Inv, inv_at, Answers, lobby_put, mark_in, forwarded}
use Rattle.model.proofs.Complete.EntryMoves.{Entry, entry_of}
use Rattle.model.proofs.Sound.AskedValues.{no_value, unknown_name, names_ok, same_value_lem, usual_names, names_known}

abbrev enter_step : ℕ → List ℕ → Step
enter_step σ ws = record { kind = 1; side = σ; i = 0; j = 0; words = ws }

-- the step at the place of an entry
entry_step : {W : Wrapper} {k : Step} {w : Participants Mark} → At W k w → (u : Mark) (σ : ℕ) → w ≡ joint u (enterer σ) → k ≡ enter_step σ k.words
entry_step (enter {side = side} {ws = ws}) u σ e = let p : side ≡ σ = cc in λ t. record { kind = 1; side = p t; i = 0; j = 0; words = ws }
entry_step go_down u σ e = absurd (let z : ◌≡◌ {A = ℕ} 0 1 = cc in omega arith)
entry_step go_up u σ e = absurd (let z : ◌≡◌ {A = ℕ} 0 1 = cc in omega arith)
entry_step descend u σ e = absurd (let z : ◌≡◌ {A = ℕ} 0 1 = cc in omega arith)
entry_step meet u σ e = absurd (let z : ◌≡◌ {A = ℕ} 0 1 = cc in omega arith)
entry_step pass u σ e = absurd (let z : ◌≡◌ {A = ℕ} 0 1 = cc in omega arith)
entry_step leave u σ e = absurd (let z : ◌≡◌ {A = ℕ} 0 1 = cc in omega arith)
entry_step (take n q) u σ e = absurd (let z : ◌≡◌ {A = ℕ} 0 1 = cc in omega arith)

asks_words : {k : Step} {x : ℕ} {o : Tag ℕ} {v : Val ℕ} → Asks k (recv x o v) → k.words ≡ vwords v
asks_words (asks_in p q) = q

-- what the bench does there
abbrev entered : (copies : List ℕ) → Core → List ℕ → Moved
entered cs s ws = record { label = enters; val = ws; core = record { contents = s.contents; lobby = s.lobby ++ (copied cs ws ++ (record { status = down; chan = 0; val = ws } ∷ [])); shelf = s.shelf; taken = s.taken } }

module _ (c : Setting) (kn : ℕ → Bool) (sh : ℕ → List (List ℕ)) (s : Core) (σ : ℕ) (ws : List ℕ) where
  pub refused_11 : is_value ws ≡ false → settled (local c kn sh s (enter_step σ ws)) ≡ refuse 11
  unfolding local choose need ◌&◌ entry settled bind
  refused_11 p = rw p

  refused_12 : is_value ws ≡ true → every (λ w. not (is_minted w) or kn w) ws ≡ false → settled (local c kn sh s (enter_step σ ws)) ≡ refuse 12
  unfolding local choose need ◌&◌ entry settled bind
  refused_12 p q = rw (p, q)

  enters_there : is_value ws ≡ true → every (λ w. not (is_minted w) or kn w) ws ≡ true → local c kn sh s (enter_step σ ws) ≡ done (entered c.wrapper.copies s ws)
  unfolding local choose need ◌&◌ entry
  enters_there p q = rw (p, q)

-- new names that a label lacks
minus_out : (L N : List ℕ) → Eachn (Out∉ L) N → minus N L ≡ N
minus_out L [] h = refl
minus_out L (x ∷ N) h = ap (λ (c : Bool). cond c (minus N L) (x ∷ minus N L)) h.0 ∙ ap (λ (l : List ℕ). x ∷ l) (minus_out L N h.1)

module _ (b : Composition) (s : State) (e : ready b s ≡ true) where
  module _ (x : ℕ) (o : Tag ℕ) (v : Val ℕ) (R : Proc Mark []) (wr : Written (recv x o v)) where
    abbrev l : Label
    l = recv x o v

    abbrev Outcome : Step → Type 0
    Outcome k = Met (known_all s) b s l R k ⊎ ((n : ℕ) × ((step b s k).answer ≡ refusal n k.side) × Excused b s k l n)

    -- a side's entry has taken the value
    module _ (vw : View b s) (an : Answers b s vw) (u : Mark) (vv : Inv b s R l (joint u (enterer vw.c.side))) (X Y : List (Item Mark)) (is : (conf_of b s).items ≡ X ++ entering-item ids (wrapper_of b) vw.c.side ∷ Y)
        (n : fill (conf_of b s).boxes (at (X ++ item 0 (ppar (entering-item ids (wrapper_of b) vw.c.side).what
        (sends inert (wrapper_of b).copies (vren v vv.perm.to) (pout inert 0 (plain (ichild (own_name vw.c.side))) (vren v vv.perm.to)))) ∷ Y)) ≋ vv.next)
        (ex : vv.perm.to x ≡ (wrapper_of b).inlet vw.c.side) (eo : tren o vv.perm.to ≡ plain iparent) where
      abbrev ws : List ℕ
      ws = vwords v

      abbrev asked : Step
      asked = enter_step vw.c.side (vwords v)

      abbrev moved : Moved
      moved = entered (wrapper_of b).copies vw.core (vwords v)

      abbrev cs : List ℕ
      cs = (wrapper_of b).copies

      abbrev J : List (Item Mark)
      J = X ++ item 0 (ppar (entering-item ids (wrapper_of b) vw.c.side).what (sends inert cs (vren v vv.perm.to) (pout inert 0 (plain (ichild (own_name vw.c.side))) (vren v vv.perm.to)))) ∷ Y

      -- the value may enter
      module _ (iv : is_value ws ≡ true) (kv : every (λ w. not (is_minted w) or known s w) ws ≡ true) where
        kept : vren v vv.perm.to ≡ v
        kept = vren-agree v vv.perm.to (λ y. y) (AllV-map v (λ y h. vv.keeps y h) (names_known v wr iv b s e kv)) ∙ vren-id v

        label_is : lren l vv.perm.to ≡ recv ((wrapper_of b).inlet vw.c.side) (plain iparent) v
        label_is = λ i. recv (ex i) (eo i) (kept i)

        new_kept : minus (new_of b s) (lnames (lren l vv.perm.to)) ≡ new_of b s
        unfolding is_value
        new_kept = subst (λ (y : Label). minus (new_of b s) (lnames y) ≡ new_of b s) (sym label_is) (minus_out ((wrapper_of b).inlet vw.c.side ∷ names v) (new_of b s)
            (subst (λ (y : Val ℕ). Eachn (Out∉ ((wrapper_of b).inlet vw.c.side ∷ names y)) (new_of b s)) (same_value_lem v wr iv)
            (enter_fresh b s (few b s e) ws ((wrapper_of b).inlet vw.c.side) (inwards_low b s e vw) (shaped_items ws (snd _ _ iv)) (shaped_words ws (snd _ _ iv)) kv)))

        bag : Bag (ritems forget J) (ritems forget (conf_of b (vw.next moved.core vw.left)).items)
        bag = bag_trans (sent_of (All b s) (conf_of b s).boxes (wf_all b s e) (rooted_all b s e) X Y (entering-item ids (wrapper_of b) vw.c.side).what cs 0 (ichild (own_name vw.c.side)) (vren v vv.perm.to))
            (bag_trans (bag_eq (ap₂ (λ (y : Val ℕ) (r : List (Item (Unit {0}))). copy_items tt cs y ++ item 0 (pout tt 0 (plain (ichild (own_name vw.c.side))) y) ∷ r) (kept ∙ sym (same_value_lem v wr iv))
            (ap (ritems forget) (sym is ∙ vw.items_now) ∙ whole° (wrapper_of b) vw.c.side vw.c.table vw.C vw.D vw.core)))
            (bag_trans (add_sent (wrapper_of b) vw.c.side vw.c.table vw.C vw.D vw.core cs ws (copies_log b.wrapper) vw.core.lobby (record { status = down; chan = 0; val = ws }) vw.core.contents.particles)
            (bag_eq (sym (vw.items_next moved.core vw.left refl refl)))))

        is_entered : local vw.c (known s) (shelf_of s) vw.core asked ≡ done moved
        is_entered = enters_there vw.c (known s) (shelf_of s) vw.core vw.c.side ws iv kv ∙ ap (λ (w : Wrapper). done (entered w.copies vw.core ws)) an.wrapper_is

        met : settled (done moved) ≡ done moved → Met (known_all s) b s l R asked
        met st = record {
          names = rename_of vv;
          label = subst₂ (λ (r : Result) (y : Label). Says (wrapper_of b) r.answer y) (sym there) (sym label_is) (says_in refl (usual_names v (names_ok v wr iv)));
          side = ap (λ (r : Result). answer_side r.answer) there;
          target = subst (λ (t : State). plainly (ren {r = []} R vv.perm.to) ≋ plainly (process (conf_of b t))) (sym (ap (λ (r : Result). r.after) there))
              (kept_target b s e vv new_kept J n (vw.next moved.core vw.left) (new_same vw moved.core refl) (vw.boxes_next moved.core vw.left refl) bag);
        }
          where
            there : step b s asked ≡ record { answer = labelled enters vw.c.side ws; after = vw.next moved.core vw.left }
            there = an.is_done_lem asked moved refl (ap settled is_entered ∙ st)

        in_room : (settled (done moved) ≡ done moved) ⊎ ((settled (done moved) ≡ refuse 17) × (17 ≤ length moved.core.lobby)) → Outcome asked
        in_room (inl st) = inl (met st)
        in_room (inr r) = inr (
          17,
          an.is_refused_lem asked 17 refl (ap settled is_entered ∙ r.0),
          by_17 (enter_full {k = asked} refl (subst (λ (c : Core). 16 ≤ length c.lobby + length cs) (sym an.core_is) over)),
        )
          where
            over : 16 ≤ length vw.core.lobby + length cs
            over = let M : List Message = record { status = down; chan = 0; val = ws } ∷ [] in
                omega (arith, r.1, length-append vw.core.lobby (copied cs ws ++ M), length-append (copied cs ws) M, length_copied cs ws)

      outcome : (t : Bool) → is_value ws ≡ t → (c : Bool) → every (λ w. not (is_minted w) or known s w) ws ≡ c → Outcome asked
      outcome false p c q = inr (11, an.is_refused_lem asked 11 refl (refused_11 vw.c (known s) (shelf_of s) vw.core vw.c.side ws p), ⊎_elim (λ h. by_11_long refl h) (λ h. by_11_name refl h) (no_value v p))
      outcome true p false q = inr (12, an.is_refused_lem asked 12 refl (refused_12 vw.c (known s) (shelf_of s) vw.core vw.c.side ws p q), by_12 refl (unknown_name s v q))
      outcome true p true q = in_room p q (lobby_put vw.c (counts s) vw.core vw.ok moved.core.lobby vw.core.taken moved refl)

      finish : Completed b s l (joint u (enterer vw.c.side)) R
      finish = (
        (asked, enter, asks_in refl refl),
        λ k atk ask. subst Outcome (sym (entry_step atk u vw.c.side refl ∙ ap (enter_step vw.c.side) (asks_words ask))) (outcome (is_value ws) refl (every (λ w. not (is_minted w) or known s w) ws) refl),
      )

    -- COMPLETE, for what the environment says
    pub complete_in : {w : Participants Mark} → Trans (known_all s) (process (conf_of b s)) (recv x o v) w R → Completed b s (recv x o v) w R
    complete_in {w} d = let t = entry_of b s e d in by-entry t.0 t.1
      where
        by-entry : (vv : Inv b s R l w) → Entry b s e vv → Completed b s l w R
        by-entry vv n =
            let vw = n.vw in
            let r = n.by in
            let a = n.place in
            let who : w ≡ joint r.u (enterer vw.c.side) = r.who ∙ ap (λ (A : Proc Mark []). joint r.u (mark_in A)) n.is in
            subst (λ (y : Participants Mark). Completed b s l y R) (sym who)
            (finish vw n.an r.u (inv_at who vv) a.X a.Y (a.is ∙ ap (λ (A : Proc Mark []). a.X ++ item 0 A ∷ a.Y) n.is)
            (trans (symm (subst (λ (A : Proc Mark []). fill (conf_of b s).boxes
            (upd (λ k. parallel (select (conf_of b s).items k)) 0 (parallel (set (select (conf_of b s).items 0) r.i r.Q))) ≋ fill (conf_of b s).boxes (at (a.X ++ item 0 A ∷ a.Y)))
            (forwarded (wrapper_of b).copies r.P (enterer vw.c.side) ((wrapper_of b).inlet vw.c.side) iparent 0 (ichild (own_name vw.c.side)) n.is (vren v vv.perm.to) r.Q r.got)
            (one_changed (conf_of b s).boxes (conf_of b s).items 0 r.i r.P r.Q a))) r.to)
            n.on n.tagged)
