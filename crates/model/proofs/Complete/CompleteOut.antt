-- Demand 2, second half, for the labels that leave: each transition that sends to the environment has a step at its place, and that step answers its label and leads where it leads.
use mathlib.Core.Path.{◌≡◌, refl, sym, ap, ap₂, ◌∙◌, subst, subst₂}
use mathlib.Core.Bool.{Bool, true, false, cond}
use mathlib.Core.List.{List, [], ◌∷◌, ◌++◌}
use mathlib.Core.Logic.{inl}
use mathlib.Core.Option.{some}
use Prim.Native.Nat.{ℕ, suc}
use native.Mathlib.Omega.{arith}
use lib.Dec.{eqb}
use lib.ListN.{get_elem?, set}
use Rattle.calculus.specs.Syntax.{Val, Tag, plain, received_child, Proc, AllT, tren, vren, ren, remark}
use Rattle.calculus.specs.Syntax.{nil as pnil, out as pout, parent as iparent, child as ichild}
use Rattle.calculus.specs.Congruence.{◌≋◌, symm, trans}
use Rattle.calculus.specs.Transitions.{Label, send, Participants, lone, In, names, lnames, restrict}
use Rattle.calculus.specs.Transitions.{Step as Trans}
use Rattle.calculus.specs.Tree.{Place, fill, upd}
use Rattle.calculus.specs.Parallel.{parallel}
use Rattle.calculus.specs.Tree.{Item, select}
use Rattle.calculus.specs.Tree.{process}
use Rattle.model.specs.Basics.{◌or◌, done, need, choose, has, remove}
use Rattle.model.specs.Values.{is_value, shaped}
use Rattle.model.specs.Wrapper.{Wrapper, has_side}
use Rattle.model.specs.Side.{State, side, Message, Core, down, arrived, leaving, Status as SPlace}
use Rattle.model.specs.Load.{Composition, wrapper_of, Setting}
use Rattle.model.specs.WellFormed.{counts, shelf_of, wf_message, wf_value, ready}
use Rattle.model.specs.Step.{Step, leaving_on, labelled, Result, local, inner, leave, is_leaving, step, known, mark_all}
use Rattle.model.specs.Process.{Mark, lobby, own_name, leaves_as, is_gone, val_of, conf_as, conf_of, new_of, msg_proc, msg_item, shelf_item, shelf_items}
use Rattle.model.specs.Agreement.{renamed, plainly, At, asks_out, Says, Met, answer_side, enter, go_down, go_up, descend, meet, pass, take, leave as leave_at}
use Rattle.calculus.proofs.Renaming.{AllT-map, AllT-ren}
use Rattle.calculus.proofs.FreeNames.{step_tag}
use Rattle.calculus.proofs.Extrusion.{in_news}
use Rattle.calculus.proofs.Marks.{remark_cong}
use Rattle.calculus.proofs.Equivariance.{lren}
use Rattle.calculus.proofs.Restriction.{RestrictInv, minus}
use Rattle.calculus.proofs.TreeMoves.{Move, sends}
use Rattle.calculus.proofs.Bags.{item, at, Bag, bag_eq, bag_trans, ritems, ritems_app}
use Rattle.model.proofs.Basics.Tests.{fst, snd, every_remove, length_remove, get_every, not_empty, head_eq, tail_eq}
use Rattle.model.proofs.Formed.Growing.{wf_in}
use Rattle.model.proofs.Formed.Keeping.{shaped_words}
use Rattle.model.proofs.Basics.Items.{shaped_items}
use Rattle.model.proofs.Formed.Invariant.{settled_is, core_short, core_limits, copies_log}
use Rattle.model.proofs.Processes.KnownNames.{known_all, All}
use Rattle.model.proofs.Basics.Splits.{get_pick}
use Rattle.model.proofs.Processes.StateTree.{few}
use Rattle.model.proofs.Sound.ItemMoves.{ids, forget, target, gone_bag}
use Rattle.model.proofs.Sound.StateMoves.{same_bags, wf_all}
use Rattle.model.proofs.Sound.NamesLeaving.{new_left}
use Rattle.model.proofs.Sound.SideViews.{View}
use Rattle.model.proofs.Sound.Labels.{left_says}
use Rattle.model.proofs.Sound.SideSteps.{left_marks, left_here, left_low}
use Rattle.model.proofs.Complete.StateInversion.{transitions, target_of, rename_of, item_at, ItemAt, atoms_at, items_atoms, fn_sel}
use Rattle.model.proofs.Sound.AskedValues.{value_written, not_strange}
use Rattle.model.proofs.Complete.Completing.{Completed, Inv, inv_at, Answers, own_unknown, what_eq, tag_in, chan_in, val_in, mark_in}
use Rattle.model.proofs.Complete.WrapperLevel.{Sent, of_lobby, of_shelf, output_is}
use Rattle.model.proofs.Complete.ItemPlaces.{one_changed}

-- the step at the place of a lobby message's output
lobby_step : {W : Wrapper} {k : Step} {w : Participants Mark} → At W k w → (σ j : ℕ) → w ≡ lone (lobby σ j) → k ≡ record { kind = 7; side = σ; i = j; j = 0; words = [] }
lobby_step enter σ j e = absurd (let z : ◌≡◌ {A = ℕ} 0 1 = cc in omega arith)
lobby_step go_down σ j e = absurd (let z : ◌≡◌ {A = ℕ} 0 1 = cc in omega arith)
lobby_step go_up σ j e = absurd (let z : ◌≡◌ {A = ℕ} 0 1 = cc in omega arith)
lobby_step descend σ j e = absurd (let z : ◌≡◌ {A = ℕ} 0 1 = cc in omega arith)
lobby_step meet σ j e = absurd (let z : ◌≡◌ {A = ℕ} 0 1 = cc in omega arith)
lobby_step pass σ j e = absurd (let z : ◌≡◌ {A = ℕ} 0 1 = cc in omega arith)
lobby_step (leave_at {side = side} {i = i}) σ j e =
    let p : side ≡ σ = cc in
    let q : i ≡ j = cc in
    λ t. record { kind = 7; side = p t; i = q t; j = 0; words = [] }
lobby_step (take n q) σ j e = absurd (let z : ◌≡◌ {A = ℕ} 0 1 = cc in omega arith)

abbrev leaving_step : ℕ → ℕ → Step
leaving_step σ j = record { kind = 7; side = σ; i = j; j = 0; words = [] }

-- what the bench does there
leaves_there : (c : Setting) (kn : ℕ → Bool) (sh : ℕ → List (List ℕ)) (s : Core) (j : ℕ) (m : Message) → get_elem? s.lobby j ≡ some m → m.status ≡ leaving
    → local c kn sh s (leaving_step c.side j) ≡ done (record { label = leaving_on m.chan; val = m.val; core = record { contents = s.contents; lobby = remove s.lobby j; shelf = s.shelf; taken = s.taken } })
unfolding local inner choose need leave
leaves_there c kn sh s j m g p = get_pick s.lobby j _ m g
    ∙ ap (λ (x : SPlace). need (is_leaving x) 13 (done (record { label = leaving_on m.chan; val = m.val; core = record { contents = s.contents; lobby = remove s.lobby j; shelf = s.shelf; taken = s.taken } }))) p

module _ (b : Composition) (s : State) (e : ready b s ≡ true) where
  -- a leaving message of a side
  module _ (vw : View b s) (answers : Answers b s vw)
      (j : ℕ) (m : Message) (g : get_elem? vw.core.lobby j ≡ some m) (pl : m.status ≡ leaving) where
    k0 : Core
    k0 = record { contents = vw.core.contents; lobby = remove vw.core.lobby j; shelf = vw.core.shelf; taken = vw.core.taken }

    s' : State
    s' = vw.next k0 (mark_all vw.left m.val)

    there : step b s (leaving_step vw.c.side j) ≡ record { answer = labelled (leaving_on m.chan) vw.c.side m.val; after = s' }
    unfolding s' k0
    there = answers.is_done_lem (leaving_step vw.c.side j) (record { label = leaving_on m.chan; val = m.val; core = k0 }) refl
        (settled_is _ _ (record {
          is = leaves_there vw.c (known s) (shelf_of s) vw.core j m g pl;
          short_outputs = core_short vw.c (counts s) vw.core vw.ok;
          few = core_limits vw.c (counts s) k0 (record {
            contents = vw.ok.contents;
            few_lobby = omega (arith, vw.ok.few_lobby, length_remove vw.core.lobby j);
            lobby = every_remove _ vw.core.lobby j vw.ok.lobby;
            few_shelf = vw.ok.few_shelf;
            shelf = vw.ok.shelf;
            whose = vw.ok.whose;
          });
        })) ∙ ap (λ (q : List Bool). record { answer = labelled (leaving_on m.chan) vw.c.side m.val; after = vw.next k0 q }) (left_marks m.chan m.val vw.left)

    m_ok : wf_in vw.c (counts s) m ≡ true
    m_ok = get_every (wf_in vw.c (counts s)) vw.core.lobby j m vw.ok.lobby g

    v_ok : wf_value (counts s) m.val ≡ true
    unfolding wf_message
    v_ok = fst _ _ m_ok

    on_channel : eqb m.chan 1 or has m.chan (wrapper_of b).copies ≡ true
    on_channel = left_here vw m pl m_ok

    -- the environment's name of the channel
    abbrev ch : ℕ
    ch = leaves_as (wrapper_of b) vw.c.side m.chan

    v_shaped : shaped m.val ≡ true
    unfolding wf_value is_value
    v_shaped = snd _ _ (fst _ _ v_ok)

    process_of_lem : (t : State) → process (conf_of b t) ≡ restrict (new_of b t) (fill (conf_of b t).boxes (at (conf_of b t).items))
    unfolding process conf_as
    process_of_lem t = refl

    pub left_met : {l : Label} {R : Proc Mark []} (v : RestrictInv (new_of b s) (known_all s) (fill (conf_of b s).boxes (at (conf_of b s).items)) R l (lone (lobby vw.c.side j)))
        → lren l v.perm.to ≡ send ch (plain iparent) (val_of m.val) → renamed l v.perm.to ≡ lren l v.perm.to
        → (J : List (Item Mark)) → fill (conf_of b s).boxes (at J) ≋ v.next → Bag (ritems forget J) (target (wrapper_of b) vw.c.side vw.c.table vw.C vw.D vw.core (remove vw.core.lobby j) vw.core.contents.particles)
        → Met (known_all s) b s l R (leaving_step vw.c.side j)
    unfolding s' k0
    left_met {l} {R} v el er J n bag = record {
      names = rename_of v;
      label = subst₂ (λ (r : Result) (y : Label). Says (wrapper_of b) r.answer y) (sym there) (sym (er ∙ el))
          (left_says (wrapper_of b) (copies_log b.wrapper) vw.c.side m.chan on_channel m.val (val_of m.val) (value_written (counts s) m.val v_ok) (not_strange (counts s) m.val v_ok));
      side = ap (λ (r : Result). answer_side r.answer) there;
      target = subst (λ (t : State). plainly (ren {r = []} R v.perm.to) ≋ plainly (process (conf_of b t))) (sym (ap (λ (r : Result). r.after) there)) leads;
    }
      where
        N' : List ℕ
        N' = minus (new_of b s) (ch ∷ names (val_of m.val))

        new_is : new_of b (vw.next k0 (mark_all vw.left m.val)) ≡ N'
        new_is = new_left b s (vw.next k0 (mark_all vw.left m.val)) ch m.val (few b s e) (left_low b s e vw m.chan on_channel) (shaped_items m.val v_shaped)
            (shaped_words m.val v_shaped) (vw.minted_next k0 (mark_all vw.left m.val) refl) (vw.known_next k0 m.val)

        leads : plainly (ren {r = []} R v.perm.to) ≋ plainly (process (conf_of b (vw.next k0 (mark_all vw.left m.val))))
        leads = trans (remark_cong forget (target_of v)) (trans (remark_cong forget (subst (λ (y : Label). restrict (minus (new_of b s) (lnames y)) v.next ≋ restrict N' (fill (conf_of b s).boxes (at J))) (sym el) (in_news N' (symm n))))
            (subst (λ (P : Proc Mark []). plainly (restrict N' (fill (conf_of b s).boxes (at J))) ≋ plainly P)
            (ap₂ (λ (N : List ℕ) (B : List (Place Mark)). restrict N (fill B (at (conf_of b (vw.next k0 (mark_all vw.left m.val))).items))) (sym new_is)
            (sym (vw.boxes_next k0 (mark_all vw.left m.val) refl)) ∙ sym (process_of_lem (vw.next k0 (mark_all vw.left m.val))))
            (same_bags N' (conf_of b s).boxes J (conf_of b (vw.next k0 (mark_all vw.left m.val))).items (bag_trans bag (bag_eq (sym (vw.items_next k0 (mark_all vw.left m.val) refl refl)))))))

  -- an output of a side's lobby that the environment may take is a leaving one
  lobby_leaves : (w : Wrapper) (side i j : ℕ) (m : Message) (t : Mark) (x : ℕ) (o : Tag ℕ) (v : Val ℕ) → has_side (wrapper_of b) side ≡ true → AllT o (In (known_all s)) → pout t x o v ≡ msg_proc ids w side j m.status m.chan m.val
      → (m.status ≡ leaving) × (t ≡ lobby side j) × (x ≡ leaves_as w side m.chan) × (o ≡ plain iparent) × (v ≡ val_of m.val)
  lobby_leaves w side i j m t x o v wh h q = go m.status q
    where
      go : (p : SPlace) → pout t x o v ≡ msg_proc ids w side j p m.chan m.val → (p ≡ leaving) × (t ≡ lobby side j) × (x ≡ leaves_as w side m.chan) × (o ≡ plain iparent) × (v ≡ val_of m.val)
      go down q =
          let eo : o ≡ plain (ichild (own_name side)) = ap tag_in q in
          absurd (own_unknown b s side wh (subst (λ (z : Tag ℕ). AllT z (In (known_all s))) eo h))
      go arrived q =
          let eo : o ≡ received_child (own_name side) = ap tag_in q in
          absurd (own_unknown b s side wh (subst (λ (z : Tag ℕ). AllT z (In (known_all s))) eo h))
      go leaving q = (refl, ap mark_in q, ap chan_in q, ap tag_in q, ap val_in q)

  -- what stands in the environment besides the lobbies sends nothing that the environment may take
  shelf_no : (gone : ℕ → Bool) (side : ℕ) → has_side (wrapper_of b) side ≡ true → (n : ℕ) (l : List (List ℕ)) (X : List (Item Mark)) (t : Mark) (x : ℕ) (o : Tag ℕ) (v : Val ℕ) (Y : List (Item Mark)) →
      AllT o (In (known_all s)) → shelf_items ids gone side n l ≡ X ++ item 0 (pout t x o v) ∷ Y → ⊥
  shelf_no gone side wh n [] X t x o v Y h q = not_empty X (item 0 (pout t x o v)) Y q
  shelf_no gone side wh n (u ∷ l) X t x o v Y h q = go (gone n) X q (λ X q. shelf_no gone side wh (suc n) l X t x o v Y h q)
    where
      go : (c : Bool) (X : List (Item Mark)) → cond c [] (shelf_item ids side n u ∷ []) ++ shelf_items ids gone side (suc n) l ≡ X ++ item 0 (pout t x o v) ∷ Y →
          ((X : List (Item Mark)) → shelf_items ids gone side (suc n) l ≡ X ++ item 0 (pout t x o v) ∷ Y → ⊥) → ⊥
      go true X q ih = ih X q
      go false [] q ih =
          let eo : received_child (own_name side) ≡ o = ap (λ (z : Item Mark). tag_in z.what) (head_eq q) in
          own_unknown b s side wh (subst (λ (z : Tag ℕ). AllT z (In (known_all s))) (sym eo) h)
      go false (y ∷ X) q ih = ih X (tail_eq q)

  gone_plain : (X Y : List (Item Mark)) → Bag (ritems forget (X ++ item 0 pnil ∷ Y)) (ritems forget X ++ ritems forget Y)
  unfolding remark
  gone_plain X Y = bag_trans (bag_eq (ritems_app forget X (item 0 pnil ∷ Y))) (gone_bag (ritems forget X) 0 (ritems forget Y))

  module _ (x : ℕ) (o : Tag ℕ) (v : Val ℕ) (R : Proc Mark []) where
    abbrev l : Label
    l = send x o v

    finish : (vw : View b s) → Answers b s vw
        → (t : Mark) (vv : Inv b s R l (lone t)) (x' : ℕ) (o' : Tag ℕ) (v' : Val ℕ) → lren l vv.perm.to ≡ send x' o' v' → AllT o' (In (known_all s)) →
        (i : ℕ) (a : ItemAt (conf_of b s).items 0 i (pout t x' o' v')) → fill (conf_of b s).boxes (at (a.X ++ item 0 pnil ∷ a.Y)) ≋ vv.next
        → (j : ℕ) (m : Message) → get_elem? vw.core.lobby j ≡ some m → item 0 (pout t x' o' v') ≡ msg_item ids (wrapper_of b) vw.c.side j m
        → ritems forget a.X ++ ritems forget a.Y ≡ target (wrapper_of b) vw.c.side vw.c.table vw.C vw.D vw.core (remove vw.core.lobby j) vw.core.contents.particles → Completed b s l (lone t) R
    finish vw answers t vv x' o' v' el tg i a n j m g is gone =
        let r = lobby_leaves (wrapper_of b) vw.c.side i j m t x' o' v' vw.is_side tg (what_eq is) in
        on r.0 r.1 (el ∙ (λ z. send (r.2 z) (r.3 z) (r.4 z)))
      where
        on : m.status ≡ leaving → t ≡ lobby vw.c.side j → lren l vv.perm.to ≡ send (leaves_as (wrapper_of b) vw.c.side m.chan) (plain iparent) (val_of m.val) → Completed b s l (lone t) R
        on pl et el' = (
          (leaving_step vw.c.side j, subst (λ (z : Mark). At (wrapper_of b) (leaving_step vw.c.side j) (lone z)) (sym et) leave_at, asks_out refl),
          λ k atk ask. inl (subst (λ (z : Step). Met (known_all s) b s l R z) (sym (lobby_step atk vw.c.side j (ap lone et)))
              (met_at (lobby vw.c.side j) et)),
        )
          where
            met_at : (z : Mark) → t ≡ z → Met (known_all s) b s l R (leaving_step vw.c.side j)
            met_at z q = left_met vw answers j m g pl {l = l} {R = R} (inv_at (ap lone et) vv) el' refl (a.X ++ item 0 pnil ∷ a.Y) n (bag_trans (gone_plain a.X a.Y) (bag_eq gone))

    abbrev Mv : Proc Mark [] → Label → Participants Mark → Type 0
    Mv N y w = Move (All b s) (conf_of b s).boxes (λ k. select (conf_of b s).items k) (wf_all b s e) (atoms_at (conf_of b s).items (items_atoms ids b s e)) (fn_sel b s e) N y w

    send_inv : {N : Proc Mark []} {x' : ℕ} {o' : Tag ℕ} {v' : Val ℕ} {w : Participants Mark} → Mv N (send x' o' v') w
        → (t : Mark) × (i : ℕ) × (w ≡ lone t) × (get_elem? (select (conf_of b s).items 0) i ≡ some (pout t x' o' v')) ×
        (fill (conf_of b s).boxes (upd (λ k. parallel (select (conf_of b s).items k)) 0 (parallel (set (select (conf_of b s).items 0) i pnil))) ≋ N)
    send_inv (sends {t = t} i get eq) = (t, i, refl, get, eq)

    sent : (x' : ℕ) (o' : Tag ℕ) (v' : Val ℕ) (t : Mark) (vv : Inv b s R l (lone t)) (i : ℕ) → get_elem? (select (conf_of b s).items 0) i ≡ some (pout t x' o' v')
        → fill (conf_of b s).boxes (upd (λ k. parallel (select (conf_of b s).items k)) 0 (parallel (set (select (conf_of b s).items 0) i pnil))) ≋ vv.next
        → lren l vv.perm.to ≡ send x' o' v' → AllT o' (In (known_all s)) → Completed b s l (lone t) R
    sent x' o' v' t vv i get eq el tg =
        let a = item_at (conf_of b s).items 0 i (pout t x' o' v') get in
        let n = trans (symm (one_changed (conf_of b s).boxes (conf_of b s).items 0 i (pout t x' o' v') pnil a)) eq in
        by_output a n (output_is b s e a.X a.Y (pout t x' o' v') a.is refl)
      where
        by_output : (a : ItemAt (conf_of b s).items 0 i (pout t x' o' v')) → fill (conf_of b s).boxes (at (a.X ++ item 0 pnil ∷ a.Y)) ≋ vv.next → Sent b s a.X (pout t x' o' v') a.Y → Completed b s l (lone t) R
        by_output a n (of_lobby vw an j m g is gone put) = finish vw an t vv x' o' v' el tg i a n j m g is gone
        by_output a n (of_shelf σ h X1 Y1 q ex ey) = absurd (shelf_no (is_gone s σ) σ h 0 (side s σ).core.shelf X1 t x' o' v' Y1 tg q)

    -- COMPLETE, for what the environment hears
    pub complete_out : {w : Participants Mark} → Trans (known_all s) (process (conf_of b s)) (send x o v) w R → Completed b s (send x o v) w R
    complete_out {w} d =
        let t = transitions b s e R d in
        let r = send_inv t.1 in
        let vv = t.0 in
        subst (λ (y : Participants Mark). Completed b s (send x o v) y R) (sym r.2)
        (sent (vv.perm.to x) (tren o vv.perm.to) (vren v vv.perm.to) r.0
        (inv_at r.2 vv)
        r.1 r.3 r.4 refl (AllT-ren o vv.perm.to (In (known_all s)) (AllT-map o (λ y h. subst (In (known_all s)) (sym (vv.keeps y h)) h) (step_tag d))))
