-- A side's own steps as moves among the items.
use mathlib.Core.Path.{◌≡◌, refl, sym, ap, ap₂, ◌∙◌, subst}
use mathlib.Core.Bool.{Bool, true, false, not, cond, false≢true}
use mathlib.Core.List.{List, [], ◌∷◌, ◌++◌, append_assoc}
use mathlib.Core.Logic.{⊎_elim}
use mathlib.Core.Option.{some}
use Prim.Native.Nat.{ℕ, zero, suc, ◌≤◌}
use native.Mathlib.Omega.{arith}
use borrow.Author.Tests.{eqb-true, ne_eqb, not-true}
use lib.Dec.{eqb}
use lib.ListN.{length, set, get_elem?}
use Rattle.calculus.specs.Syntax.{plain, received_child}
use Rattle.calculus.specs.Syntax.{out as pout, parent as iparent, child as ichild}
use Rattle.calculus.specs.Transitions.{tau, send, recv, Participants, lone, joint}
use Rattle.calculus.specs.Tree.{Place}
use Rattle.calculus.specs.Tree.{Item}
use Rattle.calculus.specs.Wrappers.{out_name}
use Rattle.model.specs.Basics.{◌or◌, done, every, remove, pick}
use Rattle.model.specs.Side.{Particle, output, input, Box, Message, down, arrived, leaving, Core, Status as SPlace, Tag as STag, within, to_parent, from_parent, to_child, from_child}
use Rattle.model.specs.Load.{Setting}
use Rattle.model.specs.Step.{Moved, silent, enters, leaving_on, copied, enter, go_down, is_down, up_from, up_particle, up, descend_particle, descend, pass, leave, is_arrived, is_leaving, is_to_parent, is_to_child}
use Rattle.model.specs.Wrapper.{Wrapper, shelves}
use Rattle.model.specs.Process.{Mark, part, boxed, lobby, enterer, passer, own_name, leaves_as, site_of, val_of, part_item, msg_proc, side_items, place_of, enters as entering, passes as passing}
use Rattle.calculus.proofs.Trees.{Wf, Reach, Has}
use Rattle.calculus.proofs.Moves.{Rooted}
use Rattle.calculus.proofs.Bags.{item, Bag, bag_app, bag_refl, bag_eq, bag_trans, bag_sym, bag_cons, bag_mid, ritems, ritems_app}
use Rattle.model.proofs.Basics.Tests.{fst, snd, need_done, choose_done}
use Rattle.calculus.proofs.Forwarders.{copy_items}
use Rattle.model.proofs.Formed.Keeping.{is_log, done_inj}
use Rattle.model.proofs.Basics.Items.{clash}
use Rattle.model.proofs.Processes.ItemFacts.{Each}
use Rattle.model.proofs.Basics.Splits.{pick_get}
use Rattle.model.proofs.Sound.ItemMoves.{ids, forget, Moves, moves_to, place, go_out, go_up_lem, go_into, go_in, go_on, whole, target, whole°, lobby_at, PartAt, part_at, add_part, add_msg, add_msgs, add_sent, copied_items}

is_down_lem : (p : SPlace) → is_down p ≡ true → p ≡ down
is_down_lem down e = refl
is_down_lem arrived e = absurd (false≢true e)
is_down_lem leaving e = absurd (false≢true e)

is_arrived_lem : (p : SPlace) → is_arrived p ≡ true → p ≡ arrived
is_arrived_lem down e = absurd (false≢true e)
is_arrived_lem arrived e = refl
is_arrived_lem leaving e = absurd (false≢true e)

is_leaving_lem : (p : SPlace) → is_leaving p ≡ true → p ≡ leaving
is_leaving_lem down e = absurd (false≢true e)
is_leaving_lem arrived e = absurd (false≢true e)
is_leaving_lem leaving e = refl

is_toParent : (g : STag) → is_to_parent g ≡ true → g ≡ to_parent
is_toParent within e = absurd (false≢true e)
is_toParent to_parent e = refl
is_toParent from_parent e = absurd (false≢true e)
is_toParent (to_child n) e = absurd (false≢true e)
is_toParent (from_child n) e = absurd (false≢true e)

is_toChild : (g : STag) (n : ℕ) → is_to_child g n ≡ true → g ≡ to_child n
is_toChild within n e = absurd (false≢true e)
is_toChild to_parent n e = absurd (false≢true e)
is_toChild from_parent n e = absurd (false≢true e)
is_toChild (to_child m) n e = ap to_child (eqb-true m n e)
is_toChild (from_child m) n e = absurd (false≢true e)

pub first_box : {A : Type 0} (l : List A) → 1 ≤ length l → (x : A) × (get_elem? l 0 ≡ some x)
first_box [] h = absurd (omega arith)
first_box (x ∷ l) h = (x, refl)

module _ (A : List ℕ) (bs : List (Place Mark)) (wf : Wf A bs) (ro : Rooted bs) (root : Reach bs 0) (w : Wrapper) (c : Setting) (C D : List (Item Mark)) (s : Core)
    (each : Each A (whole w c.side c.table C D s)) (box0 : 1 ≤ length s.contents.boxes) (has : (j : ℕ) (x : Box) → get_elem? s.contents.boxes j ≡ some x → Has (place_of ids c.side j x) bs) where
  abbrev I : List (Item Mark)
  I = whole w c.side c.table C D s

  abbrev pub aim : List Message → List Particle → List (Item (Unit {0}))
  aim l p = target w c.side c.table C D s l p

  -- a silent step that leaves boxes, names, shelf and taken marks alone
  pub record Quiet (who : Participants Mark) (m : Moved) : Type 0 where
    pub moves : Moves A bs I tau who (aim m.core.lobby m.core.contents.particles)
    pub label : m.label ≡ silent
    pub val : m.val ≡ []
    pub boxes : m.core.contents.boxes ≡ s.contents.boxes
    pub minted : m.core.contents.minted ≡ s.contents.minted
    pub shelf_same : m.core.shelf ≡ s.shelf
    pub taken : m.core.taken ≡ s.taken

  has0 : Has (place (site_of c.side 0) 0 (own_name c.side) (boxed c.side 0)) bs
  has0 = let f = first_box s.contents.boxes box0 in has 0 f.0 f.1

  hasj : (j : ℕ) (x : Box) → eqb j 0 ≡ false → get_elem? s.contents.boxes j ≡ some x → Has (place (site_of c.side j) (site_of c.side x.parent) x.name (boxed c.side j)) bs
  hasj j x z e = subst (λ (t : Bool). Has (place (site_of c.side j) (cond t 0 (site_of c.side x.parent)) (cond t (own_name c.side) x.name) (boxed c.side j)) bs) z (has j x e)

  pub down_quiet : (i : ℕ) (m : Moved) → go_down s i ≡ done m → Quiet (joint (lobby c.side i) (boxed c.side 0)) m
  unfolding go_down
  down_quiet i m e =
      let (n, g, e1) = pick_get s.lobby i _ m e in
      let a = need_done _ _ _ _ e1 in
      let at = lobby_at w c.side c.table C D s i n g in
      let is_it = at.is ∙ ap (λ (p : SPlace). (C ++ at.X) ++ item 0 (msg_proc ids w c.side i p n.chan n.val) ∷ at.Y) (is_down_lem n.status a.0) in
      subst (λ (x : Moved). Quiet (joint (lobby c.side i) (boxed c.side 0)) x) (done_inj a.1) (record {
        moves = moves_to (go_into A bs wf ro (place (site_of c.side 0) 0 (own_name c.side) (boxed c.side 0)) has0 each (record { X = C ++ at.X; Y = at.Y; is = is_it; rest_is = at.gone }))
            (add_part w c.side c.table C D s (remove s.lobby i) s.contents.particles (output 0 n.chan from_parent n.val));
        label = refl;
        val = refl;
        boxes = refl;
        minted = refl;
        shelf_same = refl;
        taken = refl;
      })

  put_back : (X Y : List (Item Mark)) (q : Item (Unit {0})) (t : List (Item (Unit {0}))) → ritems forget X ++ q ∷ ritems forget Y ≡ t → Bag (q ∷ (ritems forget X ++ ritems forget Y)) t
  put_back X Y q t e = bag_trans (bag_sym (bag_mid (ritems forget X) q (ritems forget Y))) (bag_eq e)

  part_found : (i b ch : ℕ) (g h : STag) (v : List ℕ) → g ≡ h → (at : PartAt w c.side c.table C D s i (output b ch g v)) → I ≡ at.X ++ part_item ids c.table c.side i (output b ch h v) ∷ at.Y
  part_found i b ch g h v q at = at.is ∙ ap (λ (t : STag). at.X ++ part_item ids c.table c.side i (output b ch t v) ∷ at.Y) q

  -- out of an inner box
  pub up_quiet : (i b ch : ℕ) (g : STag) (v : List ℕ) (m : Moved) → get_elem? s.contents.particles i ≡ some (output (suc b) ch g v) → is_to_parent g ≡ true → up_from c s i (suc b) ch v ≡ done m → Quiet (lone (part c.side i)) m
  unfolding up_from
  up_quiet i b ch g v m get tp e =
      let (x, gx, e1) = pick_get s.contents.boxes (suc b) _ m e in
      let at = part_at w c.side c.table C D s i (output (suc b) ch g v) get in
      subst (λ (y : Moved). Quiet (lone (part c.side i)) y) (done_inj e1) (record {
        moves = moves_to (go_up_lem A bs wf ro (place (site_of c.side (suc b)) (site_of c.side x.parent) x.name (boxed c.side (suc b))) (hasj (suc b) x (ne_eqb (suc b) 0 (λ q. omega arith)) gx) each
            (record { X = at.X; Y = at.Y; is = part_found i (suc b) ch g to_parent v (is_toParent g tp) at; rest_is = refl }))
            (put_back at.X at.Y _ _ (at.put (output x.parent ch (from_child x.name) v)));
        label = refl;
        val = refl;
        boxes = refl;
        minted = refl;
        shelf_same = refl;
        taken = refl;
      })

  -- out of box 0
  pub up_zero : (i ch : ℕ) (g : STag) (v : List ℕ) → get_elem? s.contents.particles i ≡ some (output 0 ch g v) → is_to_parent g ≡ true
      → Moves A bs I tau (lone (part c.side i)) (item 0 (pout tt ch (received_child (own_name c.side)) (val_of v)) ∷ aim s.lobby (remove s.contents.particles i))
  up_zero i ch g v get tp =
      let at = part_at w c.side c.table C D s i (output 0 ch g v) get in
      go_up_lem A bs wf ro (place (site_of c.side 0) 0 (own_name c.side) (boxed c.side 0)) has0 each (record { X = at.X; Y = at.Y; is = part_found i 0 ch g to_parent v (is_toParent g tp) at; rest_is = at.gone })

  -- what an `up` does, where it is not to the shelf
  pub data Up (i : ℕ) (m : Moved) : Type 0 where
    quiet : Quiet (lone (part c.side i)) m → Up i m
    shelved : (g : STag) (v : List ℕ) → shelves c.wrapper c.side ≡ true → get_elem? s.contents.particles i ≡ some (output 0 2 g v) → is_to_parent g ≡ true
        → m ≡ record {
          label = silent;
          val = [];
          core = record { contents = record { particles = remove s.contents.particles i; boxes = s.contents.boxes; minted = s.contents.minted }; lobby = s.lobby; shelf = s.shelf ++ (v ∷ []); taken = s.taken };
        } → Up i m

  up_at : (i b ch : ℕ) (g : STag) (v : List ℕ) (m : Moved) → get_elem? s.contents.particles i ≡ some (output b ch g v) → is_to_parent g ≡ true → up_from c s i b ch v ≡ done m → Up i m
  unfolding up_from
  up_at i (suc b) ch g v m get tp e = quiet (up_quiet i b ch g v m get tp e)
  up_at i zero ch g v m get tp e = ⊎_elim
      (λ p. let ch2 = eqb-true ch 2 (snd _ _ p.0) in
      shelved g v (fst _ _ p.0) (subst (λ (x : ℕ). get_elem? s.contents.particles i ≡ some (output 0 x g v)) ch2 get) tp (sym (done_inj p.1)))
      (λ p. quiet (subst (λ (y : Moved). Quiet (lone (part c.side i)) y) (done_inj p.1) (record {
        moves = moves_to (up_zero i ch g v get tp) (add_msg w c.side c.table C D s s.lobby (record { status = arrived; chan = ch; val = v }) (remove s.contents.particles i));
        label = refl;
        val = refl;
        boxes = refl;
        minted = refl;
        shelf_same = refl;
        taken = refl;
      })))
      (choose_done _ _ _ _ e)

  pub up_moves : (i : ℕ) (m : Moved) → up c s i ≡ done m → Up i m
  unfolding up up_particle
  up_moves i m e = let (p, g, e1) = pick_get s.contents.particles i (up_particle c s i) m e in go p g e1
    where
      go : (p : Particle) → get_elem? s.contents.particles i ≡ some p → up_particle c s i p ≡ done m → Up i m
      go (output b ch g v) get e = let a = need_done _ _ _ _ e in up_at i b ch g v m get a.0 a.1
      go (input b n vs) get e = absurd (clash e)

  pub descend_quiet : (i j : ℕ) (m : Moved) → descend s i j ≡ done m → Quiet (joint (part c.side i) (boxed c.side j)) m
  unfolding descend descend_particle
  descend_quiet i j m e =
      let (p, g, e1) = pick_get s.contents.particles i (λ p. pick s.contents.boxes j λ x. descend_particle s i j x p) m e in
      let (x, gx, e2) = pick_get s.contents.boxes j (λ x. descend_particle s i j x p) m e1 in go p x g gx e2
    where
      go : (p : Particle) (x : Box) → get_elem? s.contents.particles i ≡ some p → get_elem? s.contents.boxes j ≡ some x → descend_particle s i j x p ≡ done m → Quiet (joint (part c.side i) (boxed c.side j)) m
      go (input b n vs) x get gx e = absurd (clash e)
      go (output b ch g v) x get gx e =
          let a = need_done _ _ _ _ e in
          let z = not-true (eqb j 0) (fst _ _ a.0) in
          let pb : b ≡ x.parent = sym (eqb-true x.parent b (fst _ _ (snd _ _ a.0))) in
          let at = part_at w c.side c.table C D s i (output b ch g v) get in
          let is_it = part_found i b ch g (to_child x.name) v (is_toChild g x.name (snd _ _ (snd _ _ a.0))) at ∙ ap (λ (y : ℕ). at.X ++ part_item ids c.table c.side i (output y ch (to_child x.name) v) ∷ at.Y) pb in
          subst (λ (y : Moved). Quiet (joint (part c.side i) (boxed c.side j)) y) (done_inj a.1) (record {
            moves = moves_to (go_into A bs wf ro (place (site_of c.side j) (site_of c.side x.parent) x.name (boxed c.side j)) (hasj j x z gx) each (record { X = at.X; Y = at.Y; is = is_it; rest_is = refl }))
                (put_back at.X at.Y _ _ (at.put (output j ch from_parent v)));
            label = refl;
            val = refl;
            boxes = refl;
            minted = refl;
            shelf_same = refl;
            taken = refl;
          })

  -- out to the environment: a lobby message that leaves
  pub leave_moves : (i : ℕ) (m : Moved) → leave s i ≡ done m →
      (n : Message) × (get_elem? s.lobby i ≡ some n) × (Moves A bs I (send (leaves_as w c.side n.chan) (plain iparent) (val_of n.val)) (lone (lobby c.side i)) (aim (remove s.lobby i) s.contents.particles))
      × (n.status ≡ leaving) × (m ≡ record { label = leaving_on n.chan; val = n.val; core = record { contents = s.contents; lobby = remove s.lobby i; shelf = s.shelf; taken = s.taken } })
  unfolding leave
  leave_moves i m e =
      let (n, g, e1) = pick_get s.lobby i _ m e in
      let a = need_done _ _ _ _ e1 in
      let at = lobby_at w c.side c.table C D s i n g in
      let is_it = at.is ∙ ap (λ (p : SPlace). (C ++ at.X) ++ item 0 (msg_proc ids w c.side i p n.chan n.val) ∷ at.Y) (is_leaving_lem n.status a.0) in
      (n, g, go_out A bs wf ro each (record { X = C ++ at.X; Y = at.Y; is = is_it; rest_is = at.gone }), is_leaving_lem n.status a.0, sym (done_inj a.1))

  -- with the wrapper's inputs of this side among the others
  module _ (cl : every is_log w.copies ≡ true) (C1 C2 : List (Item Mark)) (at_pass : C ≡ C1 ++ passing ids w c.side ∷ C2) where
    pub pass_quiet : (i : ℕ) (m : Moved) → pass w.copies s i ≡ done m → Quiet (joint (lobby c.side i) (passer c.side)) m
    unfolding pass
    pass_quiet i m e =
        let (n, g, e1) = pick_get s.lobby i _ m e in
        let a = need_done _ _ _ _ e1 in
        let at = lobby_at w c.side c.table C D s i n g in
        let is_it : I ≡ (C ++ at.X) ++ item 0 (pout (lobby c.side i) out_name (received_child (own_name c.side)) (val_of n.val)) ∷ at.Y =
        at.is ∙ ap₂ (λ (p : SPlace) (x : ℕ). (C ++ at.X) ++ item 0 (msg_proc ids w c.side i p x n.val) ∷ at.Y) (is_arrived_lem n.status (fst _ _ a.0)) (eqb-true n.chan 1 (snd _ _ a.0)) in
        let is-here : I ≡ C1 ++ passing ids w c.side ∷ ((C2 ++ at.X) ++ item 0 (pout (lobby c.side i) out_name (received_child (own_name c.side)) (val_of n.val)) ∷ at.Y) =
        is_it ∙ ap (λ (L : List (Item Mark)). (L ++ at.X) ++ item 0 (pout (lobby c.side i) out_name (received_child (own_name c.side)) (val_of n.val)) ∷ at.Y) at_pass ∙ regroup C1 C2 at.X (passing ids w c.side) _ in
        let back : ritems forget (C1 ++ passing ids w c.side ∷ ((C2 ++ at.X) ++ at.Y)) ≡ ritems forget (C ++ at.X) ++ ritems forget at.Y =
        ap (ritems forget) (sym (regroup C1 C2 at.X (passing ids w c.side) at.Y) ∙ ap (λ (L : List (Item Mark)). (L ++ at.X) ++ at.Y) (sym at_pass)) ∙ ritems_app forget (C ++ at.X) at.Y in
        subst (λ (x : Moved). Quiet (joint (lobby c.side i) (passer c.side)) x) (done_inj a.1) (record {
          moves = moves_to (go_on A bs wf ro w.copies (w.outlet c.side) iparent (val_of n.val) out_name (ichild (own_name c.side)) root C1 (C2 ++ at.X) at.Y is-here each)
              (bag_trans (bag_app (bag_eq (sym (copied_items w c.side c.table C D s w.copies n.val cl)))
              (bag_trans (bag_cons _ (bag_eq back)) (put_back (C ++ at.X) at.Y _ _ (at.put (record { status = leaving; chan = 1; val = n.val })))))
              (add_msgs w c.side c.table C D s (set s.lobby i (record { status = leaving; chan = 1; val = n.val })) (copied w.copies n.val) s.contents.particles));
          label = refl;
          val = refl;
          boxes = refl;
          minted = refl;
          shelf_same = refl;
          taken = refl;
        })
      where
        regroup : (a b x : List (Item Mark)) (p : Item Mark) (r : List (Item Mark)) → ((a ++ p ∷ b) ++ x) ++ r ≡ a ++ p ∷ ((b ++ x) ++ r)
        regroup a b x p r = simp append_assoc

  module _ (cl : every is_log w.copies ≡ true) (E1 E2 : List (Item Mark)) (at_enter : C ≡ E1 ++ entering ids w c.side ∷ E2) where
    pub enter_moves : (kn : ℕ → Bool) (ws : List ℕ) (m : Moved) (u : Mark) → enter w.copies kn s ws ≡ done m →
        (Moves A bs I (recv (w.inlet c.side) (plain iparent) (val_of ws)) (joint u (enterer c.side)) (aim (s.lobby ++ (copied w.copies ws ++ record { status = down; chan = 0; val = ws } ∷ [])) s.contents.particles))
        × (Rattle.model.specs.Values.is_value ws ≡ true) × (every (λ x. not (Rattle.model.specs.Values.is_minted x) or kn x) ws ≡ true)
        × (m ≡ record { label = enters; val = ws; core = record { contents = s.contents; lobby = s.lobby ++ (copied w.copies ws ++ record { status = down; chan = 0; val = ws } ∷ []); shelf = s.shelf; taken = s.taken } })
    unfolding enter
    enter_moves kn ws m u e =
        let a = need_done _ _ _ _ e in
        let b = need_done _ _ _ _ a.1 in (
          moves_to (go_in A bs wf ro w.copies 0 (ichild (own_name c.side)) u E1 (E2 ++ (side_items ids w c.side c.table s ++ D))
              (ap (λ (L : List (Item Mark)). L ++ (side_items ids w c.side c.table s ++ D)) at_enter ∙ append_assoc E1 (entering ids w c.side ∷ E2) (side_items ids w c.side c.table s ++ D)) each)
              (bag_trans (bag_app (bag_refl {X = copy_items tt w.copies (val_of ws)}) (bag_cons _ (bag_eq (whole° w c.side c.table C D s))))
              (add_sent w c.side c.table C D s w.copies ws cl s.lobby (record { status = down; chan = 0; val = ws }) s.contents.particles)),
          a.0,
          b.0,
          sym (done_inj b.1),
        )
