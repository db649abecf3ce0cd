-- Demand 2, second half, for an output that leaves its box: the step is Up, refused only where the lobby or the shelf is full.
use mathlib.Core.Path.{◌≡◌, refl, sym, ap, ap₂, ◌∙◌, subst}
use mathlib.Core.Bool.{Bool, true, false, not, cond, ◌&&◌, false≢true}
use mathlib.Core.List.{List, [], ◌∷◌, ◌++◌}
use mathlib.Core.Option.{some}
use Prim.Native.Nat.{ℕ, zero, suc, ◌≤◌, ◌<◌}
use native.Mathlib.Omega.{arith}
use borrow.Author.Tests.{leb-true, leb-false, ne_eqb, eqb-true}
use lib.Dec.{leb, eqb, T}
use lib.ListN.{length, get_elem?, set, length-set}
use Rattle.calculus.specs.Syntax.{Val, plain, received_child, Proc, remark}
use Rattle.calculus.specs.Syntax.{par as ppar, nil as pnil, out as pout, parent as iparent}
use Rattle.calculus.specs.Congruence.{◌≋◌, symm, trans}
use Rattle.calculus.specs.Transitions.{tau, Participants, lone}
use Rattle.calculus.specs.Parallel.{parallel}
use Rattle.calculus.specs.Tree.{Place, fill, upd}
use Rattle.calculus.specs.Tree.{Item, select}
use Rattle.model.specs.Basics.{◌&◌, need, choose, remove}
use Rattle.model.specs.Wrapper.{Wrapper, shelves}
use Rattle.model.specs.Side.{State, side, Box, Message, Particle, output, Core, limits, arrived, Tag as STag, to_parent, from_child}
use Rattle.model.specs.Load.{Composition, wrapper_of, Setting}
use Rattle.model.specs.WellFormed.{counts, wf_particle, shelf_of, ready}
use Rattle.model.specs.Step.{short, Step, local, inner, up, up_particle, up_from, known, silently, with_contents, with_lobby, with_particles}
use Rattle.model.specs.Process.{Mark, part, own_name, site_of, val_of, conf_of, new_of, place_of}
use Rattle.model.specs.Agreement.{shelves?, At, enter, go_down, go_up, descend, meet, pass, leave, take, by_17, up_full, shelf_full, parts_of}
use Rattle.calculus.proofs.FreeNames.{eqb_sym}
use Rattle.calculus.proofs.Trees.{Has, wf_has}
use Rattle.calculus.proofs.Restriction.{RestrictInv}
use Rattle.calculus.proofs.Bags.{item, at, Bag, bag_eq, bag_trans, bag_cons, ritems}
use Rattle.model.proofs.Basics.Tests.{snd, every_remove, every_set, length_remove, get_every}
use Rattle.model.proofs.Processes.KnownNames.{known_all, All}
use Rattle.model.proofs.Basics.Splits.{get_pick}
use Rattle.model.proofs.Sound.ItemMoves.{ids, forget, plain_p, target, add_msg}
use Rattle.model.proofs.Sound.StateMoves.{wf_all}
use Rattle.model.proofs.Sound.SideViews.{View}
use Rattle.model.proofs.Complete.StateInversion.{item_at, ItemAt}
use Rattle.model.proofs.Complete.ItemPlaces.{one_moved}
use Rattle.model.proofs.Complete.Completing.{Completed, Answers, site_eq}
use Rattle.model.proofs.Complete.ItemOwners.{Stands, forwarder, shelved, message, particle, stands_of}
use Rattle.model.proofs.Complete.ItemSides.{sent_part, no_forwarder, not_shelved, tag_up, limits_of, site_pos, box_of, moved_bag, put_back, one_more, few_parts, few_boxes, few_minted}
use Rattle.model.proofs.Complete.ItemSides.{all_short, val_short, Outcome, complete_at, silent_met}

abbrev up_step : ℕ → ℕ → Step
up_step σ j = record { kind = 3; side = σ; i = j; j = 0; words = [] }

-- the step at the place of a particle's output
up_place : {W : Wrapper} {k : Step} {w : Participants Mark} → At W k w → (σ j : ℕ) → w ≡ lone (part σ j) → k ≡ up_step σ j
up_place enter σ j e = absurd (let z : ◌≡◌ {A = ℕ} 0 1 = cc in omega arith)
up_place go_down σ j e = absurd (let z : ◌≡◌ {A = ℕ} 0 1 = cc in omega arith)
up_place (go_up {side = side} {i = i}) σ j e =
    let p : side ≡ σ = cc in
    let q : i ≡ j = cc in
    λ t. record { kind = 3; side = p t; i = q t; j = 0; words = [] }
up_place descend σ j e = absurd (let z : ◌≡◌ {A = ℕ} 0 1 = cc in omega arith)
up_place meet σ j e = absurd (let z : ◌≡◌ {A = ℕ} 0 1 = cc in omega arith)
up_place pass σ j e = absurd (let z : ◌≡◌ {A = ℕ} 0 1 = cc in omega arith)
up_place leave σ j e = absurd (let z : ◌≡◌ {A = ℕ} 0 1 = cc in omega arith)
up_place (take n q) σ j e = absurd (let z : ◌≡◌ {A = ℕ} 0 1 = cc in omega arith)

-- what the bench does there
up_there : (c : Setting) (kn : ℕ → Bool) (sh : ℕ → List (List ℕ)) (s : Core) (j β ch : ℕ) (v : List ℕ) → get_elem? s.contents.particles j ≡ some (output β ch to_parent v) → local c kn sh s (up_step c.side j) ≡ up_from c s j β ch v
unfolding local inner choose need up up_particle
up_there c kn sh s j β ch v g = get_pick s.contents.particles j (up_particle c s j) (output β ch to_parent v) g

to_shelf : (c : Setting) (s : Core) (j ch : ℕ) (v : List ℕ) → shelves c.wrapper c.side & eqb ch 2 ≡ true → up_from c s j 0 ch v
    ≡ silently (record { contents = with_particles s.contents (remove s.contents.particles j); lobby = s.lobby; shelf = s.shelf ++ (v ∷ []); taken = s.taken })
unfolding up_from choose
to_shelf c s j ch v h = rw h

to_lobby : (c : Setting) (s : Core) (j ch : ℕ) (v : List ℕ) → shelves c.wrapper c.side & eqb ch 2 ≡ false → up_from c s j 0 ch v
    ≡ silently (with_lobby (with_contents s (with_particles s.contents (remove s.contents.particles j))) (s.lobby ++ (record { status = arrived; chan = ch; val = v } ∷ [])))
unfolding up_from choose
to_lobby c s j ch v h = rw h

to_box_lem : (c : Setting) (s : Core) (j β ch : ℕ) (v : List ℕ) (x : Box) → get_elem? s.contents.boxes (suc β) ≡ some x → up_from c s j (suc β) ch v
    ≡ silently (with_contents s (with_particles s.contents (set s.contents.particles j (output x.parent ch (from_child x.name) v))))
unfolding up_from
to_box_lem c s j β ch v x g = get_pick s.contents.boxes (suc β) (λ x. silently (with_contents s (with_particles s.contents (set s.contents.particles j (output x.parent ch (from_child x.name) v))))) x g

-- the test for the shelf, as the promise has it
shelf_yes : (a c : Bool) → a & c ≡ true → T (a && c)
unfolding ◌&◌
shelf_yes true true h = tt
shelf_yes true false h = absurd (false≢true h)
shelf_yes false c h = absurd (false≢true h)

shelf_no : (a c : Bool) → a & c ≡ false → T (not (a && c))
unfolding ◌&◌
shelf_no true true h = absurd (false≢true (sym h))
shelf_no true false h = tt
shelf_no false c h = tt

module _ (b : Composition) (s : State) (e : ready b s ≡ true) where
  module _ (vw : View b s) (ac : Answers b s vw) {w : Participants Mark} {R : Proc Mark []} (v : RestrictInv (new_of b s) (known_all s) (fill (conf_of b s).boxes (at (conf_of b s).items)) R tau w)
      (j ch : ℕ) (u : List ℕ) (J : List (Item Mark)) (n : fill (conf_of b s).boxes (at J) ≋ v.next) (rest : List (Item (Unit {0})))
      (gone : rest ≡ target (wrapper_of b) vw.c.side vw.c.table vw.C vw.D vw.core vw.core.lobby (remove vw.core.contents.particles j))
      (put : (q : Particle) → Bag (plain_p vw.c.table vw.c.side q ∷ rest) (target (wrapper_of b) vw.c.side vw.c.table vw.C vw.D vw.core vw.core.lobby (set vw.core.contents.particles j q))) where
    fewer : length (remove vw.core.contents.particles j) ≤ 32
    fewer = omega (arith, few_parts b s e vw, length_remove vw.core.contents.particles j)

    here_part : {β : ℕ} → get_elem? vw.core.contents.particles j ≡ some (output β ch to_parent u) → get_elem? (parts_of s vw.c.side) j ≡ some (output β ch to_parent u)
    here_part g = ap (λ (k : Core). get_elem? k.contents.particles j) ac.core_is ∙ g

    -- out of box 0 into the lobby
    out_lobby : get_elem? vw.core.contents.particles j ≡ some (output 0 ch to_parent u) → shelves vw.c.wrapper vw.c.side & eqb ch 2 ≡ false
        → Bag (ritems forget J) (item 0 (pout tt ch (received_child (own_name vw.c.side)) (val_of u)) ∷ rest) → Outcome b s e R (up_step vw.c.side j)
    out_lobby g h bag =
        silent_met b s e vw ac v (up_step vw.c.side j) refl q (up_there vw.c (known s) (shelf_of s) vw.core j 0 ch u g ∙ to_lobby vw.c vw.core j ch u h)
        (every_remove short vw.core.contents.particles j (all_short b s e vw)) refl refl J n
        (λ l. bag_trans bag (bag_trans (bag_cons _ (bag_eq gone))
        (bag_trans (add_msg (wrapper_of b) vw.c.side vw.c.table vw.C vw.D vw.core vw.core.lobby msg (remove vw.core.contents.particles j)) (bag_eq (sym (vw.items_next q vw.left refl refl))))))
        (λ l. by_17 (up_full refl (here_part g) not_shelf (full (leb 16 (length vw.core.lobby)) refl l)))
      where
        msg : Message
        msg = record { status = arrived; chan = ch; val = u }

        q : Core
        q = with_lobby (with_contents vw.core (with_particles vw.core.contents (remove vw.core.contents.particles j))) (vw.core.lobby ++ (msg ∷ []))

        not_shelf : T (not (shelves? (wrapper_of b) vw.c.side ch))
        not_shelf = shelf_no (shelves (wrapper_of b) vw.c.side) (eqb ch 2) (subst (λ (w : Wrapper). shelves w vw.c.side & eqb ch 2 ≡ false) ac.wrapper_is h)

        full : (t : Bool) → leb 16 (length vw.core.lobby) ≡ t → limits q ≡ false → 16 ≤ length (side s vw.c.side).core.lobby
        full true p l = subst (λ (k : Core). 16 ≤ length k.lobby) (sym ac.core_is) (leb-true 16 (length vw.core.lobby) p)
        full false p l =
            let a = leb-false 16 (length vw.core.lobby) p in
            absurd (false≢true (sym l ∙ limits_of q fewer (few_boxes b s e vw) (few_minted b s e vw) (omega (arith, one_more vw.core.lobby msg)) vw.ok.few_shelf))

    -- out of box 0 onto the shelf
    out_shelf : get_elem? vw.core.contents.particles j ≡ some (output 0 ch to_parent u) → shelves vw.c.wrapper vw.c.side & eqb ch 2 ≡ true
        → Bag (ritems forget J) (item 0 (pout tt ch (received_child (own_name vw.c.side)) (val_of u)) ∷ rest) → Outcome b s e R (up_step vw.c.side j)
    unfolding limits
    out_shelf g h bag =
        silent_met b s e vw ac v (up_step vw.c.side j) refl q (up_there vw.c (known s) (shelf_of s) vw.core j 0 ch u g ∙ to_shelf vw.c vw.core j ch u h)
        (every_remove short vw.core.contents.particles j (all_short b s e vw)) refl refl J n
        (λ l. bag_trans bag (bag_trans
        (bag_eq (ap₂ (λ (x : ℕ) (r : List (Item (Unit {0}))). item 0 (pout tt x (received_child (own_name vw.c.side)) (val_of u)) ∷ r) (eqb-true ch 2 (snd _ _ h)) gone)) (vw.shelve q vw.left u refl refl (vw.free (room l)))))
        (λ l. by_17 (shelf_full refl (here_part g) is_shelf (full (leb 32 (length vw.core.shelf)) refl l)))
      where
        q : Core
        q = record { contents = with_particles vw.core.contents (remove vw.core.contents.particles j); lobby = vw.core.lobby; shelf = vw.core.shelf ++ (u ∷ []); taken = vw.core.taken }

        is_shelf : T (shelves? (wrapper_of b) vw.c.side ch)
        is_shelf = shelf_yes (shelves (wrapper_of b) vw.c.side) (eqb ch 2) (subst (λ (w : Wrapper). shelves w vw.c.side & eqb ch 2 ≡ true) ac.wrapper_is h)

        room : limits q ≡ true → length vw.core.shelf < 32
        room l = omega (arith, leb-true (length (vw.core.shelf ++ (u ∷ []))) 32 (snd _ _ (snd _ _ l)), one_more vw.core.shelf u)

        full : (t : Bool) → leb 32 (length vw.core.shelf) ≡ t → limits q ≡ false → 32 ≤ length (side s vw.c.side).core.shelf
        full true p l = subst (λ (k : Core). 32 ≤ length k.shelf) (sym ac.core_is) (leb-true 32 (length vw.core.shelf) p)
        full false p l =
            let a = leb-false 32 (length vw.core.shelf) p in
            absurd (false≢true (sym l ∙ limits_of q fewer (few_boxes b s e vw) (few_minted b s e vw) vw.ok.few_lobby (omega (arith, one_more vw.core.shelf u))))

    -- out of another box into its parent
    out_box : (β : ℕ) (x : Box) → get_elem? vw.core.contents.particles j ≡ some (output (suc β) ch to_parent u) → get_elem? vw.core.contents.boxes (suc β) ≡ some x
        → Bag (ritems forget J) (item (site_of vw.c.side x.parent) (pout tt ch (received_child x.name) (val_of u)) ∷ rest) → Outcome b s e R (up_step vw.c.side j)
    out_box β x g gx bag =
        silent_met b s e vw ac v (up_step vw.c.side j) refl q (up_there vw.c (known s) (shelf_of s) vw.core j (suc β) ch u g ∙ to_box_lem vw.c vw.core j β ch u x gx)
        (every_set short vw.core.contents.particles j p (all_short b s e vw) (val_short b s e vw j (suc β) ch to_parent u g)) refl refl J n
        (λ l. bag_trans bag (bag_trans (put p) (bag_eq (sym (vw.items_next q vw.left refl refl)))))
        (λ l. absurd (false≢true (sym l ∙ limits_of q (rw length-set (few_parts b s e vw)) (few_boxes b s e vw) (few_minted b s e vw) vw.ok.few_lobby vw.ok.few_shelf)))
      where
        p : Particle
        p = output x.parent ch (from_child x.name) u

        q : Core
        q = with_contents vw.core (with_particles vw.core.contents (set vw.core.contents.particles j p))

    rises : (β : ℕ) (x : Box) → get_elem? vw.core.contents.particles j ≡ some (output β ch to_parent u) → get_elem? vw.core.contents.boxes β ≡ some x
        → Bag (ritems forget J) (item (place_of ids vw.c.side β x).parent (pout tt ch (received_child (place_of ids vw.c.side β x).name) (val_of u)) ∷ rest) → Outcome b s e R (up_step vw.c.side j)
    rises zero x g gx bag = go (shelves vw.c.wrapper vw.c.side & eqb ch 2) refl
      where
        go : (t : Bool) → shelves vw.c.wrapper vw.c.side & eqb ch 2 ≡ t → Outcome b s e R (up_step vw.c.side j)
        go true h = out_shelf g h bag
        go false h = out_lobby g h bag
    rises (suc β) x g gx bag =
        out_box β x g gx (subst
        (λ (t : Bool). Bag (ritems forget J) (item (cond t 0 (site_of vw.c.side x.parent)) (pout tt ch (received_child (cond t (own_name vw.c.side) x.name)) (val_of u)) ∷ rest)) (ne_eqb (suc β) 0 (λ z. omega arith)) bag)

  abbrev sel : ℕ → List (Proc Mark [])
  sel k = select (conf_of b s).items k

  -- COMPLETE, for an output that leaves its box
  pub complete_rising : {t : Mark} {R : Proc Mark []} (v : RestrictInv (new_of b s) (known_all s) (fill (conf_of b s).boxes (λ k. parallel (sel k))) R tau (lone t)) (c : Place Mark) (i x : ℕ) (u : Val ℕ)
      → Has c (conf_of b s).boxes → get_elem? (sel c.site) i ≡ some (pout t x (plain iparent) u)
      → fill (conf_of b s).boxes (upd (upd (λ k. parallel (sel k)) c.site (parallel (set (sel c.site) i pnil))) c.parent (ppar (pout t x (received_child c.name) u) (parallel (sel c.parent)))) ≋ v.next
      → Completed b s tau (lone t) R
  unfolding remark
  complete_rising {t} {R} v c i x u has get eq =
      let P = pout t x (plain iparent) u in
      let a = item_at (conf_of b s).items c.site i P get in
      let ne = wf_has (All b s) has (wf_all b s e) in
      go a (trans (symm (one_moved (conf_of b s).boxes (conf_of b s).items c.site c.parent i P pnil (pout t x (received_child c.name) u) a (eqb_sym c.parent c.site ∙ ne) ne)) eq)
      (stands_of b s e a.X (item c.site P) a.Y a.is)
    where
      go : (a : ItemAt (conf_of b s).items c.site i (pout t x (plain iparent) u)) → fill (conf_of b s).boxes (at (item c.parent (pout t x (received_child c.name) u) ∷ (a.X ++ item c.site pnil ∷ a.Y))) ≋ v.next
          → Stands b s a.X (item c.site (pout t x (plain iparent) u)) a.Y → Completed b s tau (lone t) R
      go a n (forwarder Y1 q) = absurd (no_forwarder (wrapper_of b) a.X Y1 c.site t x iparent u q)
      go a n (shelved σ h X1 Y1 q ex ey) = absurd (not_shelved b s σ X1 Y1 c.site t x iparent u q)
      go a n (message vw ac j m g is gone put) = absurd (site_pos b s c has (site_eq is))
      go a n (particle vw ac j p g is gone put) =
          let sp = sent_part vw.c.table vw.checked (counts s) (length vw.core.contents.boxes) vw.c.side j c.site t x (plain iparent) u p
          (get_every (wf_particle vw.c.table (counts s) (length vw.core.contents.boxes)) vw.core.contents.particles j p vw.ok.contents.particles g) is in
          let bx = box_of b s e vw ac c has sp.place sp.site_is in
          let cp : c.parent ≡ (place_of ids vw.c.side sp.place bx.0).parent = ap (λ (d : Place Mark). d.parent) bx.2 in
          let cn : c.name ≡ (place_of ids vw.c.side sp.place bx.0).name = ap (λ (d : Place Mark). d.name) bx.2 in
          subst (λ (z : Mark). Completed b s tau (lone z) R) (sym sp.mark_is)
          (complete_at b s e (up_step vw.c.side j) go_up (λ z. omega arith) (λ z. omega arith) (λ k ak. up_place ak vw.c.side j refl)
          (rises vw ac v j sp.chan sp.val (item c.parent (pout t x (received_child c.name) u) ∷ (a.X ++ item c.site pnil ∷ a.Y)) n (ritems forget a.X ++ ritems forget a.Y) gone (λ q. put_back a.X a.Y _ _ (put q))
          sp.place bx.0 (g ∙ ap some (sp.is ∙ ap (λ (y : STag). output sp.place sp.chan y sp.val) (tag_up sp.tag sp.tag_is))) bx.1
          (bag_trans (moved_bag (item c.parent (pout t x (received_child c.name) u)) a.X c.site a.Y)
          (bag_eq (λ z. item (cp z) (pout tt (sp.chan_is z) (received_child (cn z)) (sp.val_is z)) ∷ (ritems forget a.X ++ ritems forget a.Y))))))
