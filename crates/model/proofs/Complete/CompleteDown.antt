-- Demand 2, second half, for an output that goes into a child box. From the environment the step is Down, refused only where the particles are too many; elsewhere it is Descend, never refused.
use mathlib.Core.Path.{◌≡◌, refl, sym, ap, ◌∙◌, subst, subst₂}
use mathlib.Core.Bool.{Bool, true, false, not, false≢true}
use mathlib.Core.List.{List, [], ◌∷◌, ◌++◌}
use mathlib.Core.Option.{some}
use Prim.Native.Nat.{ℕ, ◌≤◌}
use native.Mathlib.Omega.{arith}
use borrow.Author.Tests.{leb-true, leb-false, eq-eqb}
use lib.Dec.{leb, eqb}
use lib.ListN.{length, get_elem?, set, length-set}
use Rattle.calculus.specs.Syntax.{Val, plain, received_parent, Proc, remark}
use Rattle.calculus.specs.Syntax.{par as ppar, nil as pnil, out as pout, child as ichild}
use Rattle.calculus.specs.Congruence.{◌≋◌, symm, trans}
use Rattle.calculus.specs.Transitions.{tau, Participants, joint}
use Rattle.calculus.specs.Parallel.{parallel}
use Rattle.calculus.specs.Tree.{Place, fill, upd}
use Rattle.calculus.specs.Tree.{Item, select}
use Rattle.model.specs.Basics.{◌&◌, need, choose, remove, pick}
use Rattle.model.specs.Values.{is_value}
use Rattle.model.specs.Wrapper.{Wrapper}
use Rattle.model.specs.Side.{State, Box, Message, Particle, output, Core, limits, down, arrived, leaving, Status as SPlace, Tag as STag, from_parent, to_child}
use Rattle.model.specs.Unfolding.{add_particle}
use Rattle.model.specs.Load.{Composition, wrapper_of, Setting}
use Rattle.model.specs.WellFormed.{counts, shelf_of, wf_particle, wf_message, wf_value, ready}
use Rattle.model.specs.Step.{short, Step, local, inner, is_down, known, silently, with_contents, with_lobby, with_particles, descend_particle, go_down as goes_down, descend as descends}
use Rattle.model.specs.Process.{Mark, part, boxed, lobby, own_name, site_of, val_of, conf_of, new_of, msg_proc}
use Rattle.model.specs.Agreement.{At, enter, go_down, go_up, descend, meet, pass, leave, take, by_17, down_full, parts_of}
use Rattle.calculus.proofs.FreeNames.{eqb_sym}
use Rattle.calculus.proofs.Trees.{Has, wf_has}
use Rattle.calculus.proofs.Restriction.{RestrictInv}
use Rattle.calculus.proofs.Bags.{item, at, Bag, bag_eq, bag_trans, bag_cons, ritems}
use Rattle.model.proofs.Basics.Tests.{fst, both, every_append, every_one, every_set, length_remove, get_every}
use Rattle.model.proofs.Formed.Growing.{wf_in}
use Rattle.model.proofs.Processes.KnownNames.{known_all, All}
use Rattle.model.proofs.Basics.Splits.{get_pick}
use Rattle.model.proofs.Sound.ItemMoves.{ids, forget, plain_p, target, add_part}
use Rattle.model.proofs.Sound.StateMoves.{wf_all}
use Rattle.model.proofs.Sound.SideViews.{View}
use Rattle.model.proofs.Complete.StateInversion.{item_at, ItemAt}
use Rattle.model.proofs.Complete.ItemPlaces.{one_moved}
use Rattle.model.proofs.Complete.Completing.{Completed, Answers, what_eq, site_eq, tag_in, chan_in, val_in, mark_in}
use Rattle.model.proofs.Complete.ItemOwners.{Stands, forwarder, shelved, message, particle, stands_of}
use Rattle.model.proofs.Complete.ItemSides.{sent_part, no_forwarder, not_shelved, tag_into, limits_of, moved_bag, put_back, one_more, few_parts, few_boxes, few_minted, all_short, val_short}
use Rattle.model.proofs.Complete.ItemSides.{root_of, child_of_lem, Outcome, complete_at, silent_met}

abbrev down_step : ℕ → ℕ → Step
down_step σ j = record { kind = 2; side = σ; i = j; j = 0; words = [] }

abbrev into_step : ℕ → ℕ → ℕ → Step
into_step σ j n = record { kind = 4; side = σ; i = j; j = n; words = [] }

-- the step at the place of a message and box 0
down_place : {W : Wrapper} {k : Step} {w : Participants Mark} → At W k w → (σ j : ℕ) → w ≡ joint (lobby σ j) (boxed σ 0) → k ≡ down_step σ j
down_place enter σ j e = absurd (let z : ◌≡◌ {A = ℕ} 0 1 = cc in omega arith)
down_place (go_down {side = side} {i = i}) σ j e =
    let p : side ≡ σ = cc in
    let q : i ≡ j = cc in
    λ t. record { kind = 2; side = p t; i = q t; j = 0; words = [] }
down_place go_up σ j e = absurd (let z : ◌≡◌ {A = ℕ} 0 1 = cc in omega arith)
down_place descend σ j e = absurd (let z : ◌≡◌ {A = ℕ} 0 1 = cc in omega arith)
down_place meet σ j e = absurd (let z : ◌≡◌ {A = ℕ} 0 1 = cc in omega arith)
down_place pass σ j e = absurd (let z : ◌≡◌ {A = ℕ} 0 1 = cc in omega arith)
down_place leave σ j e = absurd (let z : ◌≡◌ {A = ℕ} 0 1 = cc in omega arith)
down_place (take n q) σ j e = absurd (let z : ◌≡◌ {A = ℕ} 0 1 = cc in omega arith)

-- the step at the place of a particle and a box
into_place : {W : Wrapper} {k : Step} {w : Participants Mark} → At W k w → (σ j n : ℕ) → w ≡ joint (part σ j) (boxed σ n) → k ≡ into_step σ j n
into_place enter σ j n e = absurd (let z : ◌≡◌ {A = ℕ} 0 1 = cc in omega arith)
into_place go_down σ j n e = absurd (let z : ◌≡◌ {A = ℕ} 0 1 = cc in omega arith)
into_place go_up σ j n e = absurd (let z : ◌≡◌ {A = ℕ} 0 1 = cc in omega arith)
into_place (descend {side = side} {i = i} {j = m}) σ j n e =
    let p : side ≡ σ = cc in
    let q : i ≡ j = cc in
    let r : m ≡ n = cc in
    λ t. record { kind = 4; side = p t; i = q t; j = r t; words = [] }
into_place meet σ j n e = absurd (let z : ◌≡◌ {A = ℕ} 0 1 = cc in omega arith)
into_place pass σ j n e = absurd (let z : ◌≡◌ {A = ℕ} 0 1 = cc in omega arith)
into_place leave σ j n e = absurd (let z : ◌≡◌ {A = ℕ} 0 1 = cc in omega arith)
into_place (take r q) σ j n e = absurd (let z : ◌≡◌ {A = ℕ} 0 1 = cc in omega arith)

-- what the bench does there
down_there : (c : Setting) (kn : ℕ → Bool) (sh : ℕ → List (List ℕ)) (s : Core) (j : ℕ) (m : Message) → get_elem? s.lobby j ≡ some m → m.status ≡ down
    → local c kn sh s (down_step c.side j) ≡ silently (with_lobby (with_contents s (add_particle s.contents (output 0 m.chan from_parent m.val))) (remove s.lobby j))
unfolding local inner choose need goes_down
down_there c kn sh s j m g p =
    get_pick s.lobby j (λ m. need (is_down m.status) 13 (silently (with_lobby (with_contents s (add_particle s.contents (output 0 m.chan from_parent m.val))) (remove s.lobby j)))) m g
    ∙ ap (λ (x : SPlace). need (is_down x) 13 (silently (with_lobby (with_contents s (add_particle s.contents (output 0 m.chan from_parent m.val))) (remove s.lobby j)))) p

into_there : (c : Setting) (kn : ℕ → Bool) (sh : ℕ → List (List ℕ)) (s : Core) (j n β ch : ℕ) (v : List ℕ) (x : Box) → get_elem? s.contents.particles j ≡ some (output β ch (to_child x.name) v) →
    get_elem? s.contents.boxes n ≡ some x → eqb n 0 ≡ false → x.parent ≡ β
    → local c kn sh s (into_step c.side j n) ≡ silently (with_contents s (with_particles s.contents (set s.contents.particles j (output n ch from_parent v))))
unfolding local inner choose need descends descend_particle
into_there c kn sh s j n β ch v x g gx z pb =
    get_pick s.contents.particles j (λ p. pick s.contents.boxes n λ x. descend_particle s j n x p) (output β ch (to_child x.name) v) g
    ∙ get_pick s.contents.boxes n (λ x'. descend_particle s j n x' (output β ch (to_child x.name) v)) x gx
    ∙ ap (λ (t : Bool). need t 13 (silently (with_contents s (with_particles s.contents (set s.contents.particles j (output n ch from_parent v))))))
    (both (not (eqb n 0)) (eqb x.parent β & eqb x.name x.name) (ap not z) (both (eqb x.parent β) (eqb x.name x.name) (eq-eqb x.parent β pb) (eq-eqb x.name x.name refl)))

-- a message that is bound for a child is on its way down
msg_down : (w : Wrapper) (side j : ℕ) (m : Message) (t : Mark) (x n : ℕ) (u : Val ℕ) → pout t x (plain (ichild n)) u ≡ msg_proc ids w side j m.status m.chan m.val →
    (m.status ≡ down) × (t ≡ lobby side j) × (x ≡ m.chan) × (n ≡ own_name side) × (u ≡ val_of m.val)
msg_down w side j m t x n u q = go m.status q
  where
    go : (p : SPlace) → pout t x (plain (ichild n)) u ≡ msg_proc ids w side j p m.chan m.val → (p ≡ down) × (t ≡ lobby side j) × (x ≡ m.chan) × (n ≡ own_name side) × (u ≡ val_of m.val)
    go down q =
        let eo : plain (ichild n) ≡ plain (ichild (own_name side)) = ap tag_in q in
        let en : n ≡ own_name side = cc in
        (refl, ap mark_in q, ap chan_in q, en, ap val_in q)
    go arrived q = let eo = ap tag_in q in absurd (let z : ◌≡◌ {A = ℕ} 0 1 = cc in omega arith)
    go leaving q = let eo = ap tag_in q in absurd (let z : ◌≡◌ {A = ℕ} 0 1 = cc in omega arith)

module _ (b : Composition) (s : State) (e : ready b s ≡ true) where
  module _ (vw : View b s) (ac : Answers b s vw) {w : Participants Mark} {R : Proc Mark []} (v : RestrictInv (new_of b s) (known_all s) (fill (conf_of b s).boxes (at (conf_of b s).items)) R tau w)
      (J : List (Item Mark)) (n : fill (conf_of b s).boxes (at J) ≋ v.next) (rest : List (Item (Unit {0}))) where
    -- a message into box 0
    goes_down_lem : (j : ℕ) (m : Message) → get_elem? vw.core.lobby j ≡ some m → m.status ≡ down
        → rest ≡ target (wrapper_of b) vw.c.side vw.c.table vw.C vw.D vw.core (remove vw.core.lobby j) vw.core.contents.particles
        → Bag (ritems forget J) (item (site_of vw.c.side 0) (pout tt m.chan received_parent (val_of m.val)) ∷ rest) → Outcome b s e R (down_step vw.c.side j)
    unfolding wf_message wf_value is_value
    goes_down_lem j m g d gone bag =
        silent_met b s e vw ac v (down_step vw.c.side j) refl q (down_there vw.c (known s) (shelf_of s) vw.core j m g d)
        (every_append short vw.core.contents.particles (p ∷ []) (all_short b s e vw)
        (every_one short p (fst _ _ (fst _ _ (fst _ _ (get_every (wf_in vw.c (counts s)) vw.core.lobby j m vw.ok.lobby g)))))) refl refl J n
        (λ l. bag_trans bag (bag_trans (bag_cons _ (bag_eq gone))
        (bag_trans (add_part (wrapper_of b) vw.c.side vw.c.table vw.C vw.D vw.core (remove vw.core.lobby j) vw.core.contents.particles p) (bag_eq (sym (vw.items_next q vw.left refl refl))))))
        (λ l. by_17 (down_full refl (full (leb 32 (length vw.core.contents.particles)) refl l)))
      where
        p : Particle
        p = output 0 m.chan from_parent m.val

        q : Core
        q = with_lobby (with_contents vw.core (add_particle vw.core.contents p)) (remove vw.core.lobby j)

        full : (t : Bool) → leb 32 (length vw.core.contents.particles) ≡ t → limits q ≡ false → 32 ≤ length (parts_of s vw.c.side)
        full true h l = subst (λ (k : Core). 32 ≤ length k.contents.particles) (sym ac.core_is) (leb-true 32 (length vw.core.contents.particles) h)
        full false h l =
            let a = leb-false 32 (length vw.core.contents.particles) h in
            absurd (false≢true (sym l
            ∙ limits_of q (omega (arith, one_more vw.core.contents.particles p)) (few_boxes b s e vw) (few_minted b s e vw) (omega (arith, vw.ok.few_lobby, length_remove vw.core.lobby j)) vw.ok.few_shelf))

    -- a particle into a box beside it
    goes_into : (j i β ch : ℕ) (u : List ℕ) (x : Box) → get_elem? vw.core.contents.particles j ≡ some (output β ch (to_child x.name) u) → get_elem? vw.core.contents.boxes i ≡ some x → eqb i 0 ≡ false → x.parent ≡ β
        → ((q : Particle) → Bag (plain_p vw.c.table vw.c.side q ∷ rest) (target (wrapper_of b) vw.c.side vw.c.table vw.C vw.D vw.core vw.core.lobby (set vw.core.contents.particles j q)))
        → Bag (ritems forget J) (item (site_of vw.c.side i) (pout tt ch received_parent (val_of u)) ∷ rest) → Outcome b s e R (into_step vw.c.side j i)
    goes_into j i β ch u x g gx z pb put bag =
        silent_met b s e vw ac v (into_step vw.c.side j i) refl q (into_there vw.c (known s) (shelf_of s) vw.core j i β ch u x g gx z pb)
        (every_set short vw.core.contents.particles j p (all_short b s e vw) (val_short b s e vw j β ch (to_child x.name) u g)) refl refl J n
        (λ l. bag_trans bag (bag_trans (put p) (bag_eq (sym (vw.items_next q vw.left refl refl)))))
        (λ l. absurd (false≢true (sym l ∙ limits_of q (rw length-set (few_parts b s e vw)) (few_boxes b s e vw) (few_minted b s e vw) vw.ok.few_lobby vw.ok.few_shelf)))
      where
        p : Particle
        p = output i ch from_parent u

        q : Core
        q = with_contents vw.core (with_particles vw.core.contents (set vw.core.contents.particles j p))

  abbrev sel : ℕ → List (Proc Mark [])
  sel k = select (conf_of b s).items k

  -- COMPLETE, for an output that goes into a child box
  pub complete_descending : {t : Mark} {R : Proc Mark []} (c : Place Mark) (v : RestrictInv (new_of b s) (known_all s) (fill (conf_of b s).boxes (λ k. parallel (sel k))) R tau (joint t c.mark)) (i x : ℕ) (u : Val ℕ)
      → Has c (conf_of b s).boxes → get_elem? (sel c.parent) i ≡ some (pout t x (plain (ichild c.name)) u)
      → fill (conf_of b s).boxes (upd (upd (λ k. parallel (sel k)) c.parent (parallel (set (sel c.parent) i pnil))) c.site (ppar (pout t x received_parent u) (parallel (sel c.site)))) ≋ v.next
      → Completed b s tau (joint t c.mark) R
  unfolding remark
  complete_descending {t} {R} c v i x u has get eq =
      let P = pout t x (plain (ichild c.name)) u in
      let a = item_at (conf_of b s).items c.parent i P get in
      let ne = wf_has (All b s) has (wf_all b s e) in
      go a (trans (symm (one_moved (conf_of b s).boxes (conf_of b s).items c.parent c.site i P pnil (pout t x received_parent u) a ne (eqb_sym c.parent c.site ∙ ne))) eq)
      (stands_of b s e a.X (item c.parent P) a.Y a.is)
    where
      go : (a : ItemAt (conf_of b s).items c.parent i (pout t x (plain (ichild c.name)) u)) → fill (conf_of b s).boxes (at (item c.site (pout t x received_parent u) ∷ (a.X ++ item c.parent pnil ∷ a.Y))) ≋ v.next
          → Stands b s a.X (item c.parent (pout t x (plain (ichild c.name)) u)) a.Y → Completed b s tau (joint t c.mark) R
      go a n (forwarder Y1 q) = absurd (no_forwarder (wrapper_of b) a.X Y1 c.parent t x (ichild c.name) u q)
      go a n (shelved σ h X1 Y1 q ex ey) = absurd (not_shelved b s σ X1 Y1 c.parent t x (ichild c.name) u q)
      go a n (message vw ac j m g is gone put) =
          let r = root_of b s e c has (site_eq is) in
          let d = msg_down (wrapper_of b) vw.c.side j m t x c.name u (what_eq is) in
          let sd : r.side ≡ vw.c.side = same_side_lem r.side vw.c.side (sym r.name_is ∙ d.3) in
          let cs : c.site ≡ site_of vw.c.side 0 = r.site_is ∙ ap (λ (σ : ℕ). site_of σ 0) sd in
          let cm : c.mark ≡ boxed vw.c.side 0 = r.mark_is ∙ ap (λ (σ : ℕ). boxed σ 0) sd in
          subst₂ (λ (y z : Mark). Completed b s tau (joint y z) R) (sym d.1) (sym cm)
          (complete_at b s e (down_step vw.c.side j) go_down (λ z. omega arith) (λ z. omega arith) (λ k ak. down_place ak vw.c.side j refl)
          (goes_down_lem vw ac v (item c.site (pout t x received_parent u) ∷ (a.X ++ item c.parent pnil ∷ a.Y)) n (ritems forget a.X ++ ritems forget a.Y) j m g d.0 gone
          (bag_trans (moved_bag (item c.site (pout t x received_parent u)) a.X c.parent a.Y)
          (bag_eq (λ z. item (cs z) (pout tt (d.2 z) received_parent (d.4 z)) ∷ (ritems forget a.X ++ ritems forget a.Y))))))
        where
          same_side_lem : (σ τ : ℕ) → own_name σ ≡ own_name τ → σ ≡ τ
          same_side_lem σ τ q = omega arith
      go a n (particle vw ac j p g is gone put) =
          let sp = sent_part vw.c.table vw.checked (counts s) (length vw.core.contents.boxes) vw.c.side j c.parent t x (plain (ichild c.name)) u p
          (get_every (wf_particle vw.c.table (counts s) (length vw.core.contents.boxes)) vw.core.contents.particles j p vw.ok.contents.particles g) is in
          let k = child_of_lem b s e vw ac c has sp.place sp.site_is in
          subst₂ (λ (y z : Mark). Completed b s tau (joint y z) R) (sym sp.mark_is) (sym k.mark_is)
          (complete_at b s e (into_step vw.c.side j k.j) descend (λ z. omega arith) (λ z. omega arith) (λ y ay. into_place ay vw.c.side j k.j refl)
          (goes_into vw ac v (item c.site (pout t x received_parent u) ∷ (a.X ++ item c.parent pnil ∷ a.Y)) n (ritems forget a.X ++ ritems forget a.Y) j k.j sp.place sp.chan sp.val k.box
          (g ∙ ap some (sp.is ∙ ap (λ (y : STag). output sp.place sp.chan y sp.val) (tag_into c.name sp.tag sp.tag_is ∙ ap to_child k.name_is))) k.get k.later k.parent_is
          (λ q. put_back a.X a.Y _ _ (put q))
          (bag_trans (moved_bag (item c.site (pout t x received_parent u)) a.X c.parent a.Y)
          (bag_eq (λ z. item (k.site_is z) (pout tt (sp.chan_is z) received_parent (sp.val_is z)) ∷ (ritems forget a.X ++ ritems forget a.Y))))))
