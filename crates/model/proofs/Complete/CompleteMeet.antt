-- Demand 2, second half, for the meetings in the boxes: each has a step of kind 5 at its place, and that step is silent and leads where it leads, or is refused with 16 or 17 for their causes.
use mathlib.Core.Path.{◌≡◌, refl, sym, ap, ap₂, ◌∙◌, subst}
use mathlib.Core.Bool.{Bool, true, false, cond, false≢true}
use mathlib.Core.List.{List, [], ◌∷◌, ◌++◌, map}
use mathlib.Core.Logic.{◌≢◌, ◌⊎◌}
use mathlib.Core.Option.{some}
use Prim.Native.Nat.{ℕ, suc, ◌<◌, ◌≤◌}
use native.Mathlib.Omega.{arith}
use borrow.Author.Tests.{ltb-true, ltb-false}
use lib.Dec.{ltb}
use lib.ListN.{length, get_elem?, set}
use Rattle.calculus.specs.Syntax.{Val, Pat, Vars, ITag, Tag, plain, Mode, Proc, comp, match, remark, the_name, iren}
use Rattle.calculus.specs.Syntax.{par as ppar, box as pbox, new as pnew, nil as pnil, out as pout, inp as pinp}
use Rattle.calculus.specs.Congruence.{◌≋◌, symm, trans}
use Rattle.calculus.specs.Transitions.{tau, Participants, joint, InstOk, inst, In}
use Rattle.calculus.specs.Transitions.{Step as Trans}
use Rattle.calculus.specs.Parallel.{parallel}
use Rattle.calculus.specs.Tree.{Place, upd, fill}
use Rattle.calculus.specs.Tree.{Item, select}
use Rattle.calculus.specs.Named.{proc, shape, under_pat}
use Rattle.model.specs.Basics.{has}
use Rattle.model.specs.Values.{binders, extend}
use Rattle.model.specs.Table.{Table, Term}
use Rattle.model.specs.Wrapper.{Wrapper, all_sides, has_side}
use Rattle.model.specs.Side.{Particle, output, input, State, side as side_in, Tag as STag}
use Rattle.model.specs.Load.{Composition, wrapper_of}
use Rattle.model.specs.WellFormed.{counts, wf_particle, env_at, ready}
use Rattle.model.specs.Step.{Step, refusal, step, without}
use Rattle.model.specs.Process.{Mark, part, site_of, val_of, pat_of, code_of, env_of, itag_of, tag_out, mode_of, is_gone, part_item, enters, passes, takes, forwarders, shelf_item, shelf_items, conf_of, new_of}
use Rattle.model.specs.Agreement.{At, Asks, asks_tau, Met, Excused, enter, go_down, go_up, descend, meet, pass, leave, take}
use Rattle.calculus.proofs.Trees.{Reach}
use Rattle.calculus.proofs.Inversion.{after}
use Rattle.calculus.proofs.Restriction.{RestrictInv}
use Rattle.calculus.proofs.Restriction.{known as all_of}
use Rattle.calculus.proofs.Bags.{item, at, Bag, bag_eq, bag_trans, ritem, ritems}
use Rattle.model.proofs.Processes.KnownNames.{known_all, held_in, low_in, All}
use Rattle.model.proofs.Processes.ItemFacts.{InputAt, input_node_lem}
use Rattle.model.proofs.Processes.StateTree.{reach_boxes, remark_proc}
use Rattle.model.proofs.Sound.ItemMoves.{ids, forget, plain_p, plain_part, target}
use Rattle.model.proofs.Sound.SideViews.{View, view}
use Rattle.model.proofs.Sound.BoxOrder.{Orient, orient}
use Rattle.model.proofs.Sound.ParticlePairs.{leaves, before_bag, behind_bag}
use Rattle.model.proofs.Sound.MeetMoves.{after_is, body_is}
use Rattle.model.proofs.Formed.Invariant.{which, positive}
use Rattle.model.proofs.Complete.StateInversion.{item_at}
use Rattle.model.proofs.Complete.Completing.{Completed, Answers, answers, is_out, tag_in, chan_in, val_in, mark_in, what_eq, site_eq}
use Rattle.model.proofs.Complete.ItemOwners.{Stands, forwarder, shelved, message, particle, stands_of}
use Rattle.model.proofs.Complete.WrapperLevel.{Every, every_app, every_mid, every_has, every_get}
use Rattle.model.proofs.Complete.TwoItems.{set_swap, two_at, two_changed, two_parts, pair_of}
use Rattle.model.proofs.Complete.MatchingBack.{MatchedBack}
use Rattle.model.proofs.Complete.MeetAnswer.{meet_step, mb, same_σ, answered}
use Rattle.model.proofs.Basics.Tests.{get_every}

-- the step at the place of two particles of one side
parts_step : {W : Wrapper} {k : Step} {w : Participants Mark} → At W k w → (σ i j : ℕ) → w ≡ joint (part σ i) (part σ j) → k ≡ meet_step σ i j
parts_step enter σ i j e = absurd (let z : ◌≡◌ {A = ℕ} 0 1 = cc in omega arith)
parts_step go_down σ i j e = absurd (let z : ◌≡◌ {A = ℕ} 0 1 = cc in omega arith)
parts_step go_up σ i j e = absurd (let z : ◌≡◌ {A = ℕ} 0 1 = cc in omega arith)
parts_step descend σ i j e = absurd (let z : ◌≡◌ {A = ℕ} 0 1 = cc in omega arith)
parts_step (meet {side = side} {i = a} {j = c}) σ i j e =
    let p : side ≡ σ = cc in
    let q : a ≡ i = cc in
    let r : c ≡ j = cc in
    λ t. record { kind = 5; side = p t; i = q t; j = r t; words = [] }
parts_step pass σ i j e = absurd (let z : ◌≡◌ {A = ℕ} 0 1 = cc in omega arith)
parts_step leave σ i j e = absurd (let z : ◌≡◌ {A = ℕ} 0 1 = cc in omega arith)
parts_step (take n q) σ i j e = absurd (let z : ◌≡◌ {A = ℕ} 0 1 = cc in omega arith)

asks_meet : (σ i j : ℕ) → Asks (meet_step σ i j) tau
asks_meet σ i j = asks_tau (λ z. let y : ◌≡◌ {A = ℕ} 5 1 = z in omega arith) (λ z. let y : ◌≡◌ {A = ℕ} 5 7 = z in omega arith)

-- an input that takes a value, with what it leaves
abbrev Receives : (u : Mark) (x : ℕ) (o : Tag ℕ) (v : Val ℕ) (K : Proc Mark [] → Type 0) → Proc Mark [] → Type 0
Receives u x o v K pnil = ⊥
Receives u x o v K (ppar P Q) = ⊥
Receives u x o v K (pbox t n P) = ⊥
Receives u x o v K (pnew P) = ⊥
Receives u x o v K (pout t y q w) = ⊥
Receives u x o v K (pinp m t y g p P) = (t ≡ u) × (y ≡ x) × (comp (plain g) ≡ o) × (σ : Vars p → Val ℕ) × (match p v ≡ some σ) × InstOk P σ × K (after m t y g p P σ)

module _ (b : Composition) (s : State) (e : ready b s ≡ true) where
  abbrev bs : List (Place Mark)
  bs = (conf_of b s).boxes

  abbrev I : List (Item Mark)
  I = (conf_of b s).items

  abbrev sel : ℕ → List (Proc Mark [])
  sel k = select (conf_of b s).items k

  abbrev Inv : Proc Mark [] → Participants Mark → Type 0
  Inv R w = RestrictInv (new_of b s) (known_all s) (fill (conf_of b s).boxes (λ k. parallel (select (conf_of b s).items k))) R tau w

  -- what `meets` says of a site
  pub record MeetsAt (N : Proc Mark []) (t u : Mark) (site : ℕ) : Type 0 where
    pub i : ℕ
    pub j : ℕ
    pub x : ℕ
    pub g : ITag ℕ
    pub v : Val ℕ
    pub m : Mode
    pub p : Pat
    pub P : Proc Mark (p ∷ [])
    pub σ : Vars p → Val ℕ
    pub ne : i ≢ j
    pub get_i : get_elem? (sel site) i ≡ some (pout t x (comp (plain g)) v)
    pub get_j : get_elem? (sel site) j ≡ some (pinp m u x g p P)
    pub fits : match p v ≡ some σ
    pub ok : InstOk P σ
    pub to : fill bs (upd (λ k. parallel (sel k)) site (parallel (set (set (sel site) i pnil) j (after m u x g p P σ)))) ≋ N

  module _ (vw : View b s) (ori : Orient b s vw)
      (own : (has vw.c.side all_sides ≡ true) × (vw.core.contents.minted ≡ (side_in s vw.c.side).core.contents.minted))
      (reach : (p : ℕ) → p < length vw.core.contents.boxes → Reach (conf_of b s).boxes (site_of vw.c.side p)) (ac : Answers b s vw) where
    abbrev side : ℕ
    side = vw.c.side

    abbrev Tb : Table
    Tb = vw.c.table

    abbrev parts : List Particle
    parts = vw.core.contents.particles

    abbrev aim : List Particle → List (Item (Unit {0}))
    aim l = target (wrapper_of b) vw.c.side vw.c.table vw.C vw.D vw.core vw.core.lobby l

    pos : 1 ≤ side
    pos = (positive vw.c.side own.0).0

    -- two elements of a site of the side, as two of its particles
    record Couple (k i j : ℕ) (P Q : Proc Mark []) : Type 0 where
      i' : ℕ
      j' : ℕ
      p : Particle
      q : Particle
      get_p : get_elem? parts i' ≡ some p
      get_q : get_elem? parts j' ≡ some q
      is_p : item (site_of side k) P ≡ part_item ids Tb side i' p
      is_q : item (site_of side k) Q ≡ part_item ids Tb side j' q
      J : Proc Mark [] → List (Item Mark)
      changed : (Q' : Proc Mark []) → fill bs (upd (λ n. parallel (sel n)) (site_of side k) (parallel (set (set (sel (site_of side k)) i pnil) j Q'))) ≋ fill bs (at (J Q'))
      bag : (again : Bool) (Q B : Proc Mark []) → ritem forget (item (site_of side k) Q) ≡ plain_p Tb side q → Bag (ritems forget (J (leaves again Q B))) (item (site_of side k) (remark forget B) ∷ aim (without again parts i' j'))

    couple : (k i j : ℕ) (P Q : Proc Mark []) → (i ≡ j → ⊥) → get_elem? (sel (site_of side k)) i ≡ some P → get_elem? (sel (site_of side k)) j ≡ some Q → Couple k i j P Q
    couple k i j P Q ne gi gj = go (ltb i j) refl
      where
        go : (c : Bool) → ltb i j ≡ c → Couple k i j P Q
        go true lt =
            let r = two_at I (site_of side k) i j P Q (ltb-true i j lt) gi gj in
            let w = sym vw.items_now ∙ r.is in
            let a = two_parts (wrapper_of b) side Tb vw.C vw.D vw.core ori.away_c ori.away_d pos r.X k P r.Y Q r.Z w in
            record {
              i' = a.i;
              j' = a.j;
              p = a.p;
              q = a.q;
              get_p = a.get_i;
              get_q = a.get_j;
              is_p = a.is_i;
              is_q = a.is_j;
              J = λ Q'. r.X ++ item (site_of side k) pnil ∷ (r.Y ++ item (site_of side k) Q' ∷ r.Z);
              changed = λ Q'. two_changed bs I (site_of side k) (set (set (sel (site_of side k)) i pnil) j Q') r.X r.Y r.Z P Q pnil Q' r.is (r.put pnil Q');
              bag = λ again Q B h. before_bag (wrapper_of b) side Tb vw.C vw.D vw.core again (site_of side k) Q B a.p a.q a.i a.j h a.before
                  (pair_of (wrapper_of b) side Tb vw.C vw.D vw.core ori.away_c ori.away_d pos w a);
            }
        go false ge =
            let lt : j < i = (let z = ltb-false i j ge in omega (arith, z, ne)) in
            let r = two_at I (site_of side k) j i Q P lt gj gi in
            let w = sym vw.items_now ∙ r.is in
            let a = two_parts (wrapper_of b) side Tb vw.C vw.D vw.core ori.away_c ori.away_d pos r.X k Q r.Y P r.Z w in
            record {
              i' = a.j;
              j' = a.i;
              p = a.q;
              q = a.p;
              get_p = a.get_j;
              get_q = a.get_i;
              is_p = a.is_j;
              is_q = a.is_i;
              J = λ Q'. r.X ++ item (site_of side k) Q' ∷ (r.Y ++ item (site_of side k) pnil ∷ r.Z);
              changed = λ Q'. two_changed bs I (site_of side k) (set (set (sel (site_of side k)) i pnil) j Q') r.X r.Y r.Z Q P Q' pnil r.is (set_swap (sel (site_of side k)) i j pnil Q' ne ∙ r.put Q' pnil);
              bag = λ again Q B h. behind_bag (wrapper_of b) side Tb vw.C vw.D vw.core again (site_of side k) Q B a.q a.p a.j a.i h a.before
                  (pair_of (wrapper_of b) side Tb vw.C vw.D vw.core ori.away_c ori.away_d pos w a);
            }

    zero_in : In (All b s) 0
    zero_in = low_in b s 0 (omega arith)

    part_ok : (i : ℕ) (p : Particle) → get_elem? parts i ≡ some p → wf_particle Tb (counts s) (length vw.core.contents.boxes) p ≡ true
    part_ok i p g = get_every (wf_particle Tb (counts s) (length vw.core.contents.boxes)) parts i p vw.ok.contents.particles g

    node_of : (i β n : ℕ) (vs : List (List ℕ)) → get_elem? parts i ≡ some (input β n vs) → InputAt Tb n
    node_of i β n vs g = input_node_lem ids (All b s) (counts s) (held_in b s) zero_in Tb vw.checked (length vw.core.contents.boxes) side β n vs (part_ok i (input β n vs) g)

    -- a meeting in a box of the side
    module _ {R : Proc Mark []} {t u : Mark} (k : ℕ) (vv : Inv R (joint t u)) (h : MeetsAt vv.next t u (site_of vw.c.side k)) where
      abbrev K : Proc Mark [] → Type 0
      K Q' = fill (conf_of b s).boxes (upd (λ n. parallel (select (conf_of b s).items n)) (site_of vw.c.side k) (parallel (set (set (select (conf_of b s).items (site_of vw.c.side k)) h.i pnil) h.j Q'))) ≋ vv.next

      abbrev out_there : Proc Mark []
      out_there = pout t h.x (comp (plain h.g)) h.v

      abbrev in_there : Proc Mark []
      in_there = pinp h.m u h.x h.g h.p h.P

      abbrev Pair : Type 0
      Pair = Couple k h.i h.j out_there in_there

      there : Receives u h.x (comp (plain h.g)) h.v K in_there
      there = (refl, refl, refl, h.σ, h.fits, h.ok, h.to)

      -- an output and a waiting input, by the node of the input
      module _ (c : Pair) (β ch : ℕ) (g : STag) (v : List ℕ) (n : ℕ) (vs : List (List ℕ)) (ep : c.p ≡ output β ch g v) (eq : c.q ≡ input β n vs) (node : InputAt vw.c.table n) where
        gp : get_elem? parts c.i' ≡ some (output β ch g v)
        gp = c.get_p ∙ ap some ep

        gq : get_elem? parts c.j' ≡ some (input β n vs)
        gq = c.get_q ∙ ap some eq

        p_is : item (site_of side k) out_there ≡ part_item ids Tb side c.i' (output β ch g v)
        p_is = c.is_p ∙ ap (part_item ids Tb side c.i') ep

        q_is : item (site_of side k) in_there ≡ part_item ids Tb side c.j' (input β n vs)
        q_is = c.is_q ∙ ap (part_item ids Tb side c.j') eq

        abbrev cn : ℕ
        cn = the_name [] (env_of (env_at vw.c.table n vs) node.chan)

        abbrev tg : ITag ℕ
        tg = iren (itag_of node.tag) (λ x. the_name [] (env_of (env_at vw.c.table n vs) x))

        abbrev body : Proc Mark (shape (pat_of node.pat) ∷ [])
        body = proc (shape (pat_of node.pat) ∷ []) (part vw.c.side c.j') (code_of node.body) (under_pat (pat_of node.pat) (env_of (env_at vw.c.table n vs)))

        abbrev waits : Proc Mark []
        waits = pinp (mode_of node.again) (part vw.c.side c.j') cn tg (shape (pat_of node.pat)) body

        waits_is : part_item ids Tb side c.j' (input β n vs) ≡ item (site_of side β) waits
        unfolding proc code_of
        waits_is = ap (λ (a : Term). item (site_of side β) (proc [] (part side c.j') (code_of a) (env_of (env_at Tb n vs)))) node.is

        taken : Receives u h.x (comp (plain h.g)) h.v K waits
        taken = subst (Receives u h.x (comp (plain h.g)) h.v K) (what_eq (q_is ∙ waits_is)) there

        out_is : out_there ≡ pout (part side c.i') ch (tag_out g) (val_of v)
        out_is = what_eq p_is

        who : joint t u ≡ joint (part side c.i') (part side c.j')
        who = ap₂ joint (ap mark_in out_is) (sym taken.0)

        vv' : Inv R (joint (part side c.i') (part side c.j'))
        vv' = record { perm = vv.perm; keeps = vv.keeps; next = vv.next; step = subst (λ (y : Participants Mark). Trans (all_of (new_of b s) (known_all s)) (fill bs (at I)) tau y vv.next) who vv.step; target = vv.target }

        fits : match (shape (pat_of node.pat)) (val_of v) ≡ some taken.3
        fits = subst (λ (z : Val ℕ). match (shape (pat_of node.pat)) z ≡ some taken.3) (ap val_in out_is) taken.4

        mb' : MatchedBack node.pat v taken.3
        mb' = mb b s e vw ori own reach ac c.i' c.j' β ch g v n vs gp gq node (part_ok c.i' (output β ch g v) gp) (part_ok c.j' (input β n vs) gq) taken.3 fits taken.5
            (taken.1 ∙ ap chan_in out_is) (taken.2 ∙ ap tag_in out_is)

        body_now : inst body taken.3 ≡ proc [] (part side c.j') (code_of node.body) (env_of (extend (env_at Tb n vs) (binders node.pat) mb'.fit.bound))
        unfolding mb'
        body_now = ap (inst body)
            (sym (same_σ b s e vw ori own reach ac c.i' c.j' β ch g v n vs gp gq node (part_ok c.i' (output β ch g v) gp) (part_ok c.j' (input β n vs) gq) taken.3 fits taken.5
            (taken.1 ∙ ap chan_in out_is) (taken.2 ∙ ap tag_in out_is)))
            ∙ body_is b s e vw ori own reach c.i' c.j' β ch g v n vs gp gq node (part_ok c.i' (output β ch g v) gp) (part_ok c.j' (input β n vs) gq) mb'.fit mb'.is

        waits° : ritem forget (item (site_of side k) waits) ≡ plain_p Tb side c.q
        waits° = ap (λ (z : ℕ). ritem forget (item z waits)) (site_eq q_is) ∙ ap (ritem forget) (sym waits_is) ∙ plain_part Tb side c.j' (input β n vs) ∙ ap (plain_p Tb side) (sym eq)

        abbrev J' : List (Item Mark)
        J' = c.J (leaves node.again waits (inst body taken.3))

        leads : fill bs (at J') ≋ vv.next
        leads = trans (symm (c.changed (leaves node.again waits (inst body taken.3)))) (subst K (after_is node.again (part side c.j') cn tg (shape (pat_of node.pat)) body taken.3) taken.6)

        bag_now : Bag (ritems forget J') (item (site_of side β) (proc [] tt (code_of node.body) (env_of (extend (env_at Tb n vs) (binders node.pat) mb'.fit.bound))) ∷ aim (without node.again parts c.i' c.j'))
        bag_now = bag_trans (c.bag node.again waits (inst body taken.3) waits°)
            (bag_eq (ap₂ (λ (z : ℕ) (P : Proc (Unit {0}) []). item z P ∷ aim (without node.again parts c.i' c.j')) (site_eq p_is)
            (ap (remark forget) body_now ∙ remark_proc forget [] (part side c.j') (code_of node.body) (env_of (extend (env_at Tb n vs) (binders node.pat) mb'.fit.bound)))))

        answer_here : Met (known_all s) b s tau R (meet_step vw.c.side c.i' c.j')
            ⊎ ((a : ℕ) × ((step b s (meet_step vw.c.side c.i' c.j')).answer ≡ refusal a side) × Excused b s (meet_step vw.c.side c.i' c.j') tau a)
        unfolding mb' vv'
        answer_here = answered b s e vw ori own reach ac c.i' c.j' β ch g v n vs gp gq node (part_ok c.i' (output β ch g v) gp) (part_ok c.j' (input β n vs) gq) taken.3 fits taken.5
            (taken.1 ∙ ap chan_in out_is) (taken.2 ∙ ap tag_in out_is) R vv' J' leads bag_now

        with_node : Completed b s tau (joint t u) R
        with_node = (
          (meet_step vw.c.side c.i' c.j', subst (At (wrapper_of b) (meet_step vw.c.side c.i' c.j')) (sym who) meet, asks_meet side c.i' c.j'),
          λ z atz ask. subst (λ (y : Step). Met (known_all s) b s tau R y ⊎ ((a : ℕ) × ((step b s y).answer ≡ refusal a y.side) × Excused b s y tau a)) (sym (parts_step atz side c.i' c.j' who)) answer_here,
        )

      sorted : (c : Pair) (p q : Particle) → c.p ≡ p → c.q ≡ q → Completed b s tau (joint t u) R
      unfolding proc code_of
      sorted c (output β ch g v) (input γ n vs) ep eq =
          let z1 : site_of side k ≡ site_of side β = site_eq (c.is_p ∙ ap (part_item ids Tb side c.i') ep) in
          let z2 : site_of side k ≡ site_of side γ = site_eq (c.is_q ∙ ap (part_item ids Tb side c.j') eq) in
          let same : γ ≡ β = omega (arith, z1, z2) in
          with_node c β ch g v n vs ep (eq ∙ ap (λ (z : ℕ). input z n vs) same) (node_of c.j' γ n vs (c.get_q ∙ ap some eq))
      sorted c (output β ch g v) (output γ ch' g' v') ep eq = absurd (subst (Receives u h.x (comp (plain h.g)) h.v K) (what_eq (c.is_q ∙ ap (part_item ids Tb side c.j') eq)) there)
      sorted c (input γ n vs) q ep eq =
          let node = node_of c.i' γ n vs (c.get_p ∙ ap some ep) in
          absurd (false≢true (sym (ap is_out (what_eq (c.is_p ∙ ap (part_item ids Tb side c.i') ep) ∙ ap (λ (a : Term). proc [] (part side c.i') (code_of a) (env_of (env_at Tb n vs))) node.is))))

      pub in_box : Completed b s tau (joint t u) R
      in_box = let c = couple k h.i h.j out_there in_there h.ne h.get_i h.get_j in sorted c c.p c.q refl refl

  -- an item in a box is a particle of a side
  abbrev AtTop : Item Mark → Type 0
  AtTop i = i.site ≡ 0

  top_forwarders : (w : Wrapper) → Every AtTop (forwarders ids w)
  top_forwarders w = every_app AtTop (map (enters ids w) w.sides) _ (every_has AtTop (enters ids w) w.sides (λ n h. refl))
      (every_app AtTop (map (passes ids w) w.sides) _ (every_has AtTop (passes ids w) w.sides (λ n h. refl)) (every_get AtTop (takes ids) w.routes (λ k r g. refl)))

  top_shelf : (gone : ℕ → Bool) (n i : ℕ) (l : List (List ℕ)) → Every AtTop (shelf_items ids gone n i l)
  top_shelf gone n i [] = tt
  top_shelf gone n i (v ∷ l) = every_app AtTop (cond (gone i) [] (shelf_item ids n i v ∷ [])) (shelf_items ids gone n (suc i) l) (go (gone i)) (top_shelf gone n (suc i) l)
    where
      go : (t : Bool) → Every AtTop (cond t [] (shelf_item ids n i v ∷ []))
      go true = tt
      go false = (refl, tt)

  boxed_side : (site : ℕ) (P : Proc Mark []) (X Y : List (Item Mark)) → (site ≡ 0 → ⊥) → Stands b s X (item site P) Y → (n : ℕ) × (has_side (wrapper_of b) n ≡ true) × (k : ℕ) × (site ≡ site_of n k)
  boxed_side site P X Y nz (forwarder Y1 q) = absurd (nz (every_mid AtTop X (item site P) Y1 (subst (Every AtTop) q (top_forwarders (wrapper_of b)))))
  boxed_side site P X Y nz (shelved n h X1 Y1 q ex ey) = absurd (nz (every_mid AtTop X1 (item site P) Y1 (subst (Every AtTop) q (top_shelf (is_gone s n) n 0 (side_in s n).core.shelf))))
  boxed_side site P X Y nz (message vw ac j m g is gone put) = absurd (nz (site_eq is))
  boxed_side site P X Y nz (particle vw ac j p g is gone put) = let r = part-site p in (vw.c.side, vw.is_side, r.0, site_eq is ∙ r.1)
    where
      part-site : (p : Particle) → (k : ℕ) × ((part_item ids vw.c.table vw.c.side j p).site ≡ site_of vw.c.side k)
      part-site (output β ch g v) = (β, refl)
      part-site (input β n vs) = (β, refl)

  module _ {R : Proc Mark []} {t u : Mark} (vv : Inv R (joint t u)) where
    in_side : (n : ℕ) → has_side (wrapper_of b) n ≡ true → (k : ℕ) → MeetsAt vv.next t u (site_of n k) → Completed b s tau (joint t u) R
    unfolding view
    in_side n g k h = in_box (view b s e n g) (orient b s e n g) (which b.wrapper n g, refl) (reach_boxes b s e ids n g) (answers b s e n g) k vv h

    by_site : (site : ℕ) → (site ≡ 0 → ⊥) → MeetsAt vv.next t u site → Completed b s tau (joint t u) R
    by_site site nz h =
        let P = pout t h.x (comp (plain h.g)) h.v in
        let a = item_at I site h.i P h.get_i in
        let r = boxed_side site P a.X a.Y nz (stands_of b s e a.X (item site P) a.Y a.is) in
        in_side r.0 r.1 r.2 (subst (MeetsAt vv.next t u) r.3 h)

    -- COMPLETE, for the meetings in the boxes: what `meets` gives, at a site that is not the environment
    pub complete_meeting : (site i j : ℕ) (x : ℕ) (g : ITag ℕ) (v : Val ℕ) (m : Mode) (p : Pat) (P : Proc Mark (p ∷ [])) (σ : Vars p → Val ℕ) → i ≢ j → get_elem? (select (conf_of b s).items site) i ≡ some (pout t x (comp (plain g)) v)
        → get_elem? (select (conf_of b s).items site) j ≡ some (pinp m u x g p P) → match p v ≡ some σ → InstOk P σ
        → fill (conf_of b s).boxes (upd (λ k. parallel (select (conf_of b s).items k)) site (parallel (set (set (select (conf_of b s).items site) i pnil) j (after m u x g p P σ)))) ≋ vv.next →
        (site ≡ 0 → ⊥) → Completed b s tau (joint t u) R
    complete_meeting site i j x g v m p P σ ne gi gj fi ok to nz = by_site site nz (record { i = i; j = j; x = x; g = g; v = v; m = m; p = p; P = P; σ = σ; ne = ne; get_i = gi; get_j = gj; fits = fi; ok = ok; to = to })
