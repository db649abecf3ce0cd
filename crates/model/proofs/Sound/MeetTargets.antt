-- The meeting: its transition, and the body unfolded.
use mathlib.Core.Path.{◌≡◌, refl, sym, ap, ap₂, ◌∙◌, subst, subst₂, transport}
use mathlib.Core.Bool.{Bool, true, false, cond, false≢true}
use mathlib.Core.List.{List, [], ◌∷◌, ◌++◌, map, append_assoc}
use mathlib.Core.Logic.{⊎_elim}
use Prim.Native.Nat.{ℕ, zero, suc, ◌<◌, ◌≤◌}
use native.Mathlib.Omega.{arith}
use borrow.Author.Tests.{leb-true, ltb-true, eqb-true, ne_eqb}
use lib.Dec.{eqb}
use lib.ListN.{length, get_or, length-map}
use Rattle.calculus.specs.Syntax.{Proc, remark, comp, received_child}
use Rattle.calculus.specs.Congruence.{◌≋◌, rfl, symm, trans}
use Rattle.calculus.specs.Transitions.{In, restrict, tau, Participants}
use Rattle.calculus.specs.Transitions.{Step as Trans}
use Rattle.calculus.specs.Tree.{fill}
use Rattle.calculus.specs.Tree.{Item, select, Conf}
use Rattle.calculus.proofs.Unfolding.{unfold'}
use Rattle.calculus.specs.Tree.{process}
use Rattle.calculus.specs.Named.{proc}
use Rattle.model.specs.Basics.{every, has}
use Rattle.model.specs.Values.{Env}
use Rattle.model.specs.Table.{Table, Term}
use Rattle.model.specs.Side.{Particle, output, input, Message, Contents, Core, State, side as side_in, Tag as STag, within, to_parent, from_parent, to_child, from_child}
use Rattle.model.specs.Unfolding.{defined, unfolds}
use Rattle.model.specs.Wrapper.{all_sides}
use Rattle.model.specs.Load.{Composition, wrapper_of}
use Rattle.model.specs.WellFormed.{Counts, count_of, counts, wf_particle, wf_value, ready}
use Rattle.model.specs.Step.{tags_fit, with_contents, with_particles}
use Rattle.model.specs.Process.{Mark, site_of, code_of, env_of, tag_out, places_of, conf_as, conf_of, new_of}
use Rattle.model.specs.Agreement.{plainly}
use Rattle.calculus.proofs.Marks.{remark_news, remark_all}
use Rattle.calculus.proofs.Restriction.{under_news}
use Rattle.calculus.proofs.Extrusion.{in_news}
use Rattle.calculus.proofs.Bags.{item, at, Bag, bag_refl, bag_eq, bag_trans, bag_sym, bag_cons, bag_comm, bag_app, bag_fill, select_app, ritems, rplaces, remark_bag}
use Rattle.model.proofs.Basics.Tests.{fst, snd, every_mono, or_cases as Bool-cases}
use Rattle.model.proofs.Formed.Growing.{Le, wf_val_mono}
use Rattle.model.proofs.Basics.Environments.{Sized}
use Rattle.model.proofs.Basics.Checked.{Sits}
use Rattle.model.proofs.Formed.Invariant.{positive, size, count_is}
use Rattle.model.proofs.Formed.MeetingKeeps.{mine, fresh_held}
use Rattle.model.proofs.Processes.KnownNames.{known_all, All, held_in, low_in}
use Rattle.model.proofs.Processes.HandlerTerms.{fits_sound}
use Rattle.model.proofs.Processes.ItemFacts.{Each, each_app, part_in, env_in_lem, env_names}
use Rattle.model.proofs.Processes.StateTree.{few as all-few}
use Rattle.model.proofs.Sound.ItemMoves.{forget, plain_m, plain_p, Moves, whole, target, whole°}
use Rattle.model.proofs.Sound.StateMoves.{Goes, fn_all, good_all, no_names}
use Rattle.model.proofs.Sound.SideViews.{View}
use Rattle.model.proofs.Sound.SideSteps.{each_now}
use Rattle.model.proofs.Sound.UnfoldedTerms.{conf_s, unfolded}
use Rattle.model.proofs.Sound.BoxOrder.{Orient, Away}
use Rattle.model.proofs.Sound.UnfoldingGrows.{mt, mt_is, not_next, body_unfolds}

pub fit_comp : (g h : STag) → tags_fit g h ≡ true → tag_out g ≡ comp (tag_out h)
fit_comp within within e = refl
fit_comp within to_parent e = absurd (false≢true e)
fit_comp within from_parent e = absurd (false≢true e)
fit_comp within (to_child m) e = absurd (false≢true e)
fit_comp within (from_child m) e = absurd (false≢true e)
fit_comp to_parent h e = absurd (false≢true e)
fit_comp from_parent within e = absurd (false≢true e)
fit_comp from_parent to_parent e = refl
fit_comp from_parent from_parent e = absurd (false≢true e)
fit_comp from_parent (to_child m) e = absurd (false≢true e)
fit_comp from_parent (from_child m) e = absurd (false≢true e)
fit_comp (to_child n) h e = absurd (false≢true e)
fit_comp (from_child n) within e = absurd (false≢true e)
fit_comp (from_child n) to_parent e = absurd (false≢true e)
fit_comp (from_child n) from_parent e = absurd (false≢true e)
fit_comp (from_child n) (to_child m) e = ap received_child (eqb-true n m e)
fit_comp (from_child n) (from_child m) e = absurd (false≢true e)

each_front : {M : Type 0} (A : List ℕ) (X Y : List (Item M)) → Each A (X ++ Y) → Each A X
each_front A [] Y h = tt
each_front A (i ∷ X) Y h = (h.0, each_front A X Y h.1)

each_back : {M : Type 0} (A : List ℕ) (X Y : List (Item M)) → Each A (X ++ Y) → Each A Y
each_back A [] Y h = h
each_back A (i ∷ X) Y h = each_back A X Y h.1

each_plain : (A : List ℕ) (X : List (Item Mark)) → Each A X → Each A (ritems forget X)
each_plain A [] h = tt
each_plain A (i ∷ X) h = (transport (remark_all forget i.what (In A)) h.0, each_plain A X h.1)

away_plain : (side : ℕ) (X : List (Item Mark)) → Away side X → (k : ℕ) → select (ritems forget X) (site_of side k) ≡ []
away_plain side [] h k = refl
away_plain side (i ∷ X) h k = ap (λ (c : Bool). cond c (remark forget i.what ∷ select (ritems forget X) (site_of side k)) (select (ritems forget X) (site_of side k))) (h.0 k) ∙ away_plain side X h.1 k

pub plain_items : (b : Composition) (t : State) (I : List (Item Mark)) → plainly (restrict (new_of b t) (fill (conf_of b t).boxes (at I))) ≡ restrict (new_of b t) (fill (rplaces forget (conf_of b t).boxes) (at (ritems forget I)))
plain_items b t I = remark_news forget (new_of b t) (fill (conf_of b t).boxes (at I)) ∙ ap (restrict (new_of b t)) (remark_bag forget (conf_of b t).boxes I)

-- the process of a state, by its names, boxes and items
pub process_is : (b : Composition) (t : State) → process (conf_of b t) ≡ restrict (new_of b t) (fill (conf_of b t).boxes (at (conf_of b t).items))
unfolding process conf_as
process_is b t = refl

pub plain_process : (b : Composition) (t : State) → plainly (process (conf_of b t)) ≡ restrict (new_of b t) (fill (rplaces forget (conf_of b t).boxes) (at (ritems forget (conf_of b t).items)))
plain_process b t = ap plainly (process_is b t) ∙ plain_items b t (conf_of b t).items

module _ (b : Composition) (s : State) (e : ready b s ≡ true) (vw : View b s) (ori : Orient b s vw)
    (own : (has vw.c.side all_sides ≡ true) × (vw.core.contents.minted ≡ (side_in s vw.c.side).core.contents.minted)) where
  abbrev side : ℕ
  side = vw.c.side

  abbrev Tb : Table
  Tb = vw.c.table

  abbrev nb : ℕ
  nb = length vw.core.contents.boxes

  abbrev R0 : List (Item (Unit {0}))
  R0 = ritems forget vw.C ++ (map (plain_m (wrapper_of b) side) vw.core.lobby ++ ritems forget vw.D)

  abbrev aim : List Particle → List (Item (Unit {0}))
  aim p = target (wrapper_of b) side Tb vw.C vw.D vw.core vw.core.lobby p

  bag0 : (p : List Particle) → Bag (aim p) (R0 ++ map (plain_p Tb side) p)
  bag0 p = bag_trans (bag_eq (regroup (ritems forget vw.C) (map (plain_m (wrapper_of b) side) vw.core.lobby) (map (plain_p Tb side) p) (ritems forget vw.D)))
      (bag_trans (bag_app {X = ritems forget vw.C ++ map (plain_m (wrapper_of b) side) vw.core.lobby} {X' = ritems forget vw.C ++ map (plain_m (wrapper_of b) side) vw.core.lobby} bag_refl
      (bag_comm (map (plain_p Tb side) p) (ritems forget vw.D)))
      (bag_eq (regroup_back (ritems forget vw.C) (map (plain_m (wrapper_of b) side) vw.core.lobby) (map (plain_p Tb side) p) (ritems forget vw.D))))
    where
      regroup : (c m p d : List (Item (Unit {0}))) → c ++ ((m ++ p) ++ d) ≡ (c ++ m) ++ (p ++ d)
      regroup c m p d = simp append_assoc

      regroup_back : (c m p d : List (Item (Unit {0}))) → (c ++ m) ++ (d ++ p) ≡ (c ++ (m ++ d)) ++ p
      regroup_back c m p d = simp append_assoc

  plain_now : Each (All b s) (aim vw.core.contents.particles)
  plain_now = subst (λ (L : List (Item (Unit {0}))). Each (All b s) L) (whole° (wrapper_of b) side Tb vw.C vw.D vw.core) (each_plain (All b s) (whole (wrapper_of b) side Tb vw.C vw.D vw.core) (each_now b s e vw))

  each_rest : Each (All b s) R0
  each_rest =
      let h = plain_now in
      let C° = ritems forget vw.C in let M° = map (plain_m (wrapper_of b) side) vw.core.lobby in let P° = map (plain_p Tb side) vw.core.contents.particles in let D° = ritems forget vw.D in
      let t = each_back (All b s) C° ((M° ++ P°) ++ D°) h in
      each_app (All b s) C° (M° ++ D°) (each_front (All b s) C° ((M° ++ P°) ++ D°) h) (each_app (All b s) M° D° (each_front (All b s) M° P° (each_front (All b s) (M° ++ P°) D° t)) (each_back (All b s) (M° ++ P°) D° t))

  each_parts : (p : List Particle) → every (wf_particle Tb (counts s) nb) p ≡ true → Each (All b s) (map (plain_p Tb side) p)
  each_parts [] h = tt
  each_parts (x ∷ p) h = (part_in forget (All b s) (counts s) (held_in b s) (low_in b s 0 (omega arith)) Tb vw.checked nb side 0 x (fst _ _ h), each_parts p (snd _ _ h))

  none_parts : (p : List Particle) → every (wf_particle Tb (counts s) nb) p ≡ true → (k : ℕ) → nb ≤ k → select (map (plain_p Tb side) p) (site_of side k) ≡ []
  unfolding wf_particle
  none_parts [] h k l = refl
  none_parts (output a ch g v ∷ p) h k l = ap
      (λ (c : Bool). cond c ((plain_p Tb side (output a ch g v)).what ∷ select (map (plain_p Tb side) p) (site_of side k)) (select (map (plain_p Tb side) p) (site_of side k)))
      (ne_eqb (site_of side k) (site_of side a) (λ q. let z = ltb-true a nb (fst _ _ (fst _ _ h)) in omega arith)) ∙ none_parts p (snd _ _ h) k l
  none_parts (input a n vs ∷ p) h k l = ap
      (λ (c : Bool). cond c ((plain_p Tb side (input a n vs)).what ∷ select (map (plain_p Tb side) p) (site_of side k)) (select (map (plain_p Tb side) p) (site_of side k)))
      (ne_eqb (site_of side k) (site_of side a) (λ q. let z = ltb-true a nb (fst _ _ (fst _ _ h)) in omega arith)) ∙ none_parts p (snd _ _ h) k l

  pos : 1 ≤ side
  pos = (positive vw.c.side own.0).0

  small2 : side ≤ 2
  small2 = (positive vw.c.side own.0).1

  none_msgs : (l : List Message) (k : ℕ) → select (map (plain_m (wrapper_of b) side) l) (site_of side k) ≡ []
  none_msgs [] k = refl
  none_msgs (m ∷ l) k = ap
      (λ (c : Bool). cond c ((plain_m (wrapper_of b) side m).what ∷ select (map (plain_m (wrapper_of b) side) l) (site_of side k)) (select (map (plain_m (wrapper_of b) side) l) (site_of side k)))
      (ne_eqb (site_of side k) 0 (λ q. omega (arith, pos))) ∙ none_msgs l k

  none_all : (p : List Particle) → every (wf_particle Tb (counts s) nb) p ≡ true → (k : ℕ) → nb ≤ k → select (R0 ++ map (plain_p Tb side) p) (site_of side k) ≡ []
  none_all p h k l =
      select_app R0 (map (plain_p Tb side) p) (site_of side k)
      ∙ ap₂ (λ (x y : List (Proc (Unit {0}) [])). x ++ y) (select_app (ritems forget vw.C) (map (plain_m (wrapper_of b) side) vw.core.lobby ++ ritems forget vw.D) (site_of side k)
      ∙ ap₂ (λ (x y : List (Proc (Unit {0}) [])). x ++ y) (away_plain side vw.C ori.away_c k) (select_app (map (plain_m (wrapper_of b) side) vw.core.lobby) (ritems forget vw.D) (site_of side k)
      ∙ ap₂ (λ (x y : List (Proc (Unit {0}) [])). x ++ y) (none_msgs vw.core.lobby k) (away_plain side vw.D ori.away_d k))) (none_parts p h k l)

  abbrev top : Counts
  top = 256 ∷ 256 ∷ []

  le_top : Le (counts s) top
  le_top n = go n (all-few b s e n)
    where
      past : (l : List ℕ) (i : ℕ) → length l ≤ i → get_or l i 0 ≡ 0
      past [] i h = refl
      past (x ∷ l) zero h = absurd (omega arith)
      past (x ∷ l) (suc i) h = past l i (omega arith)

      long : length (counts s) ≡ 2
      long = length-map s.sides _ ∙ size b s e

      go : (n : ℕ) → (side_in s n).core.contents.minted ≤ 256 → count_of (counts s) n ≤ count_of top n
      go zero f = omega arith
      go (suc zero) f = omega (arith, f, count_is s 1)
      go (suc (suc zero)) f = omega (arith, f, count_is s 2)
      go (suc (suc (suc n))) f = let z = past (counts s) (suc (suc n)) (omega (arith, long)) in omega arith

  mine_top : mine vw.c top ≡ 256
  mine_top = ⊎_elim (λ q. ap (count_of top) (eqb-true vw.c.side 1 q))
      (λ q. ⊎_elim (λ r. ap (count_of top) (eqb-true vw.c.side 2 r)) (λ r. absurd (false≢true r)) (Bool-cases (eqb vw.c.side 2) false q)) (Bool-cases (eqb vw.c.side 1) (has vw.c.side (2 ∷ [])) own.0)

  -- a body at a box, beside other items X, is the next state beside them
  pub grown_cong : (X : List (Item (Unit {0}))) → Each (All b s) X → ((k : ℕ) → select X (site_of side k) ≡ []) → {σ : List ℕ} {a : Term} → Sits Tb σ a → (ρ : Env) → ρ.names ≡ σ → Sized ρ →
      every (wf_value (counts s)) ρ.vals ≡ true → defined a ρ ≡ true
      → (β : ℕ) → β < nb → (p0 : List Particle) → every (wf_particle Tb (counts s) nb) p0 ≡ true → (unfolds side a ρ β (with_particles vw.core.contents p0)).minted ≤ 256
      → restrict (new_of b s) (fill (rplaces forget (conf_of b s).boxes) (at (item (site_of side β) (proc [] tt (code_of a) (env_of ρ)) ∷ (X ++ aim p0))))
      ≋ restrict (new_of b (vw.next (with_contents vw.core (unfolds side a ρ β (with_particles vw.core.contents p0))) vw.left))
      (fill (rplaces forget (conf_of b (vw.next (with_contents vw.core (unfolds side a ρ β (with_particles vw.core.contents p0))) vw.left)).boxes)
      (at (X ++ ritems forget (conf_of b (vw.next (with_contents vw.core (unfolds side a ρ β (with_particles vw.core.contents p0))) vw.left)).items)))
  unfolding process
  grown_cong X e_x a_x {σ} {a} si ρ nm sz vs ft β lb p0 wp few = trans s1
      (trans s2 (trans s3 (trans (subst (λ (Z : Conf (Unit {0})). process (unfold' (mt side) (site_of side) tt (code_of a) (env_of ρ) (site_of side β) C0) ≋ process Z) s4 rfl)
      (trans s5 (symm (ori.orient k few (X ++ ritems forget (conf_of b s').items)))))))
    where
      u0 : Contents
      u0 = with_particles vw.core.contents p0

      u : Contents
      u = unfolds side a ρ β u0

      k : Core
      k = with_contents vw.core u

      s' : State
      s' = vw.next k vw.left

      P : Proc (Unit {0}) []
      P = proc [] tt (code_of a) (env_of ρ)

      C0 : Conf (Unit {0})
      C0 = conf_s Tb side ori.Bo (X ++ R0) ori.Nm u0

      bag_x : (p : List Particle) → Bag (X ++ aim p) ((X ++ R0) ++ map (plain_p Tb side) p)
      bag_x p = bag_trans (bag_app {X = X} {X' = X} bag_refl (bag0 p)) (bag_eq (sym (append_assoc X R0 (map (plain_p Tb side) p))))

      s1 : restrict (new_of b s) (fill (rplaces forget (conf_of b s).boxes) (at (item (site_of side β) P ∷ (X ++ aim p0)))) ≋ restrict (new_of b s) (fill (rplaces forget (conf_of b s).boxes) (at (item (site_of side β) P ∷ C0.items)))
      s1 = in_news (new_of b s) (bag_fill (rplaces forget (conf_of b s).boxes) (bag_cons (item (site_of side β) P) (bag_x p0)))

      s2 : restrict (new_of b s) (fill (rplaces forget (conf_of b s).boxes) (at (item (site_of side β) P ∷ C0.items))) ≋ restrict (ori.Nm vw.core.contents.minted)
          (fill (places_of forget side 0 vw.core.contents.boxes ori.Bo) (at (item (site_of side β) P ∷ C0.items)))
      s2 = subst (λ (t : State). restrict (new_of b t) (fill (rplaces forget (conf_of b t).boxes) (at (item (site_of side β) P ∷ C0.items))) ≋ restrict (ori.Nm vw.core.contents.minted)
          (fill (places_of forget side 0 vw.core.contents.boxes ori.Bo) (at (item (site_of side β) P ∷ C0.items)))) ori.is_now
          (ori.orient vw.core now-few (item (site_of side β) P ∷ C0.items))
        where
          now-few : vw.core.contents.minted ≤ 256
          now-few = leb-true vw.core.contents.minted 256 (snd _ _ (snd _ _ vw.ok.contents.few))

      none_x : (k : ℕ) → nb ≤ k → select C0.items (site_of side k) ≡ []
      none_x k l = select_app (X ++ R0) (map (plain_p Tb side) p0) (site_of side k)
          ∙ ap (λ (z : List (Proc (Unit {0}) [])). z ++ select (map (plain_p Tb side) p0) (site_of side k)) (select_app X R0 (site_of side k) ∙ ap (λ (z : List (Proc (Unit {0}) [])). z ++ select R0 (site_of side k)) (a_x k))
          ∙ sym (select_app R0 (map (plain_p Tb side) p0) (site_of side k)) ∙ none_all p0 wp k l

      s3 : restrict C0.names (fill C0.boxes (at (item (site_of side β) P ∷ C0.items))) ≋ process (unfold' (mt side) (site_of side) tt (code_of a) (env_of ρ) (site_of side β) C0)
      s3 = body_unfolds side small2 (All b s) vw.core.contents.minted (not_next b s (all-few b s e) side vw.core.contents.minted own.0 own.1) C0 refl β lb ori.wf_b (ori.reach_b β lb) none_x
          (each_app (All b s) (X ++ R0) (map (plain_p Tb side) p0) (each_app (All b s) X R0 e_x each_rest) (each_parts p0 wp)) (code_of a) (env_of ρ)
          (fits_sound si [] ρ (env_of ρ) sz (env_names forget (All b s) (counts s) (held_in b s) (low_in b s 0 (omega arith)) ρ vs) ft) (env_in_lem forget (All b s) (counts s) (held_in b s) (low_in b s 0 (omega arith)) ρ vs)

      s4 : unfold' (mt side) (site_of side) tt (code_of a) (env_of ρ) (site_of side β) C0 ≡ conf_s Tb side ori.Bo (X ++ R0) ori.Nm u
      s4 = unfolded Tb side ori.Bo (X ++ R0) ori.Nm (mt side) top vw.core.contents.minted 256 (mt_is side) (λ n l h. ori.more n l h ∙ ap (λ (x : ℕ). ori.Nm n ++ x ∷ []) (sym (mt_is side n h)))
          (λ n l. (fresh_held vw.c top own.0 256 mine_top (omega arith) n l).0) (λ n l. (fresh_held vw.c top own.0 256 mine_top (omega arith) n l).1)
          si ρ nm sz (every_mono (wf_value (counts s)) (wf_value top) (wf_val_mono (counts s) top le_top) ρ.vals vs) ft β u0 vw.ok.contents.box0 (omega arith) few

      s5 : process (conf_s Tb side ori.Bo (X ++ R0) ori.Nm u) ≋ restrict (ori.Nm u.minted) (fill (places_of forget side 0 u.boxes ori.Bo) (at (X ++ ritems forget (conf_of b s').items)))
      s5 = in_news (ori.Nm u.minted) (bag_fill (places_of forget side 0 u.boxes ori.Bo) (bag_trans (bag_sym (bag_x u.particles)) (bag_app {X = X} {X' = X} bag_refl (bag_eq (sym (vw.items_next k vw.left refl refl))))))

  -- from a body at a box to the next state
  pub grown_goes : {who : Participants Mark} {σ : List ℕ} {a : Term} → Sits Tb σ a → (ρ : Env) → ρ.names ≡ σ → Sized ρ → every (wf_value (counts s)) ρ.vals ≡ true → defined a ρ ≡ true → (β : ℕ) →
      β < nb → (p0 : List Particle) → every (wf_particle Tb (counts s) nb) p0 ≡ true
      → (unfolds side a ρ β (with_particles vw.core.contents p0)).minted ≤ 256
      → Moves (All b s) (conf_of b s).boxes (conf_of b s).items tau who (item (site_of side β) (proc [] tt (code_of a) (env_of ρ)) ∷ aim p0)
      → Goes b s (vw.next (with_contents vw.core (unfolds side a ρ β (with_particles vw.core.contents p0))) vw.left) tau who
  grown_goes {who} {σ} {a} si ρ nm sz vs ft β lb p0 wp few mv = record {
    R = restrict (new_of b s) (fill (conf_of b s).boxes (at mv.J));
    step = subst (λ (P : Proc Mark []). Trans (known_all s) P tau who (restrict (new_of b s) (fill (conf_of b s).boxes (at mv.J)))) (sym (process_is b s))
        (under_news (new_of b s) (known_all s) (good_all b s e) (fn_all b s e) (no_names (new_of b s)) mv.step);
    to = subst₂ (λ (P Q : Proc (Unit {0}) []). P ≋ Q) (sym (plain_items b s mv.J)) (sym (plain_process b s'))
        (trans (in_news (new_of b s) (bag_fill (rplaces forget (conf_of b s).boxes) mv.bag)) (grown_cong [] tt (λ k. refl) si ρ nm sz vs ft β lb p0 wp few));
  }
    where
      s' : State
      s' = vw.next (with_contents vw.core (unfolds side a ρ β (with_particles vw.core.contents p0))) vw.left
