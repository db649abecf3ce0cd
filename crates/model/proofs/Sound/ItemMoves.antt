-- Each kind of step, seen at one side's items: the transition, and what stands where after it.
use mathlib.Core.Path.{◌≡◌, refl, sym, ap, ap₂, ◌∙◌, subst}
use mathlib.Core.Bool.{Bool, true, cond}
use mathlib.Core.List.{List, [], ◌∷◌, ◌++◌, map, append_assoc}
use mathlib.Core.Option.{some}
use Prim.Native.Nat.{ℕ}
use native.Mathlib.Omega.{arith}
use borrow.Author.Tests.{eqb-true, ne_eqb}
use lib.Dec.{T}
use lib.ListN.{set, get_elem?}
use Rattle.calculus.specs.Syntax.{Val, AllN, Proc, Tag, plain, received_parent, received_child, replicated, remark, comp, ITag}
use Rattle.calculus.specs.Syntax.{nil as pnil, par as ppar, out as pout, parent as iparent, child as ichild}
use Rattle.calculus.specs.Transitions.{Fn⊆, Label, tau, send, recv, Participants, lone, joint, Out}
use Rattle.calculus.specs.Transitions.{Step as Trans}
use Rattle.calculus.specs.Tree.{Place, fill}
use Rattle.calculus.specs.Tree.{Item}
use Rattle.calculus.specs.Wrappers.{forward_with}
use Rattle.model.specs.Basics.{every, remove}
use Rattle.model.specs.Table.{Table}
use Rattle.model.specs.Side.{Particle, output, input, Message, down, arrived, leaving, Core, Status as SPlace}
use Rattle.model.specs.Wrapper.{Wrapper}
use Rattle.model.specs.Step.{copied}
use Rattle.model.specs.Process.{Mark, inert, leaves_as, val_of, numbered, part_item, msg_proc, msg_item, side_items}
use Rattle.calculus.proofs.Trees.{Wf, Reach, Has}
use Rattle.calculus.proofs.Moves.{Rooted}
use Rattle.calculus.proofs.Parallels.{recv_of}
use Rattle.calculus.proofs.Forwarders.{sends, body_inst, body_defined, sends_marks, copy_items, sends_bag}
use Rattle.calculus.proofs.Bags.{item, at, Bag, bag_app, bag_comm, bag_refl, bag_eq, bag_trans, bag_sym, bag_cons, bag_mid, bag_nil, bag_par, move_root, move_teem, move_rise, move_descend, ritem, ritems, ritems_app}
use Rattle.model.proofs.Processes.ItemFacts.{Each, each_at, out_beyond}
use Rattle.model.proofs.Processes.StateTree.{part_marks, msg_marks}
use Rattle.model.proofs.Basics.Tests.{fst, snd}
use Rattle.model.proofs.Basics.Splits.{split_at, numbered_map, map_add, map_app}
use Rattle.model.proofs.Formed.Keeping.{is_log}

abbrev pub ids : Mark → Mark
ids m = m

abbrev pub forget : Mark → Unit {0}
forget m = tt

abbrev pub plain_m : (w : Wrapper) (side : ℕ) → Message → Item (Unit {0})
plain_m w side m = msg_item forget w side 0 m

abbrev pub plain_p : (T : Table) (side : ℕ) → Particle → Item (Unit {0})
plain_p T side p = part_item forget T side 0 p

pub plain_part : (T : Table) (side i : ℕ) (p : Particle) → ritem forget (part_item ids T side i p) ≡ plain_p T side p
plain_part T side i p = part_marks ids forget T side i p ∙ go p
  where
    go : (p : Particle) → part_item forget T side i p ≡ plain_p T side p
    go (output b c g v) = refl
    go (input b n vs) = refl

pub plain_msg : (w : Wrapper) (side i : ℕ) (m : Message) → ritem forget (msg_item ids w side i m) ≡ plain_m w side m
plain_msg w side i m = msg_marks ids forget w side i m ∙ ap (λ (P : Proc (Unit {0}) []). item 0 P) (go m.status)
  where
    go : (p : SPlace) → msg_proc forget w side i p m.chan m.val ≡ msg_proc forget w side 0 p m.chan m.val
    go down = refl
    go arrived = refl
    go leaving = refl

each_mid : {M : Type 0} (A : List ℕ) (X : List (Item M)) (i : Item M) (Y : List (Item M)) → Each A (X ++ i ∷ Y) → Fn⊆ i.what A
each_mid A [] i Y h = h.0
each_mid A (x ∷ X) i Y h = each_mid A X i Y h.1

module _ {X : Type 0} where
  shuffle1 : (c a z p d : List X) → (c ++ a) ++ (z ++ (p ++ d)) ≡ c ++ (((a ++ z) ++ p) ++ d)
  shuffle1 c a z p d = simp append_assoc

  shuffle2 : (c a z p d : List X) (x : X) → (c ++ a) ++ x ∷ (z ++ (p ++ d)) ≡ c ++ (((a ++ x ∷ z) ++ p) ++ d)
  shuffle2 c a z p d x = simp append_assoc

  shuffle3 : (c l a z d : List X) → (c ++ (l ++ a)) ++ (z ++ d) ≡ c ++ ((l ++ (a ++ z)) ++ d)
  shuffle3 c l a z d = simp append_assoc

  shuffle4 : (c l a z d : List X) (x : X) → (c ++ (l ++ a)) ++ x ∷ (z ++ d) ≡ c ++ ((l ++ (a ++ x ∷ z)) ++ d)
  shuffle4 c l a z d x = simp append_assoc

  last1 : (c m p d : List X) (x : X) → c ++ ((m ++ (p ++ x ∷ [])) ++ d) ≡ (c ++ (m ++ p)) ++ x ∷ d
  last1 c m p d x = simp append_assoc

  last2 : (c m p d : List X) → c ++ ((m ++ p) ++ d) ≡ (c ++ (m ++ p)) ++ d
  last2 c m p d = simp append_assoc

  last3 : (c m x p d : List X) → c ++ (((m ++ x) ++ p) ++ d) ≡ (c ++ m) ++ (x ++ (p ++ d))
  last3 c m x p d = simp append_assoc

  last4 : (c m p d : List X) → c ++ ((m ++ p) ++ d) ≡ (c ++ m) ++ (p ++ d)
  last4 c m p d = simp append_assoc

-- an item that is gone
pub gone_bag : {M : Type 0} (X : List (Item M)) (b : ℕ) (Y : List (Item M)) → Bag (X ++ item b pnil ∷ Y) (X ++ Y)
gone_bag X b Y = bag_trans (bag_mid X (item b pnil) Y) (bag_nil b (X ++ Y))

-- a place of the box tree
abbrev pub place : (site parent name : ℕ) → Mark → Place Mark
place s p n m = record { site = s; parent = p; name = n; mark = m }

-- what the wrapper's inputs send on
pub record Moves (A : List ℕ) (bs : List (Place Mark)) (I : List (Item Mark)) (l : Label) (w : Participants Mark) (target : List (Item (Unit {0}))) : Type 0 where
  pub J : List (Item Mark)
  pub step : Trans A (fill bs (at I)) l w (fill bs (at J))
  pub bag : Bag (ritems forget J) target

pub moves_to : {A : List ℕ} {bs : List (Place Mark)} {I : List (Item Mark)} {l : Label} {w : Participants Mark} {t t' : List (Item (Unit {0}))} → Moves A bs I l w t → Bag t t' → Moves A bs I l w t'
moves_to m h = record { J = m.J; step = m.step; bag = bag_trans m.bag h }

module _ (A : List ℕ) (bs : List (Place Mark)) (wf : Wf A bs) (ro : Rooted bs) where
  -- an item of a list, and what its list is without it
  pub record Found (I : List (Item Mark)) (b : ℕ) (P : Proc Mark []) (rest : List (Item (Unit {0}))) : Type 0 where
    pub X : List (Item Mark)
    pub Y : List (Item Mark)
    pub is : I ≡ X ++ item b P ∷ Y
    pub rest_is : ritems forget X ++ ritems forget Y ≡ rest

  -- an item of a list that is gone, marks forgotten
  pub gone_of : (X Y : List (Item Mark)) (b : ℕ) → Bag (ritems forget (X ++ item b pnil ∷ Y)) (ritems forget X ++ ritems forget Y)
  unfolding remark
  gone_of X Y b = bag_trans (bag_eq (ritems_app forget X (item b pnil ∷ Y))) (gone_bag (ritems forget X) b (ritems forget Y))

  -- an output goes to the environment
  pub go_out : {I : List (Item Mark)} {t : Mark} {x : ℕ} {o : Tag ℕ} {v : Val ℕ} {rest : List (Item (Unit {0}))} → Each A I → Found I 0 (pout t x o v) rest → Moves A bs I (send x o v) (lone t) rest
  go_out {I} {t} {x} {o} {v} {rest} each f =
      let e : Each A (f.X ++ item 0 (pout t x o v) ∷ f.Y) = subst (λ (L : List (Item Mark)). Each A L) f.is each in
      record {
        J = f.X ++ item 0 pnil ∷ f.Y;
        step = subst (λ (L : List (Item Mark)). Trans A (fill bs (at L)) (send x o v) (lone t) (fill bs (at (f.X ++ item 0 pnil ∷ f.Y)))) (sym f.is)
            (move_root A bs wf f.X f.Y (each_at A (f.X ++ item 0 (pout t x o v) ∷ f.Y) e) (Out (each_mid A f.X (item 0 (pout t x o v)) f.Y e)));
        bag = bag_trans (gone_of f.X f.Y 0) (bag_eq f.rest_is);
      }

  -- an output rises out of the box c
  pub go_up_lem : {I : List (Item Mark)} {t : Mark} {x : ℕ} {v : Val ℕ} {rest : List (Item (Unit {0}))} (c : Place Mark) → Has c bs → Each A I → Found I c.site (pout t x (plain iparent) v) rest
      → Moves A bs I tau (lone t) (item c.parent (pout tt x (received_child c.name) v) ∷ rest)
  unfolding AllN remark
  go_up_lem {I} {t} {x} {v} {rest} c has each f =
      let e : Each A (f.X ++ item c.site (pout t x (plain iparent) v) ∷ f.Y) = subst (λ (L : List (Item Mark)). Each A L) f.is each in
      let fo = each_mid A f.X (item c.site (pout t x (plain iparent) v)) f.Y e in
      record {
        J = item c.parent (pout t x (received_child c.name) v) ∷ (f.X ++ item c.site pnil ∷ f.Y);
        step = subst (λ (L : List (Item Mark)). Trans A (fill bs (at L)) tau (lone t) (fill bs (at (item c.parent (pout t x (received_child c.name) v) ∷ (f.X ++ item c.site pnil ∷ f.Y))))) (sym f.is)
            (move_rise A bs wf ro c has f.X f.Y (each_at A (f.X ++ item c.site (pout t x (plain iparent) v) ∷ f.Y) e) (out_beyond A x v fo.0 fo.2) (Out fo));
        bag = bag_cons (item c.parent (pout tt x (received_child c.name) v)) (bag_trans (gone_of f.X f.Y c.site) (bag_eq f.rest_is));
      }

  -- an output goes into the box c
  pub go_into : {I : List (Item Mark)} {t : Mark} {x : ℕ} {v : Val ℕ} {rest : List (Item (Unit {0}))} (c : Place Mark) → Has c bs → Each A I → Found I c.parent (pout t x (plain (ichild c.name)) v) rest
      → Moves A bs I tau (joint t c.mark) (item c.site (pout tt x received_parent v) ∷ rest)
  unfolding AllN remark
  go_into {I} {t} {x} {v} {rest} c has each f =
      let e : Each A (f.X ++ item c.parent (pout t x (plain (ichild c.name)) v) ∷ f.Y) = subst (λ (L : List (Item Mark)). Each A L) f.is each in
      let fo = each_mid A f.X (item c.parent (pout t x (plain (ichild c.name)) v)) f.Y e in
      record {
        J = item c.site (pout t x received_parent v) ∷ (f.X ++ item c.parent pnil ∷ f.Y);
        step = subst (λ (L : List (Item Mark)). Trans A (fill bs (at L)) tau (joint t c.mark) (fill bs (at (item c.site (pout t x received_parent v) ∷ (f.X ++ item c.parent pnil ∷ f.Y))))) (sym f.is)
            (move_descend A bs wf ro c has f.X f.Y (each_at A (f.X ++ item c.parent (pout t x (plain (ichild c.name)) v) ∷ f.Y) e) (out_beyond A x v fo.0 fo.2) (Out fo));
        bag = bag_cons (item c.site (pout tt x received_parent v)) (bag_trans (gone_of f.X f.Y c.parent) (bag_eq f.rest_is));
      }

  -- a forwarder takes a value from the environment, or from an output behind it
  abbrev pub fwd : List ℕ → Mark → ℕ → ITag ℕ → ℕ → ITag ℕ → Proc Mark []
  fwd cs t x i z o = forward_with [] t inert cs x i z o

  -- the copies that it sends, and the message
  abbrev sent : List ℕ → ℕ → ITag ℕ → Val ℕ → Proc Mark []
  sent cs z o v = sends inert cs v (pout inert z (plain o) v)

  sent_on_lem : (cs : List ℕ) {t : Mark} {x : ℕ} {i : ITag ℕ} (z : ℕ) {v : Val ℕ} {u : Mark} (o : ITag ℕ) → Fn⊆ (fwd cs t x i z o) A
      → Trans A (fwd cs t x i z o) (recv x (plain i) v) (joint u t) (ppar (fwd cs t x i z o) (sent cs z o v))
  sent_on_lem cs {t} {x} {i} z {v} {u} o h =
      subst (λ (Q : Proc Mark []). Trans A (fwd cs t x i z o) (recv x (plain i) v) (joint u t) (ppar (fwd cs t x i z o) Q)) (body_inst inert cs z o v)
      (recv_of replicated {σ = λ y. v} h refl (body_defined inert cs z o v))

  -- a process beside another is an item more
  pub par_of : (X Y : List (Item Mark)) (b : ℕ) (P Q : Proc Mark []) → Bag (ritems forget (X ++ item b (ppar P Q) ∷ Y)) (item b (remark forget Q) ∷ ritems forget (X ++ item b P ∷ Y))
  unfolding remark
  par_of X Y b P Q =
      bag_trans (bag_eq (ritems_app forget X (item b (ppar P Q) ∷ Y)))
      (bag_trans (bag_mid (ritems forget X) (item b (ppar (remark forget P) (remark forget Q))) (ritems forget Y))
      (bag_trans (bag_par b (remark forget P) (remark forget Q) (ritems forget X ++ ritems forget Y))
      (bag_trans (bag_mid (item b (remark forget P) ∷ []) (item b (remark forget Q)) (ritems forget X ++ ritems forget Y))
      (bag_cons (item b (remark forget Q)) (bag_trans (bag_sym (bag_mid (ritems forget X) (item b (remark forget P)) (ritems forget Y))) (bag_eq (sym (ritems_app forget X (item b P ∷ Y)))))))))

  -- a forwarder beside what it sent: its copies and its message are items more
  pub sent_of : (X Y : List (Item Mark)) (P : Proc Mark []) (cs : List ℕ) (z : ℕ) (o : ITag ℕ) (v : Val ℕ)
      → Bag (ritems forget (X ++ item 0 (ppar P (sent cs z o v)) ∷ Y)) (copy_items tt cs v ++ item 0 (pout tt z (plain o) v) ∷ ritems forget (X ++ item 0 P ∷ Y))
  unfolding remark
  sent_of X Y P cs z o v =
      bag_trans (par_of X Y 0 P (sent cs z o v))
      (bag_trans (bag_eq (ap (λ (Q : Proc (Unit {0}) []). item 0 Q ∷ ritems forget (X ++ item 0 P ∷ Y)) (sends_marks forget inert cs v (pout inert z (plain o) v))))
      (sends_bag tt cs v (pout tt z (plain o) v) (ritems forget (X ++ item 0 P ∷ Y))))

  pub go_in : {I : List (Item Mark)} (cs : List ℕ) {t : Mark} {x : ℕ} {i : ITag ℕ} (z : ℕ) (o : ITag ℕ) {v : Val ℕ} (u : Mark) (X Y : List (Item Mark)) → I ≡ X ++ item 0 (fwd cs t x i z o) ∷ Y → Each A I
      → Moves A bs I (recv x (plain i) v) (joint u t) (copy_items tt cs v ++ item 0 (pout tt z (plain o) v) ∷ ritems forget I)
  go_in {I} cs {t} {x} {i} z o {v} u X Y is each =
      let F = fwd cs t x i z o in
      let e : Each A (X ++ item 0 F ∷ Y) = subst (λ (L : List (Item Mark)). Each A L) is each in
      record {
        J = X ++ item 0 (ppar F (sent cs z o v)) ∷ Y;
        step = subst (λ (L : List (Item Mark)). Trans A (fill bs (at L)) (recv x (plain i) v) (joint u t) (fill bs (at (X ++ item 0 (ppar F (sent cs z o v)) ∷ Y)))) (sym is)
            (move_root A bs wf X Y (each_at A (X ++ item 0 F ∷ Y) e) (sent_on_lem cs z o (each_mid A X (item 0 F) Y e)));
        bag = bag_trans (sent_of X Y F cs z o v) (bag_eq (ap (λ (L : List (Item Mark)). copy_items tt cs v ++ item 0 (pout tt z (plain o) v) ∷ ritems forget L) (sym is)));
      }

  pub go_on : {I : List (Item Mark)} (cs : List ℕ) {t s : Mark} (z : ℕ) (o : ITag ℕ) (v : Val ℕ) (x : ℕ) (i : ITag ℕ) (r : Reach bs 0) (X Y Z : List (Item Mark)) →
      I ≡ X ++ item 0 (fwd cs t x i z o) ∷ (Y ++ item 0 (pout s x (comp (plain i)) v) ∷ Z) → Each A I
      → Moves A bs I tau (joint s t) (copy_items tt cs v ++ item 0 (pout tt z (plain o) v) ∷ ritems forget (X ++ item 0 (fwd cs t x i z o) ∷ (Y ++ Z)))
  unfolding AllN
  go_on {I} cs {t} {s} z o v x i r X Y Z is each =
      let F = fwd cs t x i z o in
      let e : Each A (X ++ item 0 F ∷ (Y ++ item 0 (pout s x (comp (plain i)) v) ∷ Z)) = subst (λ (L : List (Item Mark)). Each A L) is each in
      let fo = each_mid A (X ++ item 0 F ∷ Y) (item 0 (pout s x (comp (plain i)) v)) Z (subst (λ (L : List (Item Mark)). Each A L) (sym (append_assoc X (item 0 F ∷ Y) (item 0 (pout s x (comp (plain i)) v) ∷ Z))) e) in
      record {
        J = X ++ item 0 (ppar F (sent cs z o v)) ∷ (Y ++ item 0 pnil ∷ Z);
        step = subst (λ (L : List (Item Mark)). Trans A (fill bs (at L)) tau (joint s t) (fill bs (at (X ++ item 0 (ppar F (sent cs z o v)) ∷ (Y ++ item 0 pnil ∷ Z))))) (sym is)
            (move_teem A bs wf {g = plain i} X Y Z 0 r (each_at A (X ++ item 0 F ∷ (Y ++ item 0 (pout s x (comp (plain i)) v) ∷ Z)) e) (out_beyond A x v fo.0 fo.2) (Out fo)
            (sent_on_lem cs z o (each_mid A X (item 0 F) (Y ++ item 0 (pout s x (comp (plain i)) v) ∷ Z) e)));
        bag = bag_trans (sent_of X (Y ++ item 0 pnil ∷ Z) F cs z o v)
            (bag_app (bag_refl {X = copy_items tt cs v}) (bag_cons (item 0 (pout tt z (plain o) v)) (without X Y Z F)));
      }
    where
      without : (X Y Z : List (Item Mark)) (F : Proc Mark []) → Bag (ritems forget (X ++ item 0 F ∷ (Y ++ item 0 pnil ∷ Z))) (ritems forget (X ++ item 0 F ∷ (Y ++ Z)))
      without X Y Z F =
          bag_trans (bag_eq (ap (ritems forget) (sym (append_assoc X (item 0 F ∷ Y) (item 0 pnil ∷ Z)))))
          (bag_trans (gone_of (X ++ item 0 F ∷ Y) Z 0) (bag_eq (sym (ritems_app forget (X ++ item 0 F ∷ Y) Z) ∙ ap (ritems forget) (append_assoc X (item 0 F ∷ Y) Z))))

-- one side's items among the others
module _ (w : Wrapper) (side : ℕ) (T : Table) (C D : List (Item Mark)) (s : Core) where
  abbrev pub whole : List (Item Mark)
  whole = C ++ (side_items ids w side T s ++ D)

  abbrev pub target : List Message → List Particle → List (Item (Unit {0}))
  target l p = ritems forget C ++ ((map (plain_m w side) l ++ map (plain_p T side) p) ++ ritems forget D)

  L° : ritems forget (numbered (msg_item ids w side) 0 s.lobby) ≡ map (plain_m w side) s.lobby
  L° = numbered_map forget (msg_item ids w side) (plain_m w side) (plain_msg w side) 0 s.lobby

  P° : ritems forget (numbered (part_item ids T side) 0 s.contents.particles) ≡ map (plain_p T side) s.contents.particles
  P° = numbered_map forget (part_item ids T side) (plain_p T side) (plain_part T side) 0 s.contents.particles

  pub whole° : ritems forget whole ≡ target s.lobby s.contents.particles
  whole° = ritems_app forget C (side_items ids w side T s ++ D) ∙ ap (λ (r : List (Item (Unit {0}))). ritems forget C ++ r)
      (ritems_app forget (side_items ids w side T s) D ∙ ap (λ (r : List (Item (Unit {0}))). r ++ ritems forget D)
      (ritems_app forget (numbered (msg_item ids w side) 0 s.lobby) (numbered (part_item ids T side) 0 s.contents.particles) ∙ ap₂ (λ (a b : List (Item (Unit {0}))). a ++ b) L° P°))

  pub record LobbyAt (i : ℕ) (m : Message) : Type 0 where
    pub X : List (Item Mark)
    pub Y : List (Item Mark)
    pub is : whole ≡ (C ++ X) ++ msg_item ids w side i m ∷ Y
    pub gone : ritems forget (C ++ X) ++ ritems forget Y ≡ target (remove s.lobby i) s.contents.particles
    pub put : (n : Message) → ritems forget (C ++ X) ++ plain_m w side n ∷ ritems forget Y ≡ target (set s.lobby i n) s.contents.particles

  pub lobby_at : (i : ℕ) (m : Message) → get_elem? s.lobby i ≡ some m → LobbyAt i m
  lobby_at i m e =
      let r = split_at forget (msg_item ids w side) (plain_m w side) (plain_msg w side) 0 s.lobby i m e in
      let P = numbered (part_item ids T side) 0 s.contents.particles in
      record {
        X = r.pre;
        Y = r.post ++ (P ++ D);
        is = ap (λ (L : List (Item Mark)). C ++ ((L ++ P) ++ D)) (r.is ∙ ap (λ (n : ℕ). r.pre ++ msg_item ids w side n m ∷ r.post) (omega arith)) ∙ sym (shuffle2 C r.pre r.post P D (msg_item ids w side i m));
        gone = ap₂ (λ (a b : List (Item (Unit {0}))). a ++ b) (ritems_app forget C r.pre) (post° r.post)
            ∙ shuffle1 (ritems forget C) (ritems forget r.pre) (ritems forget r.post) (map (plain_p T side) s.contents.particles) (ritems forget D)
            ∙ ap (λ (a : List (Item (Unit {0}))). ritems forget C ++ ((a ++ map (plain_p T side) s.contents.particles) ++ ritems forget D)) r.gone;
        put = λ n. ap₂ (λ (a b : List (Item (Unit {0}))). a ++ plain_m w side n ∷ b) (ritems_app forget C r.pre) (post° r.post)
            ∙ shuffle2 (ritems forget C) (ritems forget r.pre) (ritems forget r.post) (map (plain_p T side) s.contents.particles) (ritems forget D) (plain_m w side n)
            ∙ ap (λ (a : List (Item (Unit {0}))). ritems forget C ++ ((a ++ map (plain_p T side) s.contents.particles) ++ ritems forget D)) (r.put n);
      }
    where
      post° : (Q : List (Item Mark)) → ritems forget (Q ++ (numbered (part_item ids T side) 0 s.contents.particles ++ D)) ≡ ritems forget Q ++ (map (plain_p T side) s.contents.particles ++ ritems forget D)
      post° Q = ritems_app forget Q (numbered (part_item ids T side) 0 s.contents.particles ++ D) ∙ ap (λ (a : List (Item (Unit {0}))). ritems forget Q ++ a)
          (ritems_app forget (numbered (part_item ids T side) 0 s.contents.particles) D ∙ ap (λ (a : List (Item (Unit {0}))). a ++ ritems forget D) P°)

  pub record PartAt (i : ℕ) (p : Particle) : Type 0 where
    pub X : List (Item Mark)
    pub Y : List (Item Mark)
    pub is : whole ≡ X ++ part_item ids T side i p ∷ Y
    pub gone : ritems forget X ++ ritems forget Y ≡ target s.lobby (remove s.contents.particles i)
    pub put : (q : Particle) → ritems forget X ++ plain_p T side q ∷ ritems forget Y ≡ target s.lobby (set s.contents.particles i q)

  pub part_at : (i : ℕ) (p : Particle) → get_elem? s.contents.particles i ≡ some p → PartAt i p
  part_at i p e =
      let r = split_at forget (part_item ids T side) (plain_p T side) (plain_part T side) 0 s.contents.particles i p e in
      let L = numbered (msg_item ids w side) 0 s.lobby in
      record {
        X = C ++ (L ++ r.pre);
        Y = r.post ++ D;
        is = ap (λ (P : List (Item Mark)). C ++ ((L ++ P) ++ D)) (r.is ∙ ap (λ (n : ℕ). r.pre ++ part_item ids T side n p ∷ r.post) (omega arith)) ∙ sym (shuffle4 C L r.pre r.post D (part_item ids T side i p));
        gone = ap₂ (λ (a b : List (Item (Unit {0}))). a ++ b) (pre° r.pre) (ritems_app forget r.post D) ∙ shuffle3 (ritems forget C) (map (plain_m w side) s.lobby) (ritems forget r.pre) (ritems forget r.post) (ritems forget D)
            ∙ ap (λ (a : List (Item (Unit {0}))). ritems forget C ++ ((map (plain_m w side) s.lobby ++ a) ++ ritems forget D)) r.gone;
        put = λ q. ap₂ (λ (a b : List (Item (Unit {0}))). a ++ plain_p T side q ∷ b) (pre° r.pre) (ritems_app forget r.post D)
            ∙ shuffle4 (ritems forget C) (map (plain_m w side) s.lobby) (ritems forget r.pre) (ritems forget r.post) (ritems forget D) (plain_p T side q)
            ∙ ap (λ (a : List (Item (Unit {0}))). ritems forget C ++ ((map (plain_m w side) s.lobby ++ a) ++ ritems forget D)) (r.put q);
      }
    where
      pre° : (Q : List (Item Mark)) → ritems forget (C ++ (numbered (msg_item ids w side) 0 s.lobby ++ Q)) ≡ ritems forget C ++ (map (plain_m w side) s.lobby ++ ritems forget Q)
      pre° Q = ritems_app forget C (numbered (msg_item ids w side) 0 s.lobby ++ Q) ∙ ap (λ (a : List (Item (Unit {0}))). ritems forget C ++ a)
          (ritems_app forget (numbered (msg_item ids w side) 0 s.lobby) Q ∙ ap (λ (a : List (Item (Unit {0}))). a ++ ritems forget Q) L°)

  -- one more at the end is one more
  pub add_part : (l : List Message) (ps : List Particle) (p : Particle) → Bag (plain_p T side p ∷ target l ps) (target l (ps ++ p ∷ []))
  add_part l ps p =
      bag_trans (bag_cons (plain_p T side p) (bag_eq (last2 (ritems forget C) (map (plain_m w side) l) (map (plain_p T side) ps) (ritems forget D))))
      (bag_trans (bag_sym (bag_mid (ritems forget C ++ (map (plain_m w side) l ++ map (plain_p T side) ps)) (plain_p T side p) (ritems forget D)))
      (bag_eq (sym (last1 (ritems forget C) (map (plain_m w side) l) (map (plain_p T side) ps) (ritems forget D) (plain_p T side p))
      ∙ ap (λ (a : List (Item (Unit {0}))). ritems forget C ++ ((map (plain_m w side) l ++ a) ++ ritems forget D)) (sym (map_add (plain_p T side) ps p)))))

  -- messages more at the end are items more
  pub add_msgs : (l ms : List Message) (ps : List Particle) → Bag (map (plain_m w side) ms ++ target l ps) (target (l ++ ms) ps)
  add_msgs l ms ps =
      let A = ritems forget C ++ map (plain_m w side) l in
      let B = map (plain_p T side) ps ++ ritems forget D in
      let N = map (plain_m w side) ms in
      bag_trans (bag_app (bag_refl {X = N}) (bag_eq (last4 (ritems forget C) (map (plain_m w side) l) (map (plain_p T side) ps) (ritems forget D))))
      (bag_trans (bag_eq (sym (append_assoc N A B)))
      (bag_trans (bag_app (bag_comm N A) (bag_refl {X = B}))
      (bag_eq (append_assoc A N B ∙ sym (last3 (ritems forget C) (map (plain_m w side) l) N (map (plain_p T side) ps) (ritems forget D))
      ∙ ap (λ (a : List (Item (Unit {0}))). ritems forget C ++ ((a ++ map (plain_p T side) ps) ++ ritems forget D)) (sym (map_app (plain_m w side) l ms))))))

  pub add_msg : (l : List Message) (m : Message) (ps : List Particle) → Bag (plain_m w side m ∷ target l ps) (target (l ++ m ∷ []) ps)
  add_msg l m ps = add_msgs l (m ∷ []) ps

  -- a leaving copy is an output on its own channel, as `log` is not `out`
  pub copied_items : (cs v : List ℕ) → every is_log cs ≡ true → map (plain_m w side) (copied cs v) ≡ copy_items tt cs (val_of v)
  copied_items [] v h = refl
  copied_items (c ∷ cs) v h =
      ap₂ (λ (x : ℕ) (r : List (Item (Unit {0}))). item 0 (pout tt x (plain iparent) (val_of v)) ∷ r) (not_out c (fst _ _ h)) (copied_items cs v (snd _ _ h))
    where
      not_out : (c : ℕ) → is_log c ≡ true → leaves_as w side c ≡ c
      not_out c q = ap (λ (t : Bool). cond t (w.outlet side) c) (ne_eqb c 1 (λ z. let y = eqb-true c 3 q in omega arith))

  -- what a forwarder has sent is copies and a message more at the end of the lobby
  pub add_sent : (cs v : List ℕ) → every is_log cs ≡ true → (l : List Message) (m : Message) (ps : List Particle)
      → Bag (copy_items tt cs (val_of v) ++ plain_m w side m ∷ target l ps) (target (l ++ (copied cs v ++ m ∷ [])) ps)
  add_sent cs v h l m ps =
      bag_trans (bag_eq (ap (λ (a : List (Item (Unit {0}))). a ++ plain_m w side m ∷ target l ps) (sym (copied_items cs v h))
      ∙ sym (append_assoc (map (plain_m w side) (copied cs v)) (plain_m w side m ∷ []) (target l ps)) ∙ ap (λ (a : List (Item (Unit {0}))). a ++ target l ps) (sym (map_app (plain_m w side) (copied cs v) (m ∷ [])))))
      (add_msgs l (copied cs v ++ m ∷ []) ps)
