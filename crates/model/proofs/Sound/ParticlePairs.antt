-- An output and an input of one box meet.
use mathlib.Core.Path.{◌≡◌, refl, sym, ap, ap₂, ◌∙◌, subst}
use mathlib.Core.Bool.{Bool, true, false, cond}
use mathlib.Core.List.{List, [], ◌∷◌, ◌++◌, map, append_assoc}
use mathlib.Core.Option.{some}
use Prim.Native.Nat.{ℕ, ◌<◌}
use native.Mathlib.Omega.{arith}
use borrow.Author.Tests.{lt-ltb, le-ltb, ltb-true, ltb-false}
use lib.Dec.{ltb}
use lib.ListN.{get_elem?}
use Rattle.calculus.specs.Syntax.{Val, Proc, Tag, comp, remark}
use Rattle.calculus.specs.Syntax.{nil as pnil, par as ppar}
use Rattle.calculus.specs.Transitions.{names, beyond, tau, send, recv, lone, joint}
use Rattle.calculus.specs.Transitions.{Step as Trans}
use Rattle.calculus.specs.Tree.{Place, fill}
use Rattle.calculus.specs.Tree.{Item}
use Rattle.model.specs.Basics.{remove}
use Rattle.model.specs.Table.{Table}
use Rattle.model.specs.Side.{Particle, Core}
use Rattle.model.specs.Step.{without}
use Rattle.model.specs.Wrapper.{Wrapper}
use Rattle.model.specs.Process.{Mark, numbered, part_item, msg_item}
use Rattle.calculus.proofs.Trees.{Wf, Reach}
use Rattle.calculus.proofs.Bags.{item, at, Bag, bag_refl, bag_eq, bag_trans, bag_sym, bag_cons, bag_mid, bag_par, bag_app, move_meet, move_teem, ritem, ritems, ritems_app}
use Rattle.model.proofs.Processes.ItemFacts.{Each, each_at}
use Rattle.model.proofs.Basics.Splits.{split_two, numbered_map}
use Rattle.model.proofs.Sound.ItemMoves.{ids, forget, plain_m, plain_p, plain_part, plain_msg, Moves, whole, target, gone_bag}

module _ {X : Type 0} where
  two_in : (c l a m z d : List X) (x y : X) → c ++ ((l ++ (a ++ x ∷ (m ++ y ∷ z))) ++ d) ≡ (c ++ (l ++ a)) ++ x ∷ (m ++ y ∷ (z ++ d))
  two_in c l a m z d x y = simp append_assoc

  pub two_out : (c l a m z d : List X) → (c ++ (l ++ a)) ++ (m ++ (z ++ d)) ≡ c ++ ((l ++ (a ++ (m ++ z))) ++ d)
  two_out c l a m z d = simp append_assoc

  pub one_first : (c l a m z d : List X) (x : X) → (c ++ (l ++ a)) ++ x ∷ (m ++ (z ++ d)) ≡ c ++ ((l ++ (a ++ x ∷ (m ++ z))) ++ d)
  one_first c l a m z d x = simp append_assoc

  pub one_second : (c l a m z d : List X) (y : X) → (c ++ (l ++ a)) ++ (m ++ y ∷ (z ++ d)) ≡ c ++ ((l ++ (a ++ (m ++ y ∷ z))) ++ d)
  one_second c l a m z d y = simp append_assoc

-- what an input leaves beside its body
abbrev pub leaves : {M : Type 0} → Bool → Proc M [] → Proc M [] → Proc M []
leaves true Q B = ppar Q B
leaves false Q B = B

module _ (w : Wrapper) (side : ℕ) (T : Table) (C D : List (Item Mark)) (s : Core) where
  pub record PairAt (i : ℕ) (x : Particle) (j : ℕ) (y : Particle) : Type 0 where
    pub X : List (Item Mark)
    pub Y : List (Item Mark)
    pub Z : List (Item Mark)
    pub is : whole w side T C D s ≡ X ++ part_item ids T side i x ∷ (Y ++ part_item ids T side j y ∷ Z)
    pub gone : ritems forget X ++ (ritems forget Y ++ ritems forget Z) ≡ target w side T C D s s.lobby (remove (remove s.contents.particles j) i)
    pub first_gone : ritems forget X ++ (ritems forget Y ++ plain_p T side y ∷ ritems forget Z) ≡ target w side T C D s s.lobby (remove s.contents.particles i)
    pub second_gone : ritems forget X ++ plain_p T side x ∷ (ritems forget Y ++ ritems forget Z) ≡ target w side T C D s s.lobby (remove s.contents.particles j)

  pub pair_at : (i : ℕ) (x : Particle) (j : ℕ) (y : Particle) → i < j → get_elem? s.contents.particles i ≡ some x → get_elem? s.contents.particles j ≡ some y → PairAt i x j y
  pair_at i x j y lt e e' =
      let r = split_two forget (part_item ids T side) (plain_p T side) (plain_part T side) 0 s.contents.particles i x j y lt e e' in
      let L = numbered (msg_item ids w side) 0 s.lobby in
      let C° = ritems forget C in let D° = ritems forget D in let L° = map (plain_m w side) s.lobby in
      let a = ritems forget r.pre in let m = ritems forget r.mid in let z = ritems forget r.post in
      record {
        X = C ++ (L ++ r.pre);
        Y = r.mid;
        Z = r.post ++ D;
        is = ap (λ (P : List (Item Mark)). C ++ ((L ++ P) ++ D))
            (r.is ∙ ap₂ (λ (p q : ℕ). r.pre ++ part_item ids T side p x ∷ (r.mid ++ part_item ids T side q y ∷ r.post)) (omega arith) (omega arith))
            ∙ two_in C L r.pre r.mid r.post D (part_item ids T side i x) (part_item ids T side j y);
        gone = ap₂ (λ (p q : List (Item (Unit {0}))). p ++ (m ++ q)) (pre° r.pre) (ritems_app forget r.post D) ∙ two_out C° L° a m z D° ∙ ap (λ (q : List (Item (Unit {0}))). C° ++ ((L° ++ q) ++ D°)) r.gone;
        first_gone = ap₂ (λ (p q : List (Item (Unit {0}))). p ++ (m ++ plain_p T side y ∷ q)) (pre° r.pre) (ritems_app forget r.post D) ∙ one_second C° L° a m z D° (plain_p T side y)
            ∙ ap (λ (q : List (Item (Unit {0}))). C° ++ ((L° ++ q) ++ D°)) r.first_gone;
        second_gone = ap₂ (λ (p q : List (Item (Unit {0}))). p ++ plain_p T side x ∷ (m ++ q)) (pre° r.pre) (ritems_app forget r.post D) ∙ one_first C° L° a m z D° (plain_p T side x)
            ∙ ap (λ (q : List (Item (Unit {0}))). C° ++ ((L° ++ q) ++ D°)) r.second_gone;
      }
    where
      pre° : (Q : List (Item Mark)) → ritems forget (C ++ (numbered (msg_item ids w side) 0 s.lobby ++ Q)) ≡ ritems forget C ++ (map (plain_m w side) s.lobby ++ ritems forget Q)
      pre° Q = ritems_app forget C (numbered (msg_item ids w side) 0 s.lobby ++ Q) ∙ ap (λ (a : List (Item (Unit {0}))). ritems forget C ++ a)
          (ritems_app forget (numbered (msg_item ids w side) 0 s.lobby) Q ∙ ap (λ (a : List (Item (Unit {0}))). a ++ ritems forget Q) (numbered_map forget (msg_item ids w side) (plain_m w side) (plain_msg w side) 0 s.lobby))

  three : (X Y Z : List (Item Mark)) (u v : Item Mark) → ritems forget (X ++ u ∷ (Y ++ v ∷ Z)) ≡ ritems forget X ++ ritem forget u ∷ (ritems forget Y ++ ritem forget v ∷ ritems forget Z)
  three X Y Z u v = ritems_app forget X (u ∷ (Y ++ v ∷ Z)) ∙ ap (λ (r : List (Item (Unit {0}))). ritems forget X ++ ritem forget u ∷ r) (ritems_app forget Y (v ∷ Z))

  -- the body first
  body_first : (again : Bool) (b : ℕ) (Q B : Proc Mark []) (X Y : List (Item (Unit {0}))) → Bag (X ++ ritem forget (item b (leaves again Q B)) ∷ Y) (item b (remark forget B) ∷ (X ++ (cond again (ritem forget (item b Q) ∷ []) [] ++ Y)))
  unfolding remark
  body_first true b Q B X Y =
      bag_trans (bag_mid X (item b (ppar (remark forget Q) (remark forget B))) Y) (bag_trans (bag_par b (remark forget Q) (remark forget B) (X ++ Y))
      (bag_trans (bag_mid (item b (remark forget Q) ∷ []) (item b (remark forget B)) (X ++ Y)) (bag_cons (item b (remark forget B)) (bag_sym (bag_mid X (item b (remark forget Q)) Y)))))
  body_first false b Q B X Y = bag_mid X (item b (remark forget B)) Y

  -- what a meeting leaves: the output before the input, and behind it
  module _ (again : Bool) (b : ℕ) (Q B : Proc Mark []) (p q : Particle) (i j : ℕ) (Q° : ritem forget (item b Q) ≡ plain_p T side q) where
    pub before_bag : i < j → (a : PairAt i p j q) →
        Bag (ritems forget (a.X ++ item b pnil ∷ (a.Y ++ item b (leaves again Q B) ∷ a.Z))) (item b (remark forget B) ∷ target w side T C D s s.lobby (without again s.contents.particles i j))
    unfolding remark
    before_bag lt a =
        bag_trans (bag_eq (three a.X a.Y a.Z (item b pnil) (item b (leaves again Q B)))) (bag_trans (gone_bag (ritems forget a.X) b (ritems forget a.Y ++ ritem forget (item b (leaves again Q B)) ∷ ritems forget a.Z))
        (bag_trans (bag_app {X = ritems forget a.X} {X' = ritems forget a.X} bag_refl (body_first again b Q B (ritems forget a.Y) (ritems forget a.Z)))
        (bag_trans (bag_mid (ritems forget a.X) (item b (remark forget B)) (ritems forget a.Y ++ (cond again (ritem forget (item b Q) ∷ []) [] ++ ritems forget a.Z))) (bag_cons (item b (remark forget B)) (bag_eq (last again))))))
      where
        last : (again : Bool) → ritems forget a.X ++ (ritems forget a.Y ++ (cond again (ritem forget (item b Q) ∷ []) [] ++ ritems forget a.Z)) ≡ target w side T C D s s.lobby (without again s.contents.particles i j)
        last true = ap (λ (z : Item (Unit {0})). ritems forget a.X ++ (ritems forget a.Y ++ z ∷ ritems forget a.Z)) Q° ∙ a.first_gone
        last false = a.gone ∙ ap (λ (c : Bool). target w side T C D s s.lobby (cond c (remove (remove s.contents.particles j) i) (remove (remove s.contents.particles i) j))) (sym (lt-ltb i j lt))

    pub behind_bag : j < i → (a : PairAt j q i p) →
        Bag (ritems forget (a.X ++ item b (leaves again Q B) ∷ (a.Y ++ item b pnil ∷ a.Z))) (item b (remark forget B) ∷ target w side T C D s s.lobby (without again s.contents.particles i j))
    unfolding remark
    behind_bag lt a =
        bag_trans (bag_eq (three a.X a.Y a.Z (item b (leaves again Q B)) (item b pnil)))
        (bag_trans (body_first again b Q B (ritems forget a.X) (ritems forget a.Y ++ item b pnil ∷ ritems forget a.Z))
        (bag_cons (item b (remark forget B))
        (bag_trans (bag_app {X = ritems forget a.X} {X' = ritems forget a.X} bag_refl
        (bag_app {X = cond again (ritem forget (item b Q) ∷ []) []} {X' = cond again (ritem forget (item b Q) ∷ []) []} bag_refl (gone_bag (ritems forget a.Y) b (ritems forget a.Z))))
        (bag_eq (last again)))))
      where
        last : (again : Bool) → ritems forget a.X ++ (cond again (ritem forget (item b Q) ∷ []) [] ++ (ritems forget a.Y ++ ritems forget a.Z)) ≡ target w side T C D s s.lobby (without again s.contents.particles i j)
        last true = ap (λ (z : Item (Unit {0})). ritems forget a.X ++ z ∷ (ritems forget a.Y ++ ritems forget a.Z)) Q° ∙ a.second_gone
        last false = a.gone ∙ ap (λ (c : Bool). target w side T C D s s.lobby (cond c (remove (remove s.contents.particles j) i) (remove (remove s.contents.particles i) j))) (sym (le-ltb i j (omega arith)))

  module _ (A : List ℕ) (bs : List (Place Mark)) (wf : Wf A bs) (each : Each A (whole w side T C D s)) (again : Bool) (b : ℕ) (P Q B : Proc Mark []) (r : Reach bs b) {x : ℕ} {v : Val ℕ} {t u : Mark} (g : Tag ℕ)
      (nb : beyond A (x ∷ names v) ≡ []) (d_p : Trans A P (send x (comp g) v) (lone t) pnil) (d_q : Trans A Q (recv x g v) (joint t u) (leaves again Q B)) (p q : Particle) (i j : ℕ)
      (ep : part_item ids T side i p ≡ item b P) (eq : part_item ids T side j q ≡ item b Q) (gp : get_elem? s.contents.particles i ≡ some p) (gq : get_elem? s.contents.particles j ≡ some q) where
    Q° : ritem forget (item b Q) ≡ plain_p T side q
    Q° = ap (ritem forget) (sym eq) ∙ plain_part T side j q

    before : i < j → Moves A bs (whole w side T C D s) tau (joint t u) (item b (remark forget B) ∷ target w side T C D s s.lobby (without again s.contents.particles i j))
    unfolding remark
    before lt =
        let a = pair_at i p j q lt gp gq in
        let is_it : whole w side T C D s ≡ a.X ++ item b P ∷ (a.Y ++ item b Q ∷ a.Z) = a.is ∙ ap₂ (λ (y z : Item Mark). a.X ++ y ∷ (a.Y ++ z ∷ a.Z)) ep eq in
        let e : Each A (a.X ++ item b P ∷ (a.Y ++ item b Q ∷ a.Z)) = subst (λ (L : List (Item Mark)). Each A L) is_it each in
        record {
          J = a.X ++ item b pnil ∷ (a.Y ++ item b (leaves again Q B) ∷ a.Z);
          step = subst (λ (L : List (Item Mark)). Trans A (fill bs (at L)) tau (joint t u) (fill bs (at (a.X ++ item b pnil ∷ (a.Y ++ item b (leaves again Q B) ∷ a.Z))))) (sym is_it)
              (move_meet A bs wf {g = g} a.X a.Y a.Z b r (each_at A (a.X ++ item b P ∷ (a.Y ++ item b Q ∷ a.Z)) e) nb d_p d_q);
          bag = before_bag again b Q B p q i j Q° lt a;
        }

    behind : j < i → Moves A bs (whole w side T C D s) tau (joint t u) (item b (remark forget B) ∷ target w side T C D s s.lobby (without again s.contents.particles i j))
    unfolding remark
    behind lt =
        let a = pair_at j q i p lt gq gp in
        let is_it : whole w side T C D s ≡ a.X ++ item b Q ∷ (a.Y ++ item b P ∷ a.Z) = a.is ∙ ap₂ (λ (y z : Item Mark). a.X ++ y ∷ (a.Y ++ z ∷ a.Z)) eq ep in
        let e : Each A (a.X ++ item b Q ∷ (a.Y ++ item b P ∷ a.Z)) = subst (λ (L : List (Item Mark)). Each A L) is_it each in
        record {
          J = a.X ++ item b (leaves again Q B) ∷ (a.Y ++ item b pnil ∷ a.Z);
          step = subst (λ (L : List (Item Mark)). Trans A (fill bs (at L)) tau (joint t u) (fill bs (at (a.X ++ item b (leaves again Q B) ∷ (a.Y ++ item b pnil ∷ a.Z))))) (sym is_it)
              (move_teem A bs wf {g = g} a.X a.Y a.Z b r (each_at A (a.X ++ item b Q ∷ (a.Y ++ item b P ∷ a.Z)) e) nb d_p d_q);
          bag = behind_bag again b Q B p q i j Q° lt a;
        }

    pub go_meet : (i ≡ j → ⊥) → Moves A bs (whole w side T C D s) tau (joint t u) (item b (remark forget B) ∷ target w side T C D s s.lobby (without again s.contents.particles i j))
    go_meet ne = go (ltb i j) refl
      where
        go : (c : Bool) → ltb i j ≡ c → Moves A bs (whole w side T C D s) tau (joint t u) (item b (remark forget B) ∷ target w side T C D s s.lobby (without again s.contents.particles i j))
        go true e = before (ltb-true i j e)
        go false e = let h = ltb-false i j e in behind (omega (arith, ne))
