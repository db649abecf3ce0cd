-- Where a move takes place: the item that it takes is a message, a particle, or one of the others; what stands where after it, item by item.
use mathlib.Core.Path.{◌≡◌, refl, sym, ap, ap₂, ◌∙◌, subst, subst₂}
use mathlib.Core.Bool.{Bool, true, false, cond}
use mathlib.Core.List.{List, [], ◌∷◌, ◌++◌, map, append_assoc}
use mathlib.Core.Option.{some}
use Prim.Native.Nat.{ℕ, suc, ◌+◌}
use native.Mathlib.Omega.{arith}
use lib.Dec.{eqb}
use lib.ListN.{length, get_elem?, set}
use Rattle.calculus.specs.Syntax.{Proc}
use Rattle.calculus.specs.Syntax.{par as ppar}
use Rattle.calculus.specs.Congruence.{◌≋◌, rfl, in_par}
use Rattle.calculus.specs.Parallel.{parallel}
use Rattle.calculus.specs.Tree.{Place, upd, fill}
use Rattle.calculus.specs.Tree.{Item, select}
use Rattle.model.specs.Basics.{remove}
use Rattle.model.specs.Table.{Table}
use Rattle.model.specs.Wrapper.{Wrapper}
use Rattle.model.specs.Side.{Particle, Message, Core}
use Rattle.model.specs.Process.{Mark, numbered, part_item, msg_item, side_items}
use Rattle.calculus.proofs.Trees.{fill_cong, upd_same, upd_other}
use Rattle.calculus.proofs.FreeNames.{eqb-true}
use Rattle.calculus.proofs.Bags.{item, at, select_app, ritem, ritems, ritems_app}
use Rattle.model.proofs.Basics.Splits.{numbered_map}
use Rattle.model.proofs.Sound.ItemMoves.{ids, forget, plain_m, plain_p, plain_part, plain_msg, target}
use Rattle.model.proofs.Complete.StateInversion.{ItemAt}
use Rattle.model.proofs.Basics.Tests.{head_eq, tail_eq}

-- a list split at an element, in its first part or in its second
pub data Part {A : Type 0} (L R X : List A) (i : A) (Y : List A) : Type 0 where
  in_first : (Y1 : List A) → L ≡ X ++ i ∷ Y1 → Y ≡ Y1 ++ R → Part L R X i Y
  in_second : (X1 : List A) → R ≡ X1 ++ i ∷ Y → X ≡ L ++ X1 → Part L R X i Y

pub part_of : {A : Type 0} (L R X : List A) (i : A) (Y : List A) → L ++ R ≡ X ++ i ∷ Y → Part L R X i Y
part_of [] R X i Y e = in_second X e refl
part_of (x ∷ L) R [] i Y e = in_first L (ap (λ (z : _). z ∷ L) (head_eq e)) (sym (tail_eq e))
part_of {A} (x ∷ L) R (y ∷ X) i Y e = go (part_of L R X i Y (tail_eq e))
  where
    go : Part L R X i Y → Part (x ∷ L) R (y ∷ X) i Y
    go (in_first Y1 p q) = in_first Y1 (ap₂ (λ (z : A) (l : List A). z ∷ l) (head_eq e) p) q
    go (in_second X1 p q) = in_second X1 p (ap₂ (λ (z : A) (l : List A). z ∷ l) (sym (head_eq e)) q)

-- an element of a numbered list has its position
module _ {Z M U : Type 0} (h : M → U) (g : ℕ → Z → Item M) (f : Z → Item U) (eq : (i : ℕ) (x : Z) → ritem h (g i x) ≡ f x) where
  pub record Numbered (n : ℕ) (l : List Z) (X : List (Item M)) (i : Item M) (Y : List (Item M)) : Type 0 where
    pub j : ℕ
    pub x : Z
    pub get : get_elem? l j ≡ some x
    pub is : i ≡ g (n + j) x
    pub gone : ritems h X ++ ritems h Y ≡ map f (remove l j)
    pub put : (y : Z) → ritems h X ++ f y ∷ ritems h Y ≡ map f (set l j y)

  pub numbered_at : (n : ℕ) (l : List Z) (X : List (Item M)) (i : Item M) (Y : List (Item M)) → numbered g n l ≡ X ++ i ∷ Y → Numbered n l X i Y
  numbered_at n [] [] i Y e = absurd (let z : ◌≡◌ {A = ℕ} 0 (suc (length Y)) = ap length e in omega arith)
  numbered_at n [] (y ∷ X) i Y e = absurd (let z : ◌≡◌ {A = ℕ} 0 (suc (length (X ++ i ∷ Y))) = ap length e in omega arith)
  numbered_at n (x ∷ l) [] i Y e = record {
    j = 0;
    x = x;
    get = refl;
    is = sym (head_eq e) ∙ ap (λ (a : ℕ). g a x) (omega arith);
    gone = ap (ritems h) (sym (tail_eq e)) ∙ numbered_map h g f eq (suc n) l;
    put = λ y. ap (λ (r : List (Item U)). f y ∷ r) (ap (ritems h) (sym (tail_eq e)) ∙ numbered_map h g f eq (suc n) l);
  }
  numbered_at n (x ∷ l) (y ∷ X) i Y e = let r = numbered_at (suc n) l X i Y (tail_eq e) in record {
    j = suc r.j;
    x = r.x;
    get = r.get;
    is = r.is ∙ ap (λ (a : ℕ). g a r.x) (omega arith);
    gone = ap₂ (λ (a : Item U) (q : List (Item U)). a ∷ q) (ap (ritem h) (sym (head_eq e)) ∙ eq n x) r.gone;
    put = λ z. ap₂ (λ (a : Item U) (q : List (Item U)). a ∷ q) (ap (ritem h) (sym (head_eq e)) ∙ eq n x) (r.put z);
  }

module _ (w : Wrapper) (side : ℕ) (T : Table) (C D : List (Item Mark)) (s : Core) where
  abbrev aim : List Message → List Particle → List (Item (Unit {0}))
  aim l p = target w side T C D s l p

  -- which thing of a side an item is, and what stands beside it
  pub data Where (X : List (Item Mark)) (i : Item Mark) (Y : List (Item Mark)) : Type 0 where
    message : (j : ℕ) (m : Message) → get_elem? s.lobby j ≡ some m → i ≡ msg_item ids w side j m → ritems forget X ++ ritems forget Y ≡ aim (remove s.lobby j) s.contents.particles
        → ((n : Message) → ritems forget X ++ plain_m w side n ∷ ritems forget Y ≡ aim (set s.lobby j n) s.contents.particles) → Where X i Y
    particle : (j : ℕ) (p : Particle) → get_elem? s.contents.particles j ≡ some p → i ≡ part_item ids T side j p → ritems forget X ++ ritems forget Y ≡ aim s.lobby (remove s.contents.particles j)
        → ((q : Particle) → ritems forget X ++ plain_p T side q ∷ ritems forget Y ≡ aim s.lobby (set s.contents.particles j q)) → Where X i Y

  L : List (Item Mark)
  L = numbered (msg_item ids w side) 0 s.lobby

  P : List (Item Mark)
  P = numbered (part_item ids T side) 0 s.contents.particles

  L° : ritems forget L ≡ map (plain_m w side) s.lobby
  unfolding L
  L° = numbered_map forget (msg_item ids w side) (plain_m w side) (plain_msg w side) 0 s.lobby

  P° : ritems forget P ≡ map (plain_p T side) s.contents.particles
  unfolding P
  P° = numbered_map forget (part_item ids T side) (plain_p T side) (plain_part T side) 0 s.contents.particles

  shuffle_m : (c a z p d : List (Item (Unit {0}))) → (c ++ a) ++ ((z ++ p) ++ d) ≡ c ++ (((a ++ z) ++ p) ++ d)
  shuffle_m c a z p d = simp append_assoc

  shuffle_m' : (c a z p d : List (Item (Unit {0}))) (x : Item (Unit {0})) → (c ++ a) ++ x ∷ ((z ++ p) ++ d) ≡ c ++ (((a ++ x ∷ z) ++ p) ++ d)
  shuffle_m' c a z p d x = simp append_assoc

  shuffle_p : (c l a z d : List (Item (Unit {0}))) → (c ++ (l ++ a)) ++ (z ++ d) ≡ c ++ ((l ++ (a ++ z)) ++ d)
  shuffle_p c l a z d = simp append_assoc

  shuffle_p' : (c l a z d : List (Item (Unit {0}))) (x : Item (Unit {0})) → (c ++ (l ++ a)) ++ x ∷ (z ++ d) ≡ c ++ ((l ++ (a ++ x ∷ z)) ++ d)
  shuffle_p' c l a z d x = simp append_assoc

  app3 : (a z p d : List (Item Mark)) → ritems forget ((z ++ p) ++ d) ≡ (ritems forget z ++ ritems forget p) ++ ritems forget d
  app3 a z p d = ritems_app forget (z ++ p) d ∙ ap (λ (r : List (Item (Unit {0}))). r ++ ritems forget d) (ritems_app forget z p)

  pub where_of : (X1 X2 X : List (Item Mark)) (i : Item Mark) (Y : List (Item Mark)) → X ≡ C ++ X1 → side_items ids w side T s ≡ X1 ++ i ∷ X2 → Y ≡ X2 ++ D → Where X i Y
  unfolding L P
  where_of X1 X2 X i Y ex e ey = third (part_of L P X1 i X2 e)
    where
      third : Part L P X1 i X2 → Where X i Y
      third (in_first Y3 p q) =
          let r = numbered_at forget (msg_item ids w side) (plain_m w side) (plain_msg w side) 0 s.lobby X1 i Y3 p in
          let xs : ritems forget X ≡ ritems forget C ++ ritems forget X1 = ap (ritems forget) ex ∙ ritems_app forget C X1 in
          let ys : ritems forget Y ≡ (ritems forget Y3 ++ map (plain_p T side) s.contents.particles) ++ ritems forget D =
          ap (ritems forget) (ey ∙ ap (λ (z : List (Item Mark)). z ++ D) q) ∙ app3 [] Y3 P D ∙ ap (λ (z : List (Item (Unit {0}))). (ritems forget Y3 ++ z) ++ ritems forget D) P° in
          message r.j r.x r.get (r.is ∙ ap (λ (n : ℕ). msg_item ids w side n r.x) (omega arith))
          (ap₂ (λ (a c : List (Item (Unit {0}))). a ++ c) xs ys ∙ shuffle_m (ritems forget C) (ritems forget X1) (ritems forget Y3) (map (plain_p T side) s.contents.particles) (ritems forget D)
          ∙ ap (λ (a : List (Item (Unit {0}))). ritems forget C ++ ((a ++ map (plain_p T side) s.contents.particles) ++ ritems forget D)) r.gone)
          (λ n. ap₂ (λ (a c : List (Item (Unit {0}))). a ++ plain_m w side n ∷ c) xs ys ∙ shuffle_m' (ritems forget C) (ritems forget X1) (ritems forget Y3) (map (plain_p T side) s.contents.particles) (ritems forget D) (plain_m w side n)
          ∙ ap (λ (a : List (Item (Unit {0}))). ritems forget C ++ ((a ++ map (plain_p T side) s.contents.particles) ++ ritems forget D)) (r.put n))
      third (in_second X3 p q) =
          let r = numbered_at forget (part_item ids T side) (plain_p T side) (plain_part T side) 0 s.contents.particles X3 i X2 p in
          let xs : ritems forget X ≡ ritems forget C ++ (map (plain_m w side) s.lobby ++ ritems forget X3) =
          ap (ritems forget) (ex ∙ ap (λ (z : List (Item Mark)). C ++ z) q) ∙ ritems_app forget C (L ++ X3)
          ∙ ap (λ (z : List (Item (Unit {0}))). ritems forget C ++ z) (ritems_app forget L X3 ∙ ap (λ (z : List (Item (Unit {0}))). z ++ ritems forget X3) L°) in
          let ys : ritems forget Y ≡ ritems forget X2 ++ ritems forget D = ap (ritems forget) ey ∙ ritems_app forget X2 D in
          particle r.j r.x r.get (r.is ∙ ap (λ (n : ℕ). part_item ids T side n r.x) (omega arith))
          (ap₂ (λ (a c : List (Item (Unit {0}))). a ++ c) xs ys ∙ shuffle_p (ritems forget C) (map (plain_m w side) s.lobby) (ritems forget X3) (ritems forget X2) (ritems forget D)
          ∙ ap (λ (a : List (Item (Unit {0}))). ritems forget C ++ ((map (plain_m w side) s.lobby ++ a) ++ ritems forget D)) r.gone)
          (λ n. ap₂ (λ (a c : List (Item (Unit {0}))). a ++ plain_p T side n ∷ c) xs ys ∙ shuffle_p' (ritems forget C) (map (plain_m w side) s.lobby) (ritems forget X3) (ritems forget X2) (ritems forget D) (plain_p T side n)
          ∙ ap (λ (a : List (Item (Unit {0}))). ritems forget C ++ ((map (plain_m w side) s.lobby ++ a) ++ ritems forget D)) (r.put n))

-- what stands where after a move, item by item
module _ {M : Type 0} (bs : List (Place M)) (I : List (Item M)) where
  abbrev content : ℕ → Proc M []
  content k = parallel (select I k)

  off : (X Y : List (Item M)) (b k : ℕ) (P Q : Proc M []) → I ≡ X ++ item b P ∷ Y → eqb k b ≡ false → select I k ≡ select (X ++ item b Q ∷ Y) k
  off X Y b k P Q e n = ap (λ (Z : List (Item M)). select Z k) e ∙ gap P ∙ sym (gap Q)
    where
      gap : (R : Proc M []) → select (X ++ item b R ∷ Y) k ≡ select X k ++ select Y k
      gap R = select_app X (item b R ∷ Y) k ∙ ap (λ (c : Bool). select X k ++ cond c (R ∷ select Y k) (select Y k)) n

  -- one item changed
  pub one_changed : (b i : ℕ) (P Q : Proc M []) (a : ItemAt I b i P) → fill bs (upd content b (parallel (set (select I b) i Q))) ≋ fill bs (at (a.X ++ item b Q ∷ a.Y))
  one_changed b i P Q a = fill_cong bs (upd content b (parallel (set (select I b) i Q))) (at (a.X ++ item b Q ∷ a.Y)) (λ k. go k (eqb k b) refl)
    where
      go : (k : ℕ) (c : Bool) → eqb k b ≡ c → upd content b (parallel (set (select I b) i Q)) k ≋ at (a.X ++ item b Q ∷ a.Y) k
      go k true q = subst₂ (λ (Y Z : Proc M []). Y ≋ Z) (sym (upd_same content b k (parallel (set (select I b) i Q)) q)) (ap (λ (z : ℕ). at (a.X ++ item b Q ∷ a.Y) z) (sym (eqb-true q)))
          (subst (λ (l : List (Proc M [])). parallel l ≋ at (a.X ++ item b Q ∷ a.Y) b) (sym (a.put Q)) rfl)
      go k false q = subst₂ (λ (Y Z : Proc M []). Y ≋ Z) (sym (upd_other content b k (parallel (set (select I b) i Q)) q)) (ap parallel (off a.X a.Y b k P Q a.is q)) rfl

  -- one item changed, and another added at another site
  pub one_moved : (b c i : ℕ) (P Q R : Proc M []) (a : ItemAt I b i P) → eqb c b ≡ false → eqb b c ≡ false →
      fill bs (upd (upd content b (parallel (set (select I b) i Q))) c (ppar R (content c))) ≋ fill bs (at (item c R ∷ (a.X ++ item b Q ∷ a.Y)))
  one_moved b c i P Q R a n n' = fill_cong bs F (at (item c R ∷ (a.X ++ item b Q ∷ a.Y))) (λ k. go k (eqb k c) refl (eqb k b) refl)
    where
      F : ℕ → Proc M []
      F = upd (upd content b (parallel (set (select I b) i Q))) c (ppar R (content c))

      Z : List (Item M)
      Z = a.X ++ item b Q ∷ a.Y

      go : (k : ℕ) (t : Bool) → eqb k c ≡ t → (u : Bool) → eqb k b ≡ u → F k ≋ at (item c R ∷ Z) k
      go k true q u r = subst₂ (λ (Y1 Y2 : Proc M []). Y1 ≋ Y2) (sym (upd_same (upd content b (parallel (set (select I b) i Q))) c k (ppar R (content c)) q))
          (ap (λ (t : Bool). parallel (cond t (R ∷ select Z k) (select Z k))) (sym q))
          (in_par rfl (subst₂ (λ (Y1 Y2 : Proc M []). Y1 ≋ Y2) (ap content (eqb-true q)) refl
          (subst (λ (l : List (Proc M [])). content k ≋ parallel l) (off a.X a.Y b k P Q a.is (subst (λ (z : ℕ). eqb z b ≡ false) (sym (eqb-true q)) n)) rfl)))
      go k false q true r = subst₂ (λ (Y1 Y2 : Proc M []). Y1 ≋ Y2) (sym (upd_other (upd content b (parallel (set (select I b) i Q))) c k (ppar R (content c)) q ∙ upd_same content b k (parallel (set (select I b) i Q)) r))
          (ap (λ (t : Bool). parallel (cond t (R ∷ select Z k) (select Z k))) (sym q))
          (subst (λ (z : ℕ). parallel (set (select I b) i Q) ≋ parallel (select Z z)) (sym (eqb-true r)) (subst (λ (l : List (Proc M [])). parallel l ≋ parallel (select Z b)) (sym (a.put Q)) rfl))
      go k false q false r = subst₂ (λ (Y1 Y2 : Proc M []). Y1 ≋ Y2) (sym (upd_other (upd content b (parallel (set (select I b) i Q))) c k (ppar R (content c)) q ∙ upd_other content b k (parallel (set (select I b) i Q)) r))
          (ap (λ (t : Bool). parallel (cond t (R ∷ select Z k) (select Z k))) (sym q)) (subst (λ (l : List (Proc M [])). content k ≋ parallel l) (off a.X a.Y b k P Q a.is r) rfl)

-- two items of one site changed, one after the other
pub two_changed : {M : Type 0} (bs : List (Place M)) (I : List (Item M)) (b i j : ℕ) (P Q P' Q' : Proc M []) (a : ItemAt I b i P) (c : ItemAt (a.X ++ item b Q ∷ a.Y) b j P')
    → fill bs (upd (λ k. parallel (select I k)) b (parallel (set (set (select I b) i Q) j Q'))) ≋ fill bs (at (c.X ++ item b Q' ∷ c.Y))
two_changed {M} bs I b i j P Q P' Q' a c = fill_cong bs F (at (c.X ++ item b Q' ∷ c.Y)) (λ k. go k (eqb k b) refl)
  where
    F : ℕ → Proc M []
    F = upd (λ k. parallel (select I k)) b (parallel (set (set (select I b) i Q) j Q'))

    go : (k : ℕ) (t : Bool) → eqb k b ≡ t → F k ≋ at (c.X ++ item b Q' ∷ c.Y) k
    go k true q = subst₂ (λ (Y Z : Proc M []). Y ≋ Z) (sym (upd_same (λ k. parallel (select I k)) b k (parallel (set (set (select I b) i Q) j Q')) q)) (ap (λ (z : ℕ). at (c.X ++ item b Q' ∷ c.Y) z) (sym (eqb-true q)))
        (subst (λ (l : List (Proc M [])). parallel l ≋ at (c.X ++ item b Q' ∷ c.Y) b) (sym (ap (λ (l : List (Proc M [])). set l j Q') (a.put Q) ∙ c.put Q')) rfl)
    go k false q = subst₂ (λ (Y Z : Proc M []). Y ≋ Z) (sym (upd_other (λ k. parallel (select I k)) b k (parallel (set (set (select I b) i Q) j Q')) q))
        (ap parallel (off bs I a.X a.Y b k P Q a.is q ∙ off bs (a.X ++ item b Q ∷ a.Y) c.X c.Y b k P' Q' c.is q)) rfl
