-- Two items of one site that a move takes: where they stand in the list of items, and which particles they are.
use mathlib.Core.Path.{◌≡◌, refl, sym, ap, ap₂, ◌∙◌, subst, subst₂}
use mathlib.Core.Bool.{Bool, true, false, cond, false≢true}
use mathlib.Core.List.{List, [], ◌∷◌, ◌++◌, map}
use mathlib.Core.Option.{some}
use Prim.Native.Nat.{ℕ, zero, suc, ◌+◌, ◌<◌, ◌≤◌}
use native.Mathlib.Omega.{arith}
use borrow.Author.Tests.{eq-eqb}
use lib.Dec.{eqb}
use lib.ListN.{length, get_elem?, set}
use Rattle.calculus.specs.Syntax.{Proc}
use Rattle.calculus.specs.Congruence.{◌≋◌, rfl}
use Rattle.calculus.specs.Parallel.{parallel}
use Rattle.calculus.specs.Tree.{Place, upd, fill}
use Rattle.calculus.specs.Tree.{Item, select}
use Rattle.model.specs.Basics.{remove}
use Rattle.model.specs.Table.{Table}
use Rattle.model.specs.Wrapper.{Wrapper}
use Rattle.model.specs.Side.{Particle, Message, Core}
use Rattle.model.specs.Process.{Mark, site_of, numbered, part_item, msg_item, side_items}
use Rattle.calculus.proofs.Trees.{same, fill_cong, upd_same, upd_other}
use Rattle.calculus.proofs.FreeNames.{eqb-true}
use Rattle.calculus.proofs.Bags.{item, at, select_app, ritem, ritems, ritems_app}
use Rattle.model.proofs.Basics.Splits.{numbered_map}
use Rattle.model.proofs.Sound.ItemMoves.{ids, forget, plain_m, plain_p, plain_part, plain_msg, whole, target}
use Rattle.model.proofs.Sound.BoxOrder.{Away}
use Rattle.model.proofs.Sound.ParticlePairs.{PairAt, two_out, one_first, one_second}
use Rattle.model.proofs.Complete.StateInversion.{item_at}
use Rattle.model.proofs.Complete.ItemPlaces.{Part, part_of, in_first, in_second, numbered_at}
use Rattle.model.proofs.Basics.Tests.{no_some, some_inj, head_eq, tail_eq}

-- two places set, in either order
pub set_swap : {A : Type 0} (l : List A) (i j : ℕ) (x y : A) → (i ≡ j → ⊥) → set (set l i x) j y ≡ set (set l j y) i x
set_swap [] i j x y n = refl
set_swap (z ∷ l) zero zero x y n = absurd (n refl)
set_swap (z ∷ l) zero (suc j) x y n = refl
set_swap (z ∷ l) (suc i) zero x y n = refl
set_swap (z ∷ l) (suc i) (suc j) x y n = ap (λ (q : List _). z ∷ q) (set_swap l i j x y (λ q. n (ap suc q)))

-- two items of one site, the first before the second
pub record TwoAt {M : Type 0} (I : List (Item M)) (k i j : ℕ) (P Q : Proc M []) : Type 0 where
  pub X : List (Item M)
  pub Y : List (Item M)
  pub Z : List (Item M)
  pub is : I ≡ X ++ item k P ∷ (Y ++ item k Q ∷ Z)
  pub put : (P' Q' : Proc M []) → set (set (select I k) i P') j Q' ≡ select (X ++ item k P' ∷ (Y ++ item k Q' ∷ Z)) k

pub two_at : {M : Type 0} (I : List (Item M)) (k i j : ℕ) (P Q : Proc M []) → i < j → get_elem? (select I k) i ≡ some P → get_elem? (select I k) j ≡ some Q → TwoAt I k i j P Q
two_at [] k i j P Q lt e e' = absurd (no_some e)
two_at {M} (x ∷ I) k i j P Q lt e e' = go (eqb k x.site) refl i j lt e e' (λ i j lt e e'. two_at I k i j P Q lt e e')
  where
    L : List (Proc M [])
    L = select I k

    skip : (c : Bool) → eqb k x.site ≡ c → (Z : List (Item M)) → select (x ∷ Z) k ≡ cond c (x.what ∷ select Z k) (select Z k)
    skip c q Z = ap (λ (t : Bool). cond t (x.what ∷ select Z k) (select Z k)) q

    go : (c : Bool) → eqb k x.site ≡ c → (i j : ℕ) → i < j → get_elem? (cond c (x.what ∷ L) L) i ≡ some P → get_elem? (cond c (x.what ∷ L) L) j ≡ some Q
        → ((i j : ℕ) → i < j → get_elem? L i ≡ some P → get_elem? L j ≡ some Q → TwoAt I k i j P Q) → TwoAt (x ∷ I) k i j P Q
    go true q i zero lt e e' ih = absurd (omega arith)
    go true q zero (suc j) lt e e' ih = let r = item_at I k j Q e' in record {
      X = [];
      Y = r.X;
      Z = r.Y;
      is = ap₂ (λ (z : Item M) (l : List (Item M)). z ∷ l) (ap₂ (λ (z : ℕ) (R : Proc M []). item z R) (sym (eqb-true q)) (some_inj e)) r.is;
      put = λ P' Q'. ap (λ (l : List (Proc M [])). set (set l zero P') (suc j) Q') (skip true q I) ∙ ap (λ (l : List (Proc M [])). P' ∷ l) (r.put Q')
          ∙ sym (ap (λ (t : Bool). cond t (P' ∷ select (r.X ++ item k Q' ∷ r.Y) k) (select (r.X ++ item k Q' ∷ r.Y) k)) (same k));
    }
    go true q (suc i) (suc j) lt e e' ih = let r = ih i j (omega arith) e e' in record {
      X = x ∷ r.X;
      Y = r.Y;
      Z = r.Z;
      is = ap (λ (l : List (Item M)). x ∷ l) r.is;
      put = λ P' Q'. ap (λ (l : List (Proc M [])). set (set l (suc i) P') (suc j) Q') (skip true q I) ∙ ap (λ (l : List (Proc M [])). x.what ∷ l) (r.put P' Q') ∙ sym (skip true q (r.X ++ item k P' ∷ (r.Y ++ item k Q' ∷ r.Z)));
    }
    go false q i j lt e e' ih = let r = ih i j lt e e' in record {
      X = x ∷ r.X;
      Y = r.Y;
      Z = r.Z;
      is = ap (λ (l : List (Item M)). x ∷ l) r.is;
      put = λ P' Q'. ap (λ (l : List (Proc M [])). set (set l i P') j Q') (skip false q I) ∙ r.put P' Q' ∙ sym (skip false q (r.X ++ item k P' ∷ (r.Y ++ item k Q' ∷ r.Z)));
    }

-- what stands where with two items of one site changed
module _ {M : Type 0} (bs : List (Place M)) (I : List (Item M)) where
  abbrev content : ℕ → Proc M []
  content k = parallel (select I k)

  pub two_changed : (b : ℕ) (L : List (Proc M [])) (X Y Z : List (Item M)) (P Q P' Q' : Proc M []) → I ≡ X ++ item b P ∷ (Y ++ item b Q ∷ Z) → L ≡ select (X ++ item b P' ∷ (Y ++ item b Q' ∷ Z)) b
      → fill bs (upd content b (parallel L)) ≋ fill bs (at (X ++ item b P' ∷ (Y ++ item b Q' ∷ Z)))
  two_changed b L X Y Z P Q P' Q' e l = fill_cong bs (upd content b (parallel L)) (at J) (λ k. go k (eqb k b) refl)
    where
      J : List (Item M)
      J = X ++ item b P' ∷ (Y ++ item b Q' ∷ Z)

      gap : (k : ℕ) (R S : Proc M []) → eqb k b ≡ false → select (X ++ item b R ∷ (Y ++ item b S ∷ Z)) k ≡ select X k ++ (select Y k ++ select Z k)
      gap k R S n = select_app X (item b R ∷ (Y ++ item b S ∷ Z)) k ∙ ap (λ (c : Bool). select X k ++ cond c (R ∷ select (Y ++ item b S ∷ Z) k) (select (Y ++ item b S ∷ Z) k)) n
          ∙ ap (λ (l : List (Proc M [])). select X k ++ l) (select_app Y (item b S ∷ Z) k ∙ ap (λ (c : Bool). select Y k ++ cond c (S ∷ select Z k) (select Z k)) n)

      go : (k : ℕ) (c : Bool) → eqb k b ≡ c → upd content b (parallel L) k ≋ at J k
      go k true q = subst₂ (λ (A B : Proc M []). A ≋ B) (sym (upd_same content b k (parallel L) q)) (ap (λ (z : ℕ). at J z) (sym (eqb-true q))) (subst (λ (z : List (Proc M [])). parallel z ≋ at J b) (sym l) rfl)
      go k false q = subst₂ (λ (A B : Proc M []). A ≋ B) (sym (upd_other content b k (parallel L) q)) (ap parallel (ap (λ (z : List (Item M)). select z k) e ∙ gap k P Q q ∙ sym (gap k P' Q' q))) rfl

-- two elements of a numbered list
module _ {A M U : Type 0} (h : M → U) (g : ℕ → A → Item M) (f : A → Item U) (eq : (i : ℕ) (x : A) → ritem h (g i x) ≡ f x) where
  pub record NumberedTwo (n : ℕ) (l : List A) (X : List (Item M)) (u : Item M) (Y : List (Item M)) (w : Item M) (Z : List (Item M)) : Type 0 where
    pub i : ℕ
    pub j : ℕ
    pub x : A
    pub y : A
    pub before : i < j
    pub get_i : get_elem? l i ≡ some x
    pub get_j : get_elem? l j ≡ some y
    pub is_i : u ≡ g (n + i) x
    pub is_j : w ≡ g (n + j) y
    pub gone : ritems h X ++ (ritems h Y ++ ritems h Z) ≡ map f (remove (remove l j) i)
    pub first_gone : ritems h X ++ (ritems h Y ++ f y ∷ ritems h Z) ≡ map f (remove l i)
    pub second_gone : ritems h X ++ f x ∷ (ritems h Y ++ ritems h Z) ≡ map f (remove l j)

  set_same : (l : List A) (j : ℕ) (y : A) → get_elem? l j ≡ some y → set l j y ≡ l
  set_same [] j y e = refl
  set_same (w ∷ l) zero y e = ap (λ (a : A). a ∷ l) (sym (some_inj e))
  set_same (w ∷ l) (suc j) y e = ap (λ (q : List A). w ∷ q) (set_same l j y e)

  pub numbered_two : (n : ℕ) (l : List A) (X : List (Item M)) (u : Item M) (Y : List (Item M)) (w : Item M) (Z : List (Item M)) → numbered g n l ≡ X ++ u ∷ (Y ++ w ∷ Z) → NumberedTwo n l X u Y w Z
  numbered_two n [] [] u Y w Z e = absurd (let z : ◌≡◌ {A = ℕ} 0 (suc (length (Y ++ w ∷ Z))) = ap length e in omega arith)
  numbered_two n [] (v ∷ X) u Y w Z e = absurd (let z : ◌≡◌ {A = ℕ} 0 (suc (length (X ++ u ∷ (Y ++ w ∷ Z)))) = ap length e in omega arith)
  numbered_two n (x ∷ l) [] u Y w Z e = let r = numbered_at h g f eq (suc n) l Y w Z (tail_eq e) in record {
    i = 0;
    j = suc r.j;
    x = x;
    y = r.x;
    before = omega arith;
    get_i = refl;
    get_j = r.get;
    is_i = sym (head_eq e) ∙ ap (λ (a : ℕ). g a x) (omega arith);
    is_j = r.is ∙ ap (λ (a : ℕ). g a r.x) (omega arith);
    gone = r.gone;
    first_gone = r.put r.x ∙ ap (map f) (set_same l r.j r.x r.get);
    second_gone = ap (λ (q : List (Item U)). f x ∷ q) r.gone;
  }
  numbered_two n (x ∷ l) (v ∷ X) u Y w Z e = let r = numbered_two (suc n) l X u Y w Z (tail_eq e) in record {
    i = suc r.i;
    j = suc r.j;
    x = r.x;
    y = r.y;
    before = omega (arith, r.before);
    get_i = r.get_i;
    get_j = r.get_j;
    is_i = r.is_i ∙ ap (λ (a : ℕ). g a r.x) (omega arith);
    is_j = r.is_j ∙ ap (λ (a : ℕ). g a r.y) (omega arith);
    gone = ap₂ (λ (a : Item U) (q : List (Item U)). a ∷ q) (ap (ritem h) (sym (head_eq e)) ∙ eq n x) r.gone;
    first_gone = ap₂ (λ (a : Item U) (q : List (Item U)). a ∷ q) (ap (ritem h) (sym (head_eq e)) ∙ eq n x) r.first_gone;
    second_gone = ap₂ (λ (a : Item U) (q : List (Item U)). a ∷ q) (ap (ritem h) (sym (head_eq e)) ∙ eq n x) r.second_gone;
  }

-- an item of a site of a side is none of those that stand elsewhere
pub not_away : {M : Type 0} (side k : ℕ) (I X : List (Item M)) (P : Proc M []) (Y : List (Item M)) → Away side I → I ≡ X ++ item (site_of side k) P ∷ Y → ⊥
not_away side k [] [] P Y h e = let z : ◌≡◌ {A = ℕ} 0 (suc (length Y)) = ap length e in omega arith
not_away side k [] (x ∷ X) P Y h e = let z : ◌≡◌ {A = ℕ} 0 (suc (length (X ++ item (site_of side k) P ∷ Y))) = ap length e in omega arith
not_away {M} side k (i ∷ I) [] P Y h e = false≢true (sym (h.0 k) ∙ eq-eqb (site_of side k) i.site (sym (ap (λ (z : Item M). z.site) (head_eq e))))
not_away side k (i ∷ I) (x ∷ X) P Y h e = not_away side k I X P Y h.1 (tail_eq e)

module _ (w : Wrapper) (side : ℕ) (T : Table) (C D : List (Item Mark)) (s : Core) (away_c : Away side C) (away_d : Away side D) (pos : 1 ≤ side) where
  -- two items of a side's box are two of its particles
  pub record TwoParts (X : List (Item Mark)) (u : Item Mark) (Y : List (Item Mark)) (v : Item Mark) (Z : List (Item Mark)) : Type 0 where
    pub i : ℕ
    pub j : ℕ
    pub p : Particle
    pub q : Particle
    pub before : i < j
    pub get_i : get_elem? s.contents.particles i ≡ some p
    pub get_j : get_elem? s.contents.particles j ≡ some q
    pub is_i : u ≡ part_item ids T side i p
    pub is_j : v ≡ part_item ids T side j q
    pub gone : ritems forget X ++ (ritems forget Y ++ ritems forget Z) ≡ target w side T C D s s.lobby (remove (remove s.contents.particles j) i)
    pub first_gone : ritems forget X ++ (ritems forget Y ++ plain_p T side q ∷ ritems forget Z) ≡ target w side T C D s s.lobby (remove s.contents.particles i)
    pub second_gone : ritems forget X ++ plain_p T side p ∷ (ritems forget Y ++ ritems forget Z) ≡ target w side T C D s s.lobby (remove s.contents.particles j)

  away_l : (n : ℕ) (l : List Message) → Away side (numbered (msg_item ids w side) n l)
  away_l n [] = tt
  away_l n (m ∷ l) = (λ k. off k (eqb (site_of side k) 0) refl, away_l (suc n) l)
    where
      off : (k : ℕ) (c : Bool) → eqb (site_of side k) 0 ≡ c → c ≡ false
      off k true q = let z : site_of side k ≡ 0 = eqb-true q in absurd (omega arith)
      off k false q = refl

  pub two_parts : (X : List (Item Mark)) (k : ℕ) (P : Proc Mark []) (Y : List (Item Mark)) (Q : Proc Mark []) (Z : List (Item Mark)) → whole w side T C D s ≡ X ++ item (site_of side k) P ∷ (Y ++ item (site_of side k) Q ∷ Z)
      → TwoParts X (item (site_of side k) P) Y (item (site_of side k) Q) Z
  two_parts X k P Y Q Z e = first (part_of C (side_items ids w side T s ++ D) X u (Y ++ v ∷ Z) e)
    where
      u : Item Mark
      u = item (site_of side k) P

      v : Item Mark
      v = item (site_of side k) Q

      L : List (Item Mark)
      L = numbered (msg_item ids w side) 0 s.lobby

      N : List (Item Mark)
      N = numbered (part_item ids T side) 0 s.contents.particles

      x_is : (X3 : List (Item Mark)) → ritems forget (C ++ (L ++ X3)) ≡ ritems forget C ++ (map (plain_m w side) s.lobby ++ ritems forget X3)
      x_is X3 = ritems_app forget C (L ++ X3)
          ∙ ap (λ (a : List (Item (Unit {0}))). ritems forget C ++ a)
          (ritems_app forget L X3 ∙ ap (λ (a : List (Item (Unit {0}))). a ++ ritems forget X3) (numbered_map forget (msg_item ids w side) (plain_m w side) (plain_msg w side) 0 s.lobby))

      fourth : (X3 Y4 : List (Item Mark)) → X ≡ C ++ (L ++ X3) → Z ≡ Y4 ++ D → N ≡ X3 ++ u ∷ (Y ++ v ∷ Y4) → TwoParts X u Y v Z
      fourth X3 Y4 ex ez en =
          let r = numbered_two forget (part_item ids T side) (plain_p T side) (plain_part T side) 0 s.contents.particles X3 u Y v Y4 en in
          let xs = ap (ritems forget) ex ∙ x_is X3 in
          let zs = ap (ritems forget) ez ∙ ritems_app forget Y4 D in
          let C° = ritems forget C in let D° = ritems forget D in let L° = map (plain_m w side) s.lobby in
          let a = ritems forget X3 in let m = ritems forget Y in let z = ritems forget Y4 in
          record {
            i = r.i;
            j = r.j;
            p = r.x;
            q = r.y;
            before = r.before;
            get_i = r.get_i;
            get_j = r.get_j;
            is_i = r.is_i ∙ ap (λ (n : ℕ). part_item ids T side n r.x) (omega arith);
            is_j = r.is_j ∙ ap (λ (n : ℕ). part_item ids T side n r.y) (omega arith);
            gone = ap₂ (λ (p q : List (Item (Unit {0}))). p ++ (m ++ q)) xs zs ∙ two_out C° L° a m z D° ∙ ap (λ (q : List (Item (Unit {0}))). C° ++ ((L° ++ q) ++ D°)) r.gone;
            first_gone = ap₂ (λ (p q : List (Item (Unit {0}))). p ++ (m ++ plain_p T side r.y ∷ q)) xs zs ∙ one_second C° L° a m z D° (plain_p T side r.y) ∙ ap (λ (q : List (Item (Unit {0}))). C° ++ ((L° ++ q) ++ D°)) r.first_gone;
            second_gone = ap₂ (λ (p q : List (Item (Unit {0}))). p ++ plain_p T side r.x ∷ (m ++ q)) xs zs ∙ one_first C° L° a m z D° (plain_p T side r.x) ∙ ap (λ (q : List (Item (Unit {0}))). C° ++ ((L° ++ q) ++ D°)) r.second_gone;
          }

      last : (X3 Y2 : List (Item Mark)) → X ≡ C ++ (L ++ X3) → N ≡ X3 ++ u ∷ Y2 → Part Y2 D Y v Z → TwoParts X u Y v Z
      last X3 Y2 ex en (in_first Y4 p q) = fourth X3 Y4 ex q (en ∙ ap (λ (z : List (Item Mark)). X3 ++ u ∷ z) p)
      last X3 Y2 ex en (in_second X1 p q) = absurd (not_away side k D X1 Q Z away_d p)

      third : (X1 Y2 : List (Item Mark)) → X ≡ C ++ X1 → Y ++ v ∷ Z ≡ Y2 ++ D → Part L N X1 u Y2 → TwoParts X u Y v Z
      third X1 Y2 ex ey (in_first Y3 p q) = absurd (not_away side k L X1 P Y3 (away_l 0 s.lobby) p)
      third X1 Y2 ex ey (in_second X3 p q) = last X3 Y2 (ex ∙ ap (λ (z : List (Item Mark)). C ++ z) q) p (part_of Y2 D Y v Z (sym ey))

      second : (X1 : List (Item Mark)) → X ≡ C ++ X1 → Part (L ++ N) D X1 u (Y ++ v ∷ Z) → TwoParts X u Y v Z
      second X1 ex (in_first Y2 p q) = third X1 Y2 ex q (part_of L N X1 u Y2 p)
      second X1 ex (in_second X2 p q) = absurd (not_away side k D X2 P (Y ++ v ∷ Z) away_d p)

      first : Part C (side_items ids w side T s ++ D) X u (Y ++ v ∷ Z) → TwoParts X u Y v Z
      first (in_first Y1 p q) = absurd (not_away side k C X P Y1 away_c p)
      first (in_second X1 p q) = second X1 q (part_of (L ++ N) D X1 u (Y ++ v ∷ Z) p)

  -- the pair in the list of particles
  abbrev pub pair_of : {X : List (Item Mark)} {u : Item Mark} {Y : List (Item Mark)} {v : Item Mark} {Z : List (Item Mark)} → whole w side T C D s ≡ X ++ u ∷ (Y ++ v ∷ Z) → (r : TwoParts X u Y v Z) →
      PairAt w side T C D s r.i r.p r.j r.q
  pair_of {X} {u} {Y} {v} {Z} e r = record {
    X = X;
    Y = Y;
    Z = Z;
    is = e ∙ ap₂ (λ (a c : Item Mark). X ++ a ∷ (Y ++ c ∷ Z)) r.is_i r.is_j;
    gone = r.gone;
    first_gone = r.first_gone;
    second_gone = r.second_gone;
  }
