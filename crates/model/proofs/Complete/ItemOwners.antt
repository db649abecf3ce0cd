-- Which thing of a state an item is: a forwarder, an item of a shelf, a message or a particle of a side.
use mathlib.Core.Path.{◌≡◌, refl, sym, ap, ap₂, ◌∙◌, subst}
use mathlib.Core.Bool.{Bool, true, ◌||◌, false≢true}
use mathlib.Core.List.{List, [], ◌∷◌, ◌++◌, append_assoc}
use mathlib.Core.Logic.{⊎_elim}
use mathlib.Core.Option.{some}
use Prim.Native.Nat.{ℕ}
use borrow.Author.Tests.{eqb-true, eq-eqb}
use lib.Dec.{eqb}
use lib.ListN.{get_elem?, set}
use Rattle.calculus.specs.Tree.{Item}
use Rattle.model.specs.Basics.{has, remove}
use Rattle.model.specs.Wrapper.{has_side}
use Rattle.model.specs.Side.{State, side, Message, Particle}
use Rattle.model.specs.Load.{Composition, wrapper_of, table}
use Rattle.model.specs.WellFormed.{ready}
use Rattle.model.specs.Process.{Mark, by_side, is_gone, conf_as, conf_of, part_item, msg_item, shelf_items, side_items, forwarders}
use Rattle.calculus.proofs.Bags.{ritems}
use Rattle.model.proofs.Basics.Tests.{or_cases, or_right, not_empty, head_eq, tail_eq}
use Rattle.model.proofs.Processes.KnownNames.{Distinct, sides_distinct}
use Rattle.model.proofs.Sound.ItemMoves.{ids, forget, plain_m, plain_p, target}
use Rattle.model.proofs.Sound.SideViews.{View, Split, split, F, SH, SX, SY, sp, view}
use Rattle.model.proofs.Complete.ItemPlaces.{Part, part_of, in_first, in_second, Where, where_of}
use Rattle.model.proofs.Complete.ItemPlaces.{message as message', particle as particle'}
use Rattle.model.proofs.Complete.Completing.{Answers, answers}

-- WHOSE PART OF A LIST BY SIDES

has_mid : (n : ℕ) (P Q : List ℕ) → has n (P ++ n ∷ Q) ≡ true
has_mid n [] Q = ap (λ (t : Bool). t || has n Q) (eq-eqb n n refl)
has_mid n (k ∷ P) Q = or_right (eqb n k) (has n (P ++ n ∷ Q)) (has_mid n P Q)

record ByAt {A : Type 0} (f : ℕ → List A) (ns : List ℕ) (X : List A) (i : A) (Y : List A) : Type 0 where
  n : ℕ
  P : List ℕ
  Q : List ℕ
  is : ns ≡ P ++ n ∷ Q
  off : has n P ≡ true → ⊥
  X1 : List A
  Y1 : List A
  at : f n ≡ X1 ++ i ∷ Y1
  left : X ≡ by_side f P ++ X1
  right : Y ≡ Y1 ++ by_side f Q

by_at : {A : Type 0} (f : ℕ → List A) (ns : List ℕ) → Distinct ns → (X : List A) (i : A) (Y : List A) → by_side f ns ≡ X ++ i ∷ Y → ByAt f ns X i Y
by_at f [] d X i Y e = absurd (not_empty X i Y e)
by_at {A} f (k ∷ ns) d X i Y e = go (part_of (f k) (by_side f ns) X i Y e) (λ X q. by_at f ns d.1 X i Y q)
  where
    go : Part (f k) (by_side f ns) X i Y → ((X : List A) → by_side f ns ≡ X ++ i ∷ Y → ByAt f ns X i Y) → ByAt f (k ∷ ns) X i Y
    go (in_first Y1 p q) ih = record { n = k; P = []; Q = ns; is = refl; off = λ z. false≢true z; X1 = X; Y1 = Y1; at = p; left = refl; right = q }
    go (in_second X1 p q) ih = let r = ih X1 p in record {
      n = r.n;
      P = k ∷ r.P;
      Q = r.Q;
      is = ap (λ (l : List ℕ). k ∷ l) r.is;
      off = λ z. ⊎_elim (λ y. d.0 (subst (λ (m : ℕ). has m ns ≡ true) (eqb-true r.n k y) (ap (has r.n) r.is ∙ has_mid r.n r.P r.Q))) r.off (or_cases (eqb r.n k) (has r.n r.P) z);
      X1 = r.X1;
      Y1 = r.Y1;
      at = r.at;
      left = q ∙ ap (λ (l : List A). f k ++ l) r.left ∙ sym (append_assoc (f k) (by_side f r.P) r.X1);
      right = r.right;
    }

-- a list of numbers is split at one of them in one way
split_same : (n : ℕ) (X Y P Q : List ℕ) → X ++ n ∷ Y ≡ P ++ n ∷ Q → (has n X ≡ true → ⊥) → (has n P ≡ true → ⊥) → (X ≡ P) × (Y ≡ Q)
split_same n [] Y [] Q e a c = (refl, tail_eq e)
split_same n [] Y (p ∷ P) Q e a c = absurd (c (ap (λ (t : Bool). t || has n P) (eq-eqb n p (head_eq e))))
split_same n (x ∷ X) Y [] Q e a c = absurd (a (ap (λ (t : Bool). t || has n X) (eq-eqb n x (sym (head_eq e)))))
split_same n (x ∷ X) Y (p ∷ P) Q e a c =
    let r = split_same n X Y P Q (tail_eq e) (λ z. a (or_right (eqb n x) (has n X) z)) (λ z. c (or_right (eqb n p) (has n P) z)) in
    (ap₂ (λ (k : ℕ) (l : List ℕ). k ∷ l) (head_eq e) r.0, r.1)

-- the side's part, with the other sides as a view has them
pub record SideAt {A : Type 0} (f : ℕ → List A) (ns : List ℕ) (d : Distinct ns) (X : List A) (i : A) (Y : List A) : Type 0 where
  pub n : ℕ
  pub has_it : has n ns ≡ true
  pub X1 : List A
  pub Y1 : List A
  pub at : f n ≡ X1 ++ i ∷ Y1
  pub left : X ≡ by_side f (split ns n d has_it).X ++ X1
  pub right : Y ≡ Y1 ++ by_side f (split ns n d has_it).Y

pub side_at : {A : Type 0} (f : ℕ → List A) (ns : List ℕ) (d : Distinct ns) (X : List A) (i : A) (Y : List A) → by_side f ns ≡ X ++ i ∷ Y → SideAt f ns d X i Y
side_at {A} f ns d X i Y e =
    let r = by_at f ns d X i Y e in
    let h : has r.n ns ≡ true = ap (has r.n) r.is ∙ has_mid r.n r.P r.Q in
    let z = split ns r.n d h in
    let u = split_same r.n r.P r.Q z.X z.Y (sym r.is ∙ z.is) r.off (λ y. z.off_X r.n y refl) in
    record {
      n = r.n;
      has_it = h;
      X1 = r.X1;
      Y1 = r.Y1;
      at = r.at;
      left = r.left ∙ ap (λ (l : List ℕ). by_side f l ++ r.X1) u.0;
      right = r.right ∙ ap (λ (l : List ℕ). r.Y1 ++ by_side f l) u.1;
    }

-- THE ITEMS OF A STATE

module _ (b : Composition) (s : State) where
  abbrev pub shelf_on : ℕ → List (Item Mark)
  shelf_on n = shelf_items ids (is_gone s n) n 0 (side s n).core.shelf

  abbrev pub own_of : ℕ → List (Item Mark)
  own_of n = side_items ids (wrapper_of b) n (table b n) (side s n).core

  abbrev pub at_side : (n : ℕ) → has_side (wrapper_of b) n ≡ true → Split (wrapper_of b).sides n
  at_side n h = split (wrapper_of b).sides n (sides_distinct b.wrapper) h

pub data Stands (b : Composition) (s : State) (X : List (Item Mark)) (i : Item Mark) (Y : List (Item Mark)) : Type 0 where
  forwarder : (Y1 : List (Item Mark)) → forwarders ids (wrapper_of b) ≡ X ++ i ∷ Y1 → Stands b s X i Y
  shelved : (n : ℕ) (h : has_side (wrapper_of b) n ≡ true) (X1 Y1 : List (Item Mark)) → shelf_on b s n ≡ X1 ++ i ∷ Y1
      → X ≡ forwarders ids (wrapper_of b) ++ (by_side (shelf_on b s) (at_side b s n h).X ++ X1)
      → Y ≡ Y1 ++ (by_side (shelf_on b s) (at_side b s n h).Y ++ by_side (own_of b s) (wrapper_of b).sides) → Stands b s X i Y
  message : (vw : View b s) → Answers b s vw → (j : ℕ) (m : Message) → get_elem? vw.core.lobby j ≡ some m → i ≡ msg_item ids (wrapper_of b) vw.c.side j m
      → ritems forget X ++ ritems forget Y ≡ target (wrapper_of b) vw.c.side vw.c.table vw.C vw.D vw.core (remove vw.core.lobby j) vw.core.contents.particles
      → ((n : Message) → ritems forget X ++ plain_m (wrapper_of b) vw.c.side n ∷ ritems forget Y ≡ target (wrapper_of b) vw.c.side vw.c.table vw.C vw.D vw.core (set vw.core.lobby j n) vw.core.contents.particles)
      → Stands b s X i Y
  particle : (vw : View b s) → Answers b s vw → (j : ℕ) (p : Particle) → get_elem? vw.core.contents.particles j ≡ some p → i ≡ part_item ids vw.c.table vw.c.side j p
      → ritems forget X ++ ritems forget Y ≡ target (wrapper_of b) vw.c.side vw.c.table vw.C vw.D vw.core vw.core.lobby (remove vw.core.contents.particles j)
      → ((q : Particle) → ritems forget X ++ plain_p vw.c.table vw.c.side q ∷ ritems forget Y ≡ target (wrapper_of b) vw.c.side vw.c.table vw.C vw.D vw.core vw.core.lobby (set vw.core.contents.particles j q))
      → Stands b s X i Y

module _ (b : Composition) (s : State) (e : ready b s ≡ true) where
  pub stands_of : (X : List (Item Mark)) (i : Item Mark) (Y : List (Item Mark)) → (conf_of b s).items ≡ X ++ i ∷ Y → Stands b s X i Y
  unfolding conf_as view F SH SX SY sp
  stands_of X i Y q = first (part_of FW (HS ++ OWN) X i Y q)
    where
      FW : List (Item Mark)
      FW = forwarders ids (wrapper_of b)

      HS : List (Item Mark)
      HS = by_side (shelf_on b s) (wrapper_of b).sides

      OWN : List (Item Mark)
      OWN = by_side (own_of b s) (wrapper_of b).sides

      of_side : (vw : View b s) → Answers b s vw → Where (wrapper_of b) vw.c.side vw.c.table vw.C vw.D vw.core X i Y → Stands b s X i Y
      of_side vw ac (message' j m g is gone put) = message vw ac j m g is gone put
      of_side vw ac (particle' j p g is gone put) = particle vw ac j p g is gone put

      own : (X2 : List (Item Mark)) → X ≡ FW ++ (HS ++ X2) → SideAt (own_of b s) (wrapper_of b).sides (sides_distinct b.wrapper) X2 i Y → Stands b s X i Y
      own X2 ex r =
          let vw = view b s e r.n r.has_it in
          let left = ex ∙ ap (λ (l : List (Item Mark)). FW ++ (HS ++ l)) r.left ∙ regroup FW HS (SX b s e r.n r.has_it) r.X1 in
          of_side vw (answers b s e r.n r.has_it) (where_of (wrapper_of b) r.n (table b r.n) vw.C vw.D vw.core r.X1 r.Y1 X i Y left r.at r.right)
        where
          regroup : (f h x y : List (Item Mark)) → f ++ (h ++ (x ++ y)) ≡ (f ++ (h ++ x)) ++ y
          regroup f h x y = simp append_assoc

      second : (X1 : List (Item Mark)) → X ≡ FW ++ X1 → Part HS OWN X1 i Y → Stands b s X i Y
      second X1 ex (in_first Y1 p q) =
          let r = side_at (shelf_on b s) (wrapper_of b).sides (sides_distinct b.wrapper) X1 i Y1 p in
          shelved r.n r.has_it r.X1 r.Y1 r.at (ex ∙ ap (λ (l : List (Item Mark)). FW ++ l) r.left)
          (q ∙ ap (λ (l : List (Item Mark)). l ++ OWN) r.right ∙ append_assoc r.Y1 (by_side (shelf_on b s) (at_side b s r.n r.has_it).Y) OWN)
      second X1 ex (in_second X2 p q) = own X2 (ex ∙ ap (λ (l : List (Item Mark)). FW ++ l) q) (side_at (own_of b s) (wrapper_of b).sides (sides_distinct b.wrapper) X2 i Y p)

      first : Part FW (HS ++ OWN) X i Y → Stands b s X i Y
      first (in_first Y1 p q) = forwarder Y1 p
      first (in_second X1 p q) = second X1 q (part_of HS OWN X1 i Y p)
