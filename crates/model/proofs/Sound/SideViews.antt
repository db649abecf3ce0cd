-- One side of a state, with all that stands beside it.
use mathlib.Core.Path.{◌≡◌, refl, sym, ap, ap₂, ◌∙◌, subst, fun_ext}
use mathlib.Core.Bool.{Bool, true, false, not, cond, ◌||◌, false≢true}
use mathlib.Core.List.{List, [], ◌∷◌, ◌++◌, append_assoc, map}
use mathlib.Core.Logic.{⊎_elim}
use mathlib.Core.Option.{some}
use Prim.Native.Nat.{ℕ, zero, suc, ◌+◌, ◌<◌, ◌≤◌}
use native.Mathlib.Omega.{arith}
use borrow.Author.Tests.{eqb-true, eq-eqb}
use lib.Dec.{eqb}
use lib.ListN.{length, get_or, set, get_elem?}
use Rattle.calculus.specs.Syntax.{received_child}
use Rattle.calculus.specs.Syntax.{out as pout}
use Rattle.calculus.specs.Transitions.{mem}
use Rattle.calculus.specs.Tree.{Item, Place}
use Rattle.model.specs.Basics.{one_of, has}
use Rattle.model.specs.Values.{is_minted}
use Rattle.model.specs.Wrapper.{all_sides, has_side}
use Rattle.model.specs.Side.{Box, Core, Side, State, no_side, side, put_side, has_taken, taken_at}
use Rattle.model.specs.Load.{Composition, wrapper_of, table, Setting, setting}
use Rattle.model.specs.WellFormed.{counts, ready}
use Rattle.model.specs.Step.{known, marked, mark_all}
use Rattle.model.specs.Process.{Mark, own_name, upto, mint_of, val_of, keep, by_side, shelf_item, shelf_items, is_gone, side_items, forwarders, enters, passes, takes, place_of, places_of, all_places, conf_as, conf_of, new_of, minted_of}
use Rattle.calculus.proofs.Trees.{Has}
use Rattle.calculus.proofs.Bags.{item, Bag, bag_eq, bag_trans, bag_sym, bag_mid, ritems, ritems_app}
use Rattle.model.proofs.Basics.Tests.{or_cases, or_right}
use Rattle.model.proofs.Basics.Sides.{put_same, put_other}
use Rattle.model.proofs.Formed.Growing.{CoreOk}
use Rattle.model.proofs.Basics.Checked.{Checked}
use Rattle.model.proofs.Formed.Invariant.{which, positive, size, side_ok, one_get, no_mark}
use Rattle.model.proofs.Independent.Independence.{left_size}
use Rattle.model.proofs.Processes.KnownNames.{Distinct, sides_distinct}
use Rattle.model.proofs.Processes.Boxes.{has_acc, has_place}
use Rattle.model.proofs.Processes.StateTree.{checked_of, shelf_marks, by_marks}
use Rattle.model.proofs.Sound.ItemMoves.{ids, forget, whole, target, whole°}
use Rattle.model.proofs.Sound.NamesLeaving.{marked_all}

pub record View (b : Composition) (s : State) : Type 0 where
  pub c : Setting
  pub core : Core
  pub left : List Bool
  pub C : List (Item Mark)
  pub D : List (Item Mark)
  pub next : Core → List Bool → State
  pub is_side : has_side (wrapper_of b) c.side ≡ true
  pub c_is : c ≡ setting b c.side
  pub core_is : core ≡ (side s c.side).core
  pub free : length core.shelf < 32 → is_gone s c.side (length core.shelf) ≡ false
  pub ok : CoreOk c (counts s) core
  pub checked : Checked c.table
  pub items_now : (conf_of b s).items ≡ whole (wrapper_of b) c.side c.table C D core
  pub has : (j : ℕ) (x : Box) → get_elem? core.contents.boxes j ≡ some x → Has (place_of ids c.side j x) (conf_of b s).boxes
  pub C1 : List (Item Mark)
  pub C2 : List (Item Mark)
  pub at_pass : C ≡ C1 ++ passes ids (wrapper_of b) c.side ∷ C2
  pub E1 : List (Item Mark)
  pub E2 : List (Item Mark)
  pub at_enter : C ≡ E1 ++ enters ids (wrapper_of b) c.side ∷ E2
  pub items_next : (k : Core) (l : List Bool) → k.shelf ≡ core.shelf → k.taken ≡ core.taken → ritems forget (conf_of b (next k l)).items ≡ target (wrapper_of b) c.side c.table C D core k.lobby k.contents.particles
  pub boxes_next : (k : Core) (l : List Bool) → k.contents.boxes ≡ core.contents.boxes → (conf_of b (next k l)).boxes ≡ (conf_of b s).boxes
  pub minted_next : (k : Core) (l : List Bool) → k.contents.minted ≡ core.contents.minted → minted_of (next k l) ≡ minted_of s
  pub known_next : (k : Core) (v : List ℕ) (x : ℕ) → is_minted x ≡ true → known (next k (mark_all left v)) x ≡ known s x || mem x v
  pub known_same : (k : Core) (x : ℕ) → known (next k left) x ≡ known s x
  pub shelve : (k : Core) (l : List Bool) (v : List ℕ) → k.shelf ≡ core.shelf ++ v ∷ [] → k.taken ≡ core.taken → is_gone s c.side (length core.shelf) ≡ false
      → Bag (item 0 (pout tt 2 (received_child (own_name c.side)) (val_of v)) ∷ target (wrapper_of b) c.side c.table C D core k.lobby k.contents.particles) (ritems forget (conf_of b (next k l)).items)

pub new_same : {b : Composition} {s : State} (vw : View b s) (k : Core) → k.contents.minted ≡ vw.core.contents.minted → new_of b (vw.next k vw.left) ≡ new_of b s
unfolding new_of
new_same {b} {s} vw k e = ap₂ (λ (f : ℕ → Bool) (M : List ℕ). map own_name (wrapper_of b).sides ++ keep (λ x. not (f x)) M) (fun_ext (vw.known_same k)) (vw.minted_next k vw.left e)

-- the shelf with one more on it
pub shelf_more : (gone : ℕ → Bool) (n i : ℕ) (l : List (List ℕ)) (v : List ℕ) → gone (i + length l) ≡ false → shelf_items forget gone n i (l ++ v ∷ []) ≡ shelf_items forget gone n i l ++ shelf_item forget n (i + length l) v ∷ []
shelf_more gone n i [] v h = ap (λ (t : Bool). cond t [] (shelf_item forget n i v ∷ []) ++ []) (subst (λ (k : ℕ). gone k ≡ false) (omega arith) h)
shelf_more gone n i (u ∷ l) v h =
    ap (λ (r : List (Item (Unit {0}))). cond (gone i) [] (shelf_item forget n i u ∷ []) ++ r) (shelf_more gone n (suc i) l v (subst (λ (k : ℕ). gone k ≡ false) (omega arith) h))
    ∙ sym (append_assoc (cond (gone i) [] (shelf_item forget n i u ∷ [])) (shelf_items forget gone n (suc i) l) (shelf_item forget n (suc i + length l) v ∷ []))

-- a list with one element put anew, and a test that passes for one of its elements
one_set : {A : Type 0} (f : A → Bool) (l : List A) (i : ℕ) (a d : A) → f a ≡ f (get_or l i d) → one_of f (set l i a) ≡ one_of f l
one_set f [] i a d e = refl
one_set f (x ∷ l) zero a d e = ap (λ (t : Bool). t || one_of f l) e
one_set f (x ∷ l) (suc i) a d e = ap (λ (t : Bool). f x || t) (one_set f l i a d e)

or_swap : (a c r : Bool) → (a || c) || r ≡ (a || r) || c
or_swap true c r = refl
or_swap false true true = refl
or_swap false true false = refl
or_swap false false true = refl
or_swap false false false = refl

or_in : (a r c : Bool) → a || (r || c) ≡ (a || r) || c
or_in true r c = refl
or_in false r c = refl

one_or : {A : Type 0} (f : A → Bool) (l : List A) (i : ℕ) (a d : A) (c : Bool) → i < length l → f a ≡ f (get_or l i d) || c → one_of f (set l i a) ≡ one_of f l || c
one_or f [] i a d c h e = absurd (omega arith)
one_or f (x ∷ l) zero a d c h e = ap (λ (t : Bool). t || one_of f l) e ∙ or_swap (f x) c (one_of f l)
one_or f (x ∷ l) (suc i) a d c h e = ap (λ (t : Bool). f x || t) (one_or f l i a d c (omega arith) e) ∙ or_in (f x) (one_of f l) c

pub put_one : (f : Side → Bool) (s : State) (n : ℕ) (o : Side) → f o ≡ f (side s n) → one_of f (put_side s n o).sides ≡ one_of f s.sides
put_one f s zero o e = refl
put_one f s (suc n) o e = one_set f s.sides n o no_side e

pub put_or : (f : Side → Bool) (s : State) (n : ℕ) (o : Side) (c : Bool) → 1 ≤ n → n ≤ length s.sides → f o ≡ f (side s n) || c → one_of f (put_side s n o).sides ≡ one_of f s.sides || c
put_or f s zero o c p h e = absurd (omega arith)
put_or f s (suc n) o c p h e = one_or f s.sides n o no_side c h e

-- what a side's number splits a list of numbers into
pub record Split (ns : List ℕ) (n : ℕ) : Type 0 where
  pub X : List ℕ
  pub Y : List ℕ
  pub is : ns ≡ X ++ n ∷ Y
  pub off_X : (m : ℕ) → has m X ≡ true → (m ≡ n → ⊥)
  pub off_Y : (m : ℕ) → has m Y ≡ true → (m ≡ n → ⊥)

has_here : (n : ℕ) (ns : List ℕ) → has n (n ∷ ns) ≡ true
has_here n ns = ap (λ (t : Bool). t || has n ns) (eq-eqb n n refl)

pub split : (ns : List ℕ) (n : ℕ) → Distinct ns → has n ns ≡ true → Split ns n
split [] n d h = absurd (false≢true h)
split (k ∷ ns) n d h = ⊎_elim
    (λ q. let z : k ≡ n = sym (eqb-true n k q) in record { X = []; Y = ns; is = ap (λ (m : ℕ). m ∷ ns) z; off_X = λ m w. absurd (false≢true w); off_Y = λ m w y. d.0 (subst (λ (i : ℕ). has i ns ≡ true) (y ∙ sym z) w) })
    (λ q. let r = split ns n d.1 q in record {
      X = k ∷ r.X;
      Y = r.Y;
      is = ap (λ (l : List ℕ). k ∷ l) r.is;
      off_X = λ m w y. ⊎_elim (λ p. d.0 (subst (λ (i : ℕ). has i ns ≡ true) (sym y ∙ eqb-true m k p) q)) (λ p. r.off_X m p y) (or_cases (eqb m k) (has m r.X) w);
      off_Y = r.off_Y;
    })
    (or_cases (eqb n k) (has n ns) h)

pub by_app : {A : Type 0} (f : ℕ → List A) (X : List ℕ) (n : ℕ) (Y : List ℕ) → by_side f (X ++ n ∷ Y) ≡ by_side f X ++ (f n ++ by_side f Y)
by_app f [] n Y = refl
by_app {A} f (k ∷ X) n Y = ap (λ (r : List A). f k ++ r) (by_app f X n Y) ∙ sym (append_assoc (f k) (by_side f X) (f n ++ by_side f Y))

pub by_same : {A : Type 0} (f g : ℕ → List A) (ns : List ℕ) → ((m : ℕ) → has m ns ≡ true → f m ≡ g m) → by_side f ns ≡ by_side g ns
by_same f g [] h = refl
by_same {A} f g (n ∷ ns) h = ap₂ (λ (x y : List A). x ++ y) (h n (has_here n ns)) (by_same f g ns (λ m q. h m (or_right (eqb m n) (has m ns) q)))

pub map_at : {A : Type 0} (f : ℕ → A) (X : List ℕ) (n : ℕ) (Y : List ℕ) → map f (X ++ n ∷ Y) ≡ map f X ++ f n ∷ map f Y
map_at f [] n Y = refl
map_at {A} f (k ∷ X) n Y = ap (λ (r : List A). f k ∷ r) (map_at f X n Y)

pub places_same : (s s'' : State) (ns : List ℕ) (acc : List (Place Mark)) → ((m : ℕ) → has m ns ≡ true → (side s m).core.contents.boxes ≡ (side s'' m).core.contents.boxes) → all_places ids s ns acc ≡ all_places ids s'' ns acc
places_same s s'' [] acc h = refl
places_same s s'' (n ∷ ns) acc h = ap (λ (l : List Box). all_places ids s ns (places_of ids n 0 l acc)) (h n (has_here n ns))
    ∙ places_same s s'' ns (places_of ids n 0 (side s'' n).core.contents.boxes acc) (λ m q. h m (or_right (eqb m n) (has m ns) q))

pub has_all : {c : Place Mark} (s : State) (ns : List ℕ) (acc : List (Place Mark)) → Has c acc → Has c (all_places ids s ns acc)
has_all s [] acc h = h
has_all s (n ∷ ns) acc h = has_all s ns (places_of ids n 0 (side s n).core.contents.boxes acc) (has_acc ids n 0 (side s n).core.contents.boxes acc h)

pub has_box : (s : State) (ns : List ℕ) (acc : List (Place Mark)) (n : ℕ) → has n ns ≡ true → (j : ℕ) (x : Box) → get_elem? (side s n).core.contents.boxes j ≡ some x → Has (place_of ids n j x) (all_places ids s ns acc)
has_box s [] acc n h j x g = absurd (false≢true h)
has_box s (k ∷ ns) acc n h j x g = ⊎_elim
    (λ q. let z : n ≡ k = eqb-true n k q in has_all s ns (places_of ids k 0 (side s k).core.contents.boxes acc) (subst (λ (i : ℕ). Has (place_of ids n j x) (places_of ids i 0 (side s i).core.contents.boxes acc)) z
    (subst (λ (i : ℕ). Has (place_of ids n i x) (places_of ids n 0 (side s n).core.contents.boxes acc)) (omega arith) (has_place ids n 0 (side s n).core.contents.boxes acc j x g))))
    (λ q. has_box s ns (places_of ids k 0 (side s k).core.contents.boxes acc) n q j x g)
    (or_cases (eqb n k) (has n ns) h)

module _ (b : Composition) (s : State) (e : ready b s ≡ true) (n : ℕ) (h : has_side (wrapper_of b) n ≡ true) where
  unfoldable pub F : List (Item Mark)
  F = forwarders ids (wrapper_of b)

  unfoldable pub sp : Split (wrapper_of b).sides n
  sp = split (wrapper_of b).sides n (sides_distinct b.wrapper) h

  pub pos : 1 ≤ n
  pos = (positive n (which b.wrapper n h)).0

  pub lt : n ≤ length s.sides
  lt = omega (arith, (positive n (which b.wrapper n h)).1, size b s e)

  abbrev pub with_side_lem : Core → List Bool → State
  with_side_lem k l = put_side s n (record { core = k; left = l })

  pub at_n : (k : Core) (l : List Bool) → side (with_side_lem k l) n ≡ record { core = k; left = l }
  at_n k l = put_same s n (record { core = k; left = l }) pos lt

  pub off_n : (k : Core) (l : List Bool) (m : ℕ) → (m ≡ n → ⊥) → side (with_side_lem k l) m ≡ side s m
  off_n k l m q = put_other s n m (record { core = k; left = l }) q

  -- what the sides have, and the shelves, with the marks or without
  abbrev pub own : State → ℕ → List (Item Mark)
  own t m = side_items ids (wrapper_of b) m (table b m) (side t m).core

  abbrev pub shelf_at : State → ℕ → List (Item Mark)
  shelf_at t m = shelf_items ids (is_gone t m) m 0 (side t m).core.shelf

  abbrev pub shelf_at° : State → ℕ → List (Item (Unit {0}))
  shelf_at° t m = shelf_items forget (is_gone t m) m 0 (side t m).core.shelf

  unfoldable pub SH : State → List (Item Mark)
  SH t = by_side (shelf_at t) (wrapper_of b).sides

  unfoldable pub SX : List (Item Mark)
  SX = by_side (own s) sp.X

  unfoldable pub SY : List (Item Mark)
  SY = by_side (own s) sp.Y

  pub items_of : (t : State) → (conf_of b t).items ≡ F ++ (SH t ++ by_side (own t) (wrapper_of b).sides)
  unfolding conf_as F SH
  items_of t = refl

  pub own_split : (k : Core) (l : List Bool) → by_side (own (with_side_lem k l)) (wrapper_of b).sides ≡ SX ++ (side_items ids (wrapper_of b) n (table b n) k ++ SY)
  unfolding SX SY
  own_split k l = ap (by_side (own (with_side_lem k l))) sp.is ∙ by_app (own (with_side_lem k l)) sp.X n sp.Y
      ∙ ap₂ (λ (x y : List (Item Mark)). x ++ y) (by_same (own (with_side_lem k l)) (own s) sp.X (λ m q. ap (λ (o : Side). side_items ids (wrapper_of b) m (table b m) o.core) (off_n k l m (sp.off_X m q))))
      (ap₂ (λ (x y : List (Item Mark)). x ++ y) (ap (λ (o : Side). side_items ids (wrapper_of b) n (table b n) o.core) (at_n k l))
      (by_same (own (with_side_lem k l)) (own s) sp.Y (λ m q. ap (λ (o : Side). side_items ids (wrapper_of b) m (table b m) o.core) (off_n k l m (sp.off_Y m q)))))

  pub own_now : by_side (own s) (wrapper_of b).sides ≡ SX ++ (side_items ids (wrapper_of b) n (table b n) (side s n).core ++ SY)
  unfolding SX SY
  own_now = ap (by_side (own s)) sp.is ∙ by_app (own s) sp.X n sp.Y

  -- a fact of each side, from side n's and the others' being as they were
  pub by_side_lem : (k : Core) (l : List Bool) (P : Side → Side → Type 0) → P (record { core = k; left = l }) (side s n) → ((o : Side) → P o o) → (m : ℕ) → P (side (with_side_lem k l) m) (side s m)
  by_side_lem k l P p r m = go (eqb m n) refl
    where
      go : (t : Bool) → eqb m n ≡ t → P (side (with_side_lem k l) m) (side s m)
      go true q =
          let z : n ≡ m = sym (eqb-true m n q) in
          subst (λ (i : ℕ). P (side (with_side_lem k l) i) (side s i)) z (subst (λ (o : Side). P o (side s n)) (sym (at_n k l)) p)
      go false q = subst (λ (o : Side). P o (side s m)) (sym (off_n k l m (λ z. false≢true (sym q ∙ eq-eqb m n z)))) (r (side s m))

  pub gone_same : (k : Core) (l : List Bool) → k.taken ≡ (side s n).core.taken → (m : ℕ) → is_gone (with_side_lem k l) m ≡ is_gone s m
  gone_same k l q m = fun_ext (λ i. put_one (λ o. has_taken o.core m i) s n (record { core = k; left = l }) (ap (λ (t : List Bool). get_or t (taken_at m i) false) q))

  pub SH-same : (k : Core) (l : List Bool) → k.shelf ≡ (side s n).core.shelf → k.taken ≡ (side s n).core.taken → SH (with_side_lem k l) ≡ SH s
  unfolding SH
  SH-same k l p q = by_same (shelf_at (with_side_lem k l)) (shelf_at s) (wrapper_of b).sides
      (λ m z. ap₂ (λ (g : ℕ → Bool) (v : List (List ℕ)). shelf_items ids g m 0 v) (gone_same k l q m) (by_side_lem k l (λ (o u : Side). o.core.shelf ≡ u.core.shelf) p (λ o. refl) m))

  pub grouped : (f h x y : List (Item Mark)) → (f ++ (h ++ x)) ++ y ≡ f ++ (h ++ (x ++ y))
  grouped f h x y = simp append_assoc

  pub SH° : (t : State) → ritems forget (SH t) ≡ by_side (shelf_at° t) (wrapper_of b).sides
  unfolding SH
  SH° t = by_marks ids forget (shelf_at t) (shelf_at° t) (λ m. shelf_marks ids forget (is_gone t m) m 0 (side t m).core.shelf) (wrapper_of b).sides

  -- where the side's wrapper inputs stand
  pub at_passes : F ≡ (map (enters ids (wrapper_of b)) (wrapper_of b).sides ++ map (passes ids (wrapper_of b)) sp.X) ++ passes ids (wrapper_of b) n ∷ (map (passes ids (wrapper_of b)) sp.Y ++ map (takes ids) (wrapper_of b).routes)
  unfolding F
  at_passes = ap (λ (l : List (Item Mark)). map (enters ids (wrapper_of b)) (wrapper_of b).sides ++ (l ++ map (takes ids) (wrapper_of b).routes))
      (ap (map (passes ids (wrapper_of b))) sp.is ∙ map_at (passes ids (wrapper_of b)) sp.X n sp.Y)
      ∙ shuffle (map (enters ids (wrapper_of b)) (wrapper_of b).sides) (map (passes ids (wrapper_of b)) sp.X) (passes ids (wrapper_of b) n) (map (passes ids (wrapper_of b)) sp.Y) (map (takes ids) (wrapper_of b).routes)
    where
      shuffle : (a x : List (Item Mark)) (p : Item Mark) (y r : List (Item Mark)) → a ++ ((x ++ p ∷ y) ++ r) ≡ (a ++ x) ++ p ∷ (y ++ r)
      shuffle a x p y r = simp append_assoc

  pub at_enters : F ≡ map (enters ids (wrapper_of b)) sp.X ++ enters ids (wrapper_of b) n ∷ (map (enters ids (wrapper_of b)) sp.Y ++ (map (passes ids (wrapper_of b)) (wrapper_of b).sides ++ map (takes ids) (wrapper_of b).routes))
  unfolding F
  at_enters = ap (λ (l : List (Item Mark)). l ++ (map (passes ids (wrapper_of b)) (wrapper_of b).sides ++ map (takes ids) (wrapper_of b).routes))
      (ap (map (enters ids (wrapper_of b))) sp.is ∙ map_at (enters ids (wrapper_of b)) sp.X n sp.Y)
      ∙ append_assoc (map (enters ids (wrapper_of b)) sp.X) (enters ids (wrapper_of b) n ∷ map (enters ids (wrapper_of b)) sp.Y) _

  pub more_after : (P Q R : List (Item Mark)) (x : Item Mark) → F ≡ P ++ x ∷ Q → F ++ R ≡ P ++ x ∷ (Q ++ R)
  more_after P Q R x q = ap (λ (L : List (Item Mark)). L ++ R) q ∙ append_assoc P (x ∷ Q) R

  pub shelving : (k : Core) (l : List Bool) (v : List ℕ) → k.shelf ≡ (side s n).core.shelf ++ v ∷ [] → k.taken ≡ (side s n).core.taken → is_gone s n (length (side s n).core.shelf) ≡ false
      → Bag (item 0 (pout tt 2 (received_child (own_name n)) (val_of v)) ∷ target (wrapper_of b) n (table b n) (F ++ (SH s ++ SX)) SY (side s n).core k.lobby k.contents.particles) (ritems forget (conf_of b (with_side_lem k l)).items)
  shelving k l v p q g = bag_trans (bag_eq (ap (λ (r : List (Item (Unit {0}))). it ∷ r) now)) (bag_trans (bag_sym (bag_mid P it Q)) (bag_eq (sym later)))
    where
      it : Item (Unit {0})
      it = item 0 (pout tt 2 (received_child (own_name n)) (val_of v))

      B : List (Item (Unit {0}))
      B = shelf_at° s n

      R : List (Item (Unit {0}))
      R = ritems forget (SX ++ (side_items ids (wrapper_of b) n (table b n) k ++ SY))

      P : List (Item (Unit {0}))
      P = ritems forget F ++ (by_side (shelf_at° s) sp.X ++ B)

      Q : List (Item (Unit {0}))
      Q = by_side (shelf_at° s) sp.Y ++ R

      flat : (f x y z r : List (Item (Unit {0}))) → f ++ ((x ++ (y ++ z)) ++ r) ≡ (f ++ (x ++ y)) ++ (z ++ r)
      flat f x y z r = simp append_assoc

      flat1 : (f x y : List (Item (Unit {0}))) (i : Item (Unit {0})) (z r : List (Item (Unit {0}))) → f ++ ((x ++ ((y ++ i ∷ []) ++ z)) ++ r) ≡ (f ++ (x ++ y)) ++ i ∷ (z ++ r)
      flat1 f x y i z r = simp append_assoc

      three : (f g h : List (Item Mark)) → ritems forget (f ++ (g ++ h)) ≡ ritems forget f ++ (ritems forget g ++ ritems forget h)
      three f g h = ritems_app forget f (g ++ h) ∙ ap (λ (r : List (Item (Unit {0}))). ritems forget f ++ r) (ritems_app forget g h)

      now : target (wrapper_of b) n (table b n) (F ++ (SH s ++ SX)) SY (side s n).core k.lobby k.contents.particles ≡ P ++ Q
      now = sym (whole° (wrapper_of b) n (table b n) (F ++ (SH s ++ SX)) SY k) ∙ ap (ritems forget) (grouped F (SH s) SX (side_items ids (wrapper_of b) n (table b n) k ++ SY))
          ∙ three F (SH s) (SX ++ (side_items ids (wrapper_of b) n (table b n) k ++ SY))
          ∙ ap (λ (r : List (Item (Unit {0}))). ritems forget F ++ (r ++ R)) (SH° s ∙ ap (by_side (shelf_at° s)) sp.is ∙ by_app (shelf_at° s) sp.X n sp.Y)
          ∙ flat (ritems forget F) (by_side (shelf_at° s) sp.X) B (by_side (shelf_at° s) sp.Y) R

      other : (m : ℕ) → (m ≡ n → ⊥) → shelf_at° (with_side_lem k l) m ≡ shelf_at° s m
      other m z = ap₂ (λ (g : ℕ → Bool) (u : List (List ℕ)). shelf_items forget g m 0 u) (gone_same k l q m) (ap (λ (o : Side). o.core.shelf) (off_n k l m z))

      mine : shelf_at° (with_side_lem k l) n ≡ B ++ it ∷ []
      mine = ap₂ (λ (g : ℕ → Bool) (u : List (List ℕ)). shelf_items forget g n 0 u) (gone_same k l q n) (ap (λ (o : Side). o.core.shelf) (at_n k l) ∙ p)
          ∙ shelf_more (is_gone s n) n 0 (side s n).core.shelf v (subst (λ (i : ℕ). is_gone s n i ≡ false) (omega arith) g)

      later : ritems forget (conf_of b (with_side_lem k l)).items ≡ P ++ it ∷ Q
      later = ap (ritems forget) (items_of (with_side_lem k l)) ∙ three F (SH (with_side_lem k l)) (by_side (own (with_side_lem k l)) (wrapper_of b).sides)
          ∙ ap₂ (λ (x y : List (Item (Unit {0}))). ritems forget F ++ (x ++ y))
          (SH° (with_side_lem k l) ∙ ap (by_side (shelf_at° (with_side_lem k l))) sp.is ∙ by_app (shelf_at° (with_side_lem k l)) sp.X n sp.Y
          ∙ ap₂ (λ (x y : List (Item (Unit {0}))). x ++ y) (by_same (shelf_at° (with_side_lem k l)) (shelf_at° s) sp.X (λ m z. other m (sp.off_X m z)))
          (ap₂ (λ (x y : List (Item (Unit {0}))). x ++ y) mine (by_same (shelf_at° (with_side_lem k l)) (shelf_at° s) sp.Y (λ m z. other m (sp.off_Y m z)))))
          (ap (ritems forget) (own_split k l))
          ∙ flat1 (ritems forget F) (by_side (shelf_at° s) sp.X) B it (by_side (shelf_at° s) sp.Y) R

  -- no side has taken what is not there
  pub not_gone : length (side s n).core.shelf < 32 → is_gone s n (length (side s n).core.shelf) ≡ false
  not_gone l = go (is_gone s n (length (side s n).core.shelf)) refl
    where
      go : (t : Bool) → is_gone s n (length (side s n).core.shelf) ≡ t → t ≡ false
      go true q =
          let (j, a, r) = one_get (λ o. has_taken o.core n (length (side s n).core.shelf)) s.sides no_side q in
          absurd (no_mark b s e n (length (side s n).core.shelf) pos l (λ z. omega (arith, z)) j a r)
      go false q = refl

  pub box_in : (j : ℕ) (x : Box) → get_elem? (side s n).core.contents.boxes j ≡ some x → Has (place_of ids n j x) (conf_of b s).boxes
  unfolding conf_as
  box_in j x g = has_box s (wrapper_of b).sides [] n h j x g

  pub boxes_as : (k : Core) (l : List Bool) → k.contents.boxes ≡ (side s n).core.contents.boxes → (conf_of b (with_side_lem k l)).boxes ≡ (conf_of b s).boxes
  unfolding conf_as
  boxes_as k l p = places_same (with_side_lem k l) s (wrapper_of b).sides [] (λ m z. by_side_lem k l (λ (o u : Side). o.core.contents.boxes ≡ u.core.contents.boxes) p (λ o. refl) m)

  unfoldable pub view : View b s
  view = record {
    c = setting b n;
    core = (side s n).core;
    left = (side s n).left;
    C = F ++ (SH s ++ SX);
    D = SY;
    next = with_side_lem;
    is_side = h;
    c_is = refl;
    core_is = refl;
    free = not_gone;
    ok = side_ok b s e n h;
    checked = checked_of b s e n h;
    items_now = items_of s ∙ ap (λ (r : List (Item Mark)). F ++ (SH s ++ r)) own_now ∙ sym (grouped F (SH s) SX (side_items ids (wrapper_of b) n (table b n) (side s n).core ++ SY));
    has = box_in;
    C1 = map (enters ids (wrapper_of b)) (wrapper_of b).sides ++ map (passes ids (wrapper_of b)) sp.X;
    C2 = (map (passes ids (wrapper_of b)) sp.Y ++ map (takes ids) (wrapper_of b).routes) ++ (SH s ++ SX);
    at_pass = more_after (map (enters ids (wrapper_of b)) (wrapper_of b).sides ++ map (passes ids (wrapper_of b)) sp.X)
        (map (passes ids (wrapper_of b)) sp.Y ++ map (takes ids) (wrapper_of b).routes) (SH s ++ SX) (passes ids (wrapper_of b) n) at_passes;
    E1 = map (enters ids (wrapper_of b)) sp.X;
    E2 = (map (enters ids (wrapper_of b)) sp.Y ++ (map (passes ids (wrapper_of b)) (wrapper_of b).sides ++ map (takes ids) (wrapper_of b).routes)) ++ (SH s ++ SX);
    at_enter = more_after (map (enters ids (wrapper_of b)) sp.X)
        (map (enters ids (wrapper_of b)) sp.Y ++ (map (passes ids (wrapper_of b)) (wrapper_of b).sides ++ map (takes ids) (wrapper_of b).routes)) (SH s ++ SX) (enters ids (wrapper_of b) n) at_enters;
    items_next = λ k l p q. ap (ritems forget)
        (items_of (with_side_lem k l) ∙ ap₂ (λ (x y : List (Item Mark)). F ++ (x ++ y)) (SH-same k l p q) (own_split k l) ∙ sym (grouped F (SH s) SX (side_items ids (wrapper_of b) n (table b n) k ++ SY)))
        ∙ whole° (wrapper_of b) n (table b n) (F ++ (SH s ++ SX)) SY k;
    boxes_next = boxes_as;
    minted_next = λ k l p. by_same (λ m. upto (side (with_side_lem k l) m).core.contents.minted (mint_of m)) (λ m. upto (side s m).core.contents.minted (mint_of m)) all_sides
        (λ m z. ap (λ (i : ℕ). upto i (mint_of m)) (by_side_lem k l (λ (o u : Side). o.core.contents.minted ≡ u.core.contents.minted) p (λ o. refl) m));
    known_next = λ k v x m. put_or (λ o. marked o.left x) s n (record { core = k; left = mark_all (side s n).left v }) (mem x v) pos lt (marked_all v (side s n).left x (left_size b s n e (which b.wrapper n h)) m);
    known_same = λ k x. put_one (λ o. marked o.left x) s n (record { core = k; left = (side s n).left }) refl;
    shelve = shelving;
  }
