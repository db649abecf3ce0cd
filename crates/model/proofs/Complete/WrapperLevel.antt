-- What stands in the environment: the inputs are forwarders, the outputs are messages of a lobby or items of a shelf.
use mathlib.Core.Path.{◌≡◌, refl, sym, ap, ◌∙◌, subst}
use mathlib.Core.Bool.{Bool, true, false, cond, ◌||◌, false≢true}
use mathlib.Core.List.{List, [], ◌∷◌, ◌++◌, map}
use mathlib.Core.Option.{some}
use Prim.Native.Nat.{ℕ, suc, ◌≤◌}
use native.Mathlib.Omega.{arith}
use borrow.Author.Tests.{eq-eqb}
use lib.Dec.{eqb}
use lib.ListN.{get_elem?, set}
use Rattle.calculus.specs.Syntax.{Proc}
use Rattle.calculus.specs.Tree.{Item}
use Rattle.model.specs.Basics.{◌&◌, has, remove}
use Rattle.model.specs.Table.{Table}
use Rattle.model.specs.Wrapper.{Wrapper, Route, has_side}
use Rattle.model.specs.Side.{State, side, Message, Particle, output, input, Core, down, arrived, leaving, Status as SPlace}
use Rattle.model.specs.Load.{Composition, wrapper_of, table}
use Rattle.model.specs.WellFormed.{ready}
use Rattle.model.specs.Process.{Mark, site_of, conf_as, conf_of, by_side, is_gone, numbered, part_item, msg_proc, msg_item, shelf_item, shelf_items, forwarders, side_items, enters, passes, takes as taking}
use Rattle.calculus.proofs.Bags.{item, ritems}
use Rattle.model.proofs.Basics.Tests.{fst, snd, get_every, or_right}
use Rattle.model.proofs.Processes.StateTree.{routes_in}
use Rattle.model.proofs.Sound.ItemMoves.{ids, forget, plain_m, target}
use Rattle.model.proofs.Sound.SideViews.{View, pos, view}
use Rattle.model.proofs.Complete.Completing.{Answers, answers, site_eq, is_out}
use Rattle.model.proofs.Complete.ItemOwners.{shelf_on, own_of, at_side, Stands, forwarder, shelved, message, particle, stands_of}

-- a property of every item of a list
abbrev pub Every : (Item Mark → Type 0) → List (Item Mark) → Type 0
Every Q [] = Unit {0}
Every Q (i ∷ I) = Q i × Every Q I

pub every_app : (Q : Item Mark → Type 0) (X Y : List (Item Mark)) → Every Q X → Every Q Y → Every Q (X ++ Y)
every_app Q [] Y p q = q
every_app Q (i ∷ X) Y p q = (p.0, every_app Q X Y p.1 q)

pub every_mid : (Q : Item Mark → Type 0) (X : List (Item Mark)) (i : Item Mark) (Y : List (Item Mark)) → Every Q (X ++ i ∷ Y) → Q i
every_mid Q [] i Y h = h.0
every_mid Q (x ∷ X) i Y h = every_mid Q X i Y h.1

pub every_numbered : {A : Type 0} (Q : Item Mark → Type 0) (g : ℕ → A → Item Mark) → ((i : ℕ) (x : A) → Q (g i x)) → (n : ℕ) (l : List A) → Every Q (numbered g n l)
every_numbered Q g h n [] = tt
every_numbered Q g h n (x ∷ l) = (h n x, every_numbered Q g h (suc n) l)

pub every_has : (Q : Item Mark → Type 0) (f : ℕ → Item Mark) (ns : List ℕ) → ((n : ℕ) → has n ns ≡ true → Q (f n)) → Every Q (map f ns)
every_has Q f [] h = tt
every_has Q f (n ∷ ns) h = (h n (ap (λ (t : Bool). t || has n ns) (eq-eqb n n refl)), every_has Q f ns (λ m q. h m (or_right (eqb m n) (has m ns) q)))

pub every_get : {A : Type 0} (Q : Item Mark → Type 0) (f : A → Item Mark) (l : List A) → ((k : ℕ) (x : A) → get_elem? l k ≡ some x → Q (f x)) → Every Q (map f l)
every_get Q f [] h = tt
every_get Q f (x ∷ l) h = (h 0 x refl, every_get Q f l (λ k y q. h (suc k) y q))

pub every_by : (Q : Item Mark → Type 0) (f : ℕ → List (Item Mark)) (ns : List ℕ) → ((n : ℕ) → has n ns ≡ true → Every Q (f n)) → Every Q (by_side f ns)
every_by Q f [] h = tt
every_by Q f (n ∷ ns) h = every_app Q (f n) (by_side f ns) (h n (ap (λ (t : Bool). t || has n ns) (eq-eqb n n refl))) (every_by Q f ns (λ m q. h m (or_right (eqb m n) (has m ns) q)))

-- an input in the environment: it takes in, passes on, or takes from a shelf by a route
pub data Input (b : Composition) (s : State) (P : Proc Mark []) : Type 0 where
  enters_of : (vw : View b s) → Answers b s vw → P ≡ (enters ids (wrapper_of b) vw.c.side).what → Input b s P
  passes_of : (vw : View b s) → Answers b s vw → P ≡ (passes ids (wrapper_of b) vw.c.side).what → Input b s P
  takes_of : (k : ℕ) (r : Route) → get_elem? (wrapper_of b).routes k ≡ some r → P ≡ (taking ids r).what → Input b s P

-- a route goes from a side to a side
pub source_in : (b : Composition) (k : ℕ) (r : Route) → get_elem? (wrapper_of b).routes k ≡ some r → has_side (wrapper_of b) r.source ≡ true
source_in b k r g = fst _ _ (get_every (λ r. has_side (wrapper_of b) r.source & has_side (wrapper_of b) r.receiver) (wrapper_of b).routes k r (routes_in b.wrapper) g)

pub receiver_in : (b : Composition) (k : ℕ) (r : Route) → get_elem? (wrapper_of b).routes k ≡ some r → has_side (wrapper_of b) r.receiver ≡ true
receiver_in b k r g = snd _ _ (get_every (λ r. has_side (wrapper_of b) r.source & has_side (wrapper_of b) r.receiver) (wrapper_of b).routes k r (routes_in b.wrapper) g)

module _ (b : Composition) (s : State) (e : ready b s ≡ true) where
  abbrev Fits : Item Mark → Type 0
  Fits i = i.site ≡ 0 → is_out i.what ≡ false → Input b s i.what

  msg_fits : (w : Wrapper) (side i : ℕ) (m : Message) → Fits (msg_item ids w side i m)
  msg_fits w side i m z q = absurd (go m.status q)
    where
      go : (p : SPlace) → is_out (msg_proc ids w side i p m.chan m.val) ≡ false → ⊥
      go down q = false≢true (sym q)
      go arrived q = false≢true (sym q)
      go leaving q = false≢true (sym q)

  part_fits : (T : Table) (side : ℕ) → 1 ≤ side → (i : ℕ) (p : Particle) → Fits (part_item ids T side i p)
  part_fits T side h i (output β c g v) z q = absurd (false≢true (sym q))
  part_fits T side h i (input β n vs) z q = absurd (omega arith)

  shelf_fits : (gone : ℕ → Bool) (side n : ℕ) (l : List (List ℕ)) → Every Fits (shelf_items ids gone side n l)
  shelf_fits gone side n [] = tt
  shelf_fits gone side n (v ∷ l) = every_app Fits (cond (gone n) [] (shelf_item ids side n v ∷ [])) (shelf_items ids gone side (suc n) l) (go (gone n)) (shelf_fits gone side (suc n) l)
    where
      go : (t : Bool) → Every Fits (cond t [] (shelf_item ids side n v ∷ []))
      go true = tt
      go false = ((λ z q. absurd (false≢true (sym q))), tt)

  forwarders_fit : Every Fits (forwarders ids (wrapper_of b))
  unfolding view
  forwarders_fit = every_app Fits (map (enters ids (wrapper_of b)) (wrapper_of b).sides) _ (every_has Fits (enters ids (wrapper_of b)) (wrapper_of b).sides (λ n h z q. enters_of (view b s e n h) (answers b s e n h) refl))
      (every_app Fits (map (passes ids (wrapper_of b)) (wrapper_of b).sides) _ (every_has Fits (passes ids (wrapper_of b)) (wrapper_of b).sides (λ n h z q. passes_of (view b s e n h) (answers b s e n h) refl))
      (every_get Fits (taking ids) (wrapper_of b).routes (λ k r g z q. takes_of k r g refl)))

  side_fits_lem : (side : ℕ) (T : Table) (c : Core) → 1 ≤ side → Every Fits (side_items ids (wrapper_of b) side T c)
  side_fits_lem side T c h = every_app Fits (numbered (msg_item ids (wrapper_of b) side) 0 c.lobby) (numbered (part_item ids T side) 0 c.contents.particles)
      (every_numbered Fits (msg_item ids (wrapper_of b) side) (msg_fits (wrapper_of b) side) 0 c.lobby) (every_numbered Fits (part_item ids T side) (part_fits T side h) 0 c.contents.particles)

  all_fit : Every Fits (conf_of b s).items
  unfolding conf_as
  all_fit = every_app Fits (forwarders ids (wrapper_of b)) _ forwarders_fit
      (every_app Fits (by_side (shelf_on b s) (wrapper_of b).sides) _ (every_by Fits (shelf_on b s) (wrapper_of b).sides (λ n h. shelf_fits (is_gone s n) n 0 (side s n).core.shelf))
      (every_by Fits (own_of b s) (wrapper_of b).sides (λ n h. side_fits_lem n (table b n) (side s n).core (pos b s e n h))))

  pub input_is : (X Y : List (Item Mark)) (P : Proc Mark []) → (conf_of b s).items ≡ X ++ item 0 P ∷ Y → is_out P ≡ false → Input b s P
  input_is X Y P q n = every_mid Fits X (item 0 P) Y (subst (Every Fits) q all_fit) refl n

-- an output in the environment: a message of a side's lobby, or an item of a side's shelf
pub data Sent (b : Composition) (s : State) (X : List (Item Mark)) (P : Proc Mark []) (Y : List (Item Mark)) : Type 0 where
  of_lobby : (vw : View b s) → Answers b s vw → (j : ℕ) (m : Message) → get_elem? vw.core.lobby j ≡ some m → item 0 P ≡ msg_item ids (wrapper_of b) vw.c.side j m
      → ritems forget X ++ ritems forget Y ≡ target (wrapper_of b) vw.c.side vw.c.table vw.C vw.D vw.core (remove vw.core.lobby j) vw.core.contents.particles
      → ((n : Message) → ritems forget X ++ plain_m (wrapper_of b) vw.c.side n ∷ ritems forget Y ≡ target (wrapper_of b) vw.c.side vw.c.table vw.C vw.D vw.core
      (set vw.core.lobby j n) vw.core.contents.particles) → Sent b s X P Y
  of_shelf : (n : ℕ) (h : has_side (wrapper_of b) n ≡ true) (X1 Y1 : List (Item Mark)) → shelf_on b s n ≡ X1 ++ item 0 P ∷ Y1
      → X ≡ forwarders ids (wrapper_of b) ++ (by_side (shelf_on b s) (at_side b s n h).X ++ X1)
      → Y ≡ Y1 ++ (by_side (shelf_on b s) (at_side b s n h).Y ++ by_side (own_of b s) (wrapper_of b).sides) → Sent b s X P Y

no_part : (P : Proc Mark []) (T : Table) (side j : ℕ) (p : Particle) → 1 ≤ side → item 0 P ≡ part_item ids T side j p → ⊥
no_part P T side j (output β ch g u) h q = let z : 0 ≡ site_of side β = site_eq q in omega arith
no_part P T side j (input β n vs) h q = let z : 0 ≡ site_of side β = site_eq q in omega arith

-- the forwarders are inputs
no_forwarder : (w : Wrapper) (X : List (Item Mark)) (P : Proc Mark []) (Y : List (Item Mark)) → is_out P ≡ true → forwarders ids w ≡ X ++ item 0 P ∷ Y → ⊥
no_forwarder w X P Y o q = false≢true (sym (every_mid Inp X (item 0 P) Y (subst (Every Inp) q inputs)) ∙ o)
  where
    Inp : Item Mark → Type 0
    Inp i = is_out i.what ≡ false

    inputs : Every Inp (forwarders ids w)
    inputs = every_app Inp (map (enters ids w) w.sides) _ (every_has Inp (enters ids w) w.sides (λ n h. refl))
        (every_app Inp (map (passes ids w) w.sides) _ (every_has Inp (passes ids w) w.sides (λ n h. refl)) (every_get Inp (taking ids) w.routes (λ k r g. refl)))

module _ (b : Composition) (s : State) (e : ready b s ≡ true) where
  pub output_is : (X Y : List (Item Mark)) (P : Proc Mark []) → (conf_of b s).items ≡ X ++ item 0 P ∷ Y → is_out P ≡ true → Sent b s X P Y
  output_is X Y P is o = go (stands_of b s e X (item 0 P) Y is)
    where
      go : Stands b s X (item 0 P) Y → Sent b s X P Y
      go (forwarder Y1 q) = absurd (no_forwarder (wrapper_of b) X P Y1 o q)
      go (shelved n h X1 Y1 q ex ey) = of_shelf n h X1 Y1 q ex ey
      go (message vw ac j m g is gone put) = of_lobby vw ac j m g is gone put
      go (particle vw ac j p g is gone put) = absurd (no_part P vw.c.table vw.c.side j p (pos b s e vw.c.side vw.is_side) is)
