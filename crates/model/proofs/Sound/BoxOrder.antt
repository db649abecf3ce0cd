-- A state seen from one side: its own boxes and its own new names last.
use mathlib.Core.Path.{◌≡◌, refl, sym, ap, ap₂, ◌∙◌, subst, subst₂, fun_ext}
use mathlib.Core.Bool.{Bool, true, false, not, cond, ◌||◌, false≢true}
use mathlib.Core.List.{List, [], ◌∷◌, ◌++◌, append_assoc, map}
use mathlib.Core.Logic.{◌⊎◌, inl, ⊎_elim}
use Prim.Native.Nat.{ℕ, suc, ◌<◌, ◌≤◌}
use native.Mathlib.Omega.{arith}
use borrow.Author.Tests.{ltb-true, eqb-true, eq-eqb, ne_eqb}
use lib.Dec.{eqb, T}
use lib.ListN.{length}
use Rattle.calculus.specs.Congruence.{◌≋◌, trans}
use Rattle.calculus.specs.Transitions.{mem, restrict}
use Rattle.calculus.specs.Tree.{Place, fill}
use Rattle.calculus.specs.Tree.{Item}
use Rattle.model.specs.Basics.{has}
use Rattle.model.specs.Values.{serial, side_of as mint_side}
use Rattle.model.specs.Table.{Table}
use Rattle.model.specs.Side.{Box, Particle, Core, Side, State, output, input, side}
use Rattle.model.specs.Wrapper.{Wrapper, all_sides, has_side}
use Rattle.model.specs.Load.{Composition, wrapper_of, table}
use Rattle.model.specs.WellFormed.{counts, count_of, ready}
use Rattle.model.specs.Step.{known}
use Rattle.model.specs.Process.{Mark, upto, mint_of, site_of, keep, place_of, places_of, all_places, by_side, conf_as, conf_of, new_of, minted_of, own_name, numbered, part_item, msg_item, shelf_item}
use Rattle.model.specs.Process.{shelf_items, side_items, enters, passes, takes, forwarders, is_gone}
use Rattle.calculus.proofs.Trees.{Wf, Reach}
use Rattle.calculus.proofs.Extrusion.{in_news}
use Rattle.calculus.proofs.FreeNames.{or_left, or_right}
use Rattle.calculus.proofs.Swaps.{Off, Offs, AsideAll, Asides, news_swap, fill_swap_over}
use Rattle.calculus.proofs.Bags.{at, rplaces}
use Rattle.model.proofs.Basics.Tests.{snd, or_cases as Bool-cases, or_right as bool-right, or_first}
use Rattle.model.proofs.Basics.Sides.{put_self}
use Rattle.model.proofs.Basics.Names.{held_below}
use Rattle.model.proofs.Formed.MeetingKeeps.{minted_number_lem}
use Rattle.model.proofs.Formed.Invariant.{known_held, which, positive, count_is}
use Rattle.model.proofs.Processes.KnownNames.{All, Distinct, is_true, keep_out, upto_out, by_out, sides_distinct}
use Rattle.model.proofs.Processes.Boxes.{places_split}
use Rattle.model.proofs.Processes.StateTree.{few, Placed, placed_for, boxes_marks}
use Rattle.model.proofs.Sound.ItemMoves.{ids, forget}
use Rattle.model.proofs.Sound.SideViews.{View, Split, split, by_app, by_same, put_one, sp, with_side_lem, at_n, off_n, F, SH, SX, SY, view}

-- items that stand elsewhere
abbrev pub Away : {M : Type 0} → ℕ → List (Item M) → Type 0
Away side [] = Unit {0}
Away side (i ∷ I) = ((k : ℕ) → eqb (site_of side k) i.site ≡ false) × Away side I

pub away_app : {M : Type 0} (side : ℕ) (X Y : List (Item M)) → Away side X → Away side Y → Away side (X ++ Y)
away_app side [] Y p q = q
away_app side (i ∷ X) Y p q = (p.0, away_app side X Y p.1 q)

away_numbered : {M A : Type 0} (side : ℕ) (f : ℕ → A → Item M) → ((i : ℕ) (x : A) (k : ℕ) → eqb (site_of side k) (f i x).site ≡ false) → (n : ℕ) (l : List A) → Away side (numbered f n l)
away_numbered side f h n [] = tt
away_numbered side f h n (x ∷ l) = (h n x, away_numbered side f h (suc n) l)

pub record Orient (b : Composition) (s : State) (vw : View b s) : Type 0 where
  pub Bo : List (Place (Unit {0}))
  pub Nm : ℕ → List ℕ
  pub wf_b : Wf (All b s) (places_of forget vw.c.side 0 vw.core.contents.boxes Bo)
  pub reach_b : (p : ℕ) → p < length vw.core.contents.boxes → Reach (places_of forget vw.c.side 0 vw.core.contents.boxes Bo) (site_of vw.c.side p)
  pub away_c : Away vw.c.side vw.C
  pub away_d : Away vw.c.side vw.D
  pub more : (m : ℕ) → vw.core.contents.minted ≤ m → m < 256 → Nm (suc m) ≡ Nm m ++ mint_of vw.c.side m ∷ []
  pub orient : (k : Core) → k.contents.minted ≤ 256 → (I : List (Item (Unit {0}))) →
      restrict (new_of b (vw.next k vw.left)) (fill (rplaces forget (conf_of b (vw.next k vw.left)).boxes) (at I)) ≋ restrict (Nm k.contents.minted) (fill (places_of forget vw.c.side 0 k.contents.boxes Bo) (at I))
  pub is_now : vw.next vw.core vw.left ≡ s

keep_app : (f : ℕ → Bool) (l m : List ℕ) → keep f (l ++ m) ≡ keep f l ++ keep f m
keep_app f [] m = refl
keep_app f (x ∷ l) m = go (f x) (keep_app f l m)
  where
    go : (b : Bool) → keep f (l ++ m) ≡ keep f l ++ keep f m → cond b (x ∷ keep f (l ++ m)) (keep f (l ++ m)) ≡ cond b (x ∷ keep f l) (keep f l) ++ keep f m
    go true e = ap (λ (r : List ℕ). x ∷ r) e
    go false e = e

-- lists of names that differ
off_of : (x : ℕ) (Y : List ℕ) → ((y : ℕ) → T (mem y Y) → x ≡ y → ⊥) → Off x Y
off_of x [] h = tt
off_of x (y ∷ Y) h = (ne_eqb x y (h y (or_left (eqb y y) (mem y Y) (is_true (eqb y y) (eq-eqb y y refl)))), off_of x Y (λ z m. h z (or_right (eqb z y) (mem z Y) m)))

offs_of : (X Y : List ℕ) → ((x y : ℕ) → T (mem x X) → T (mem y Y) → x ≡ y → ⊥) → Offs X Y
offs_of [] Y h = tt
offs_of (x ∷ X) Y h = (off_of x Y (λ y m. h x y (or_left (eqb x x) (mem x X) (is_true (eqb x x) (eq-eqb x x refl))) m), offs_of X Y (λ z y m. h z y (or_right (eqb z x) (mem z X) m)))

-- boxes of different sides
aside_acc : (c : Place (Unit {0})) (side j : ℕ) (bs : List Box) (acc : List (Place (Unit {0}))) → ((i : ℕ) → eqb c.site (site_of side i) ≡ false) → eqb c.site 0 ≡ false →
    ((i : ℕ) → eqb (site_of side i) c.parent ≡ false) → AsideAll c acc → AsideAll c (places_of forget side j bs acc)
aside_acc c side j [] acc p z q h = h
aside_acc c side j (x ∷ bs) acc p z q h = aside_acc c side (suc j) bs (place_of forget side j x ∷ acc) p z q ((p j, par (eqb j 0), q j), h)
  where
    par : (t : Bool) → eqb c.site (cond t 0 (site_of side x.parent)) ≡ false
    par true = z
    par false = p x.parent

asides_acc : (s2 s1 j : ℕ) (bs : List Box) (acc Y : List (Place (Unit {0}))) → ((x : Box) (i : ℕ) → AsideAll (place_of forget s2 i x) Y) → Asides acc Y → Asides (places_of forget s2 j bs acc) Y
asides_acc s2 s1 j [] acc Y h e = e
asides_acc s2 s1 j (x ∷ bs) acc Y h e = asides_acc s2 s1 (suc j) bs (place_of forget s2 j x ∷ acc) Y h (h x j, e)

-- lists of numbers
pub has_app : (m : ℕ) (X Y : List ℕ) → has m (X ++ Y) ≡ has m X || has m Y
has_app m [] Y = refl
has_app m (x ∷ X) Y = ap (λ (t : Bool). eqb m x || t) (has_app m X Y) ∙ assoc (eqb m x) (has m X) (has m Y)
  where
    assoc : (a b c : Bool) → a || (b || c) ≡ (a || b) || c
    assoc true b c = refl
    assoc false b c = refl

has_last : (m n : ℕ) (X Y : List ℕ) → has m (X ++ (Y ++ n ∷ [])) ≡ has m (X ++ n ∷ Y)
has_last m n X Y = has_app m X (Y ++ n ∷ []) ∙ ap (λ (t : Bool). has m X || t) (has_app m Y (n ∷ []) ∙ comm (has m Y) (eqb m n)) ∙ sym (has_app m X (n ∷ Y))
  where
    comm : (a c : Bool) → a || (c || false) ≡ c || a
    comm true true = refl
    comm true false = refl
    comm false true = refl
    comm false false = refl

distinct_end : (n : ℕ) (Y : List ℕ) → (has n Y ≡ true → ⊥) → Distinct Y → Distinct (Y ++ n ∷ [])
distinct_end n [] h d = (false≢true, tt)
distinct_end n (y ∷ Y) h d = (
  λ q. ⊎_elim d.0 (λ p. ⊎_elim (λ r. h (or_first (eqb n y) (has n Y) (eq-eqb n y (sym (eqb-true y n r))))) (λ r. false≢true r) (Bool-cases (eqb y n) false p)) (Bool-cases (has y Y) (has y (n ∷ [])) (sym (has_app y Y (n ∷ [])) ∙ q)),
  distinct_end n Y (λ q. h (bool-right (eqb n y) (has n Y) q)) d.1,
)

distinct_move : (X : List ℕ) (n : ℕ) (Y : List ℕ) → Distinct (X ++ n ∷ Y) → Distinct (X ++ (Y ++ n ∷ []))
distinct_move [] n Y d = distinct_end n Y d.0 d.1
distinct_move (x ∷ X) n Y d = (λ q. d.0 (sym (has_last x n X Y) ∙ q), distinct_move X n Y d.1)

-- the boxes of a list of sides
all_app : {M : Type 0} (mk : Mark → M) (s : State) (X Y : List ℕ) (acc : List (Place M)) → all_places mk s (X ++ Y) acc ≡ all_places mk s Y (all_places mk s X acc)
all_app mk s [] Y acc = refl
all_app mk s (x ∷ X) Y acc = all_app mk s X Y (places_of mk x 0 (side s x).core.contents.boxes acc)

all_split : {M : Type 0} (mk : Mark → M) (s : State) (X : List ℕ) (acc : List (Place M)) → all_places mk s X acc ≡ all_places mk s X [] ++ acc
all_split mk s [] acc = refl
all_split {M} mk s (x ∷ X) acc = all_split mk s X (places_of mk x 0 bs acc) ∙ ap (λ (r : List (Place M)). all_places mk s X [] ++ r) (places_split mk x 0 bs acc)
    ∙ sym (append_assoc (all_places mk s X []) (places_of mk x 0 bs []) acc) ∙ ap (λ (r : List (Place M)). r ++ acc) (sym (all_split mk s X (places_of mk x 0 bs [])))
  where
    bs : List Box
    bs = (side s x).core.contents.boxes

all_off : (s s'' : State) (X : List ℕ) (acc : List (Place (Unit {0}))) → ((m : ℕ) → has m X ≡ true → side s m ≡ side s'' m) → all_places forget s X acc ≡ all_places forget s'' X acc
all_off s s'' [] acc h = refl
all_off s s'' (x ∷ X) acc h = ap (λ (o : Side). all_places forget s X (places_of forget x 0 o.core.contents.boxes acc)) (h x (ap (λ (t : Bool). t || has x X) (eq-eqb x x refl)))
    ∙ all_off s s'' X (places_of forget x 0 (side s'' x).core.contents.boxes acc) (λ m q. h m (bool-right (eqb m x) (has m X) q))

sites : (m n i j : ℕ) → 1 ≤ m → m ≤ 8 → 1 ≤ n → n ≤ 8 → (m ≡ n → ⊥) → eqb (site_of m i) (site_of n j) ≡ false
sites m n i j a c x y h = ne_eqb (site_of m i) (site_of n j) (λ q. h (omega (arith, a, c, x, y, q)))

site_0 : (m i : ℕ) → 1 ≤ m → eqb (site_of m i) 0 ≡ false
site_0 m i a = ne_eqb (site_of m i) 0 (λ q. omega (arith, a, q))

side_aside : (m n i : ℕ) (x : Box) (bs : List Box) → 1 ≤ m → m ≤ 8 → 1 ≤ n → n ≤ 8 → (m ≡ n → ⊥) → AsideAll (place_of forget m i x) (places_of forget n 0 bs [])
side_aside m n i x bs a c d e h = aside_acc (place_of forget m i x) n 0 bs [] (λ j. sites m n i j a c d e h) (site_0 m i a) (λ j. par j (eqb i 0)) tt
  where
    par : (j : ℕ) (t : Bool) → eqb (site_of n j) (cond t 0 (site_of m x.parent)) ≡ false
    par j true = site_0 n j d
    par j false = sites n m j x.parent d e a c (λ q. h (sym q))

sides_aside : (s : State) (Y : List ℕ) (acc : List (Place (Unit {0}))) (n : ℕ) (bs : List Box) → 1 ≤ n → n ≤ 8 → ((m : ℕ) → has m Y ≡ true → (1 ≤ m) × (m ≤ 8) × (m ≡ n → ⊥)) →
    Asides acc (places_of forget n 0 bs []) → Asides (all_places forget s Y acc) (places_of forget n 0 bs [])
sides_aside s [] acc n bs d e h a = a
sides_aside s (y ∷ Y) acc n bs d e h a =
    let r = h y (ap (λ (t : Bool). t || has y Y) (eq-eqb y y refl)) in
    sides_aside s Y (places_of forget y 0 (side s y).core.contents.boxes acc) n bs d e (λ m q. h m (bool-right (eqb m y) (has m Y) q))
    (asides_acc y n 0 (side s y).core.contents.boxes acc (places_of forget n 0 bs []) (λ x i. side_aside y n i x bs r.0 r.1 d e r.2) a)

keep_by : (f : ℕ → Bool) (g : ℕ → List ℕ) (ns : List ℕ) → keep f (by_side g ns) ≡ by_side (λ n. keep f (g n)) ns
keep_by f g [] = refl
keep_by f g (n ∷ ns) = keep_app f (g n) (by_side g ns) ∙ ap (λ (r : List ℕ). keep f (g n) ++ r) (keep_by f g ns)

away_by : {M : Type 0} (me : ℕ) (f : ℕ → List (Item M)) (ns : List ℕ) → ((m : ℕ) → has m ns ≡ true → Away me (f m)) → Away me (by_side f ns)
away_by me f [] h = tt
away_by me f (n ∷ ns) h = away_app me (f n) (by_side f ns) (h n (ap (λ (t : Bool). t || has n ns) (eq-eqb n n refl))) (away_by me f ns (λ m q. h m (bool-right (eqb m n) (has m ns) q)))

away_map : {M A : Type 0} (me : ℕ) (f : A → Item M) (l : List A) → ((x : A) (k : ℕ) → eqb (site_of me k) (f x).site ≡ false) → Away me (map f l)
away_map me f [] h = tt
away_map me f (x ∷ l) h = (h x, away_map me f l h)

module _ (b : Composition) (s : State) (e : ready b s ≡ true) where
  abbrev nk : ℕ → Bool
  nk x = not (known s x)

  -- a name not yet minted is not known
  unknown : (n m : ℕ) → has n all_sides ≡ true → (side s n).core.contents.minted ≤ m → m < 256 → nk (mint_of n m) ≡ true
  unknown n m a l h = go (known s (mint_of n m)) refl
    where
      go : (t : Bool) → known s (mint_of n m) ≡ t → not t ≡ true
      go false q = refl
      go true q =
          let r = minted_number_lem n m a h in
          let p = held_below (counts s) (mint_of n m) r.0 (known_held b s e (mint_of n m) q r.0) in
          let z = ltb-true (serial (mint_of n m)) (count_of (counts s) (mint_side (mint_of n m))) (snd _ _ p) in
          absurd (bad r.1 r.2 z)
        where
          bad : mint_side (mint_of n m) ≡ n → serial (mint_of n m) ≡ m → serial (mint_of n m) < count_of (counts s) (mint_side (mint_of n m)) → ⊥
          bad u v z =
              let y : m < (side s n).core.contents.minted = subst (λ (i : ℕ). m < i) (count_is s n) (subst₂ (λ (i k : ℕ). i < count_of (counts s) k) v u z) in
              omega (arith, l, y)

  -- what stands beside a side
  pub away_side : {M : Type 0} (mk : Mark → M) (me other : ℕ) (w : Wrapper) (T : Table) (c : Core) → ((j k : ℕ) → eqb (site_of me k) (site_of other j) ≡ false) → ((k : ℕ) → eqb (site_of me k) 0 ≡ false) → Away me (side_items mk w other T c)
  away_side mk me other w T c h z = away_app me (numbered (msg_item mk w other) 0 c.lobby) (numbered (part_item mk T other) 0 c.contents.particles)
      (away_numbered me (msg_item mk w other) (λ i x k. z k) 0 c.lobby) (away_numbered me (part_item mk T other) (λ i x k. site i x k) 0 c.contents.particles)
    where
      site : (i : ℕ) (x : Particle) (k : ℕ) → eqb (site_of me k) (part_item mk T other i x).site ≡ false
      site i (output a ch g v) k = h a k
      site i (input a n vs) k = h a k

  pub away_shelf : {M : Type 0} (mk : Mark → M) (me : ℕ) → ((k : ℕ) → eqb (site_of me k) 0 ≡ false) → (gone : ℕ → Bool) (n i : ℕ) (l : List (List ℕ)) → Away me (shelf_items mk gone n i l)
  away_shelf mk me z gone n i [] = tt
  away_shelf mk me z gone n i (v ∷ l) = away_app me (cond (gone i) [] (shelf_item mk n i v ∷ [])) (shelf_items mk gone n (suc i) l) (go (gone i)) (away_shelf mk me z gone n (suc i) l)
    where
      go : (t : Bool) → Away me (cond t [] (shelf_item mk n i v ∷ []))
      go true = tt
      go false = (z, tt)

  pub away_forwarders : {M : Type 0} (mk : Mark → M) (me : ℕ) → ((k : ℕ) → eqb (site_of me k) 0 ≡ false) → (w : Wrapper) → Away me (forwarders mk w)
  away_forwarders mk me z w = away_app me (map (enters mk w) w.sides) _ (away_map me (enters mk w) w.sides (λ x k. z k))
      (away_app me (map (passes mk w) w.sides) _ (away_map me (passes mk w) w.sides (λ x k. z k)) (away_map me (takes mk) w.routes (λ x k. z k)))

  module _ (n : ℕ) (h : has_side (wrapper_of b) n ≡ true) where
    a : has n all_sides ≡ true
    a = which b.wrapper n h

    p1 : 1 ≤ n
    p1 = (positive n a).0

    p8 : n ≤ 8
    p8 = omega (arith, (positive n a).1)

    abbrev S : Split (wrapper_of b).sides n
    S = sp b s e n h

    -- the same among all sides
    N : Split all_sides n
    N = split all_sides n (false≢true, (false≢true, tt)) a

    abbrev PX : List (Place (Unit {0}))
    PX = all_places forget s S.X []

    abbrev PY : List (Place (Unit {0}))
    PY = all_places forget s S.Y []

    abbrev U : ℕ → List ℕ
    U m = keep nk (upto (side s m).core.contents.minted (mint_of m))

    KX : List ℕ
    KX = by_side U N.X

    KY : List ℕ
    KY = by_side U N.Y

    in_sides : (m : ℕ) → has m S.X ≡ true → has_side (wrapper_of b) m ≡ true
    in_sides m q = ap (has m) S.is ∙ has_app m S.X (n ∷ S.Y) ∙ ap (λ (t : Bool). t || has m (n ∷ S.Y)) q

    in_sidesY : (m : ℕ) → has m S.Y ≡ true → has_side (wrapper_of b) m ≡ true
    in_sidesY m q = ap (has m) S.is ∙ has_app m S.X (n ∷ S.Y) ∙ bool-right (has m S.X) (has m (n ∷ S.Y)) (bool-right (eqb m n) (has m S.Y) q)

    conf_is : (t : State) → (conf_as forget b t).boxes ≡ all_places forget t (wrapper_of b).sides []
    unfolding conf_as
    conf_is t = refl

    away_Y' : ((m : ℕ) → has m S.Y ≡ true → Away n (side_items ids (wrapper_of b) m (table b m) (side s m).core)) → Away n (SY b s e n h)
    unfolding SY
    away_Y' q = away_by n _ S.Y q

    away_X' : ((m : ℕ) → has m S.X ≡ true → Away n (side_items ids (wrapper_of b) m (table b m) (side s m).core)) → Away n (SX b s e n h)
    unfolding SX
    away_X' q = away_by n _ S.X q

    away_F' : Away n (F b s e n h)
    unfolding F
    away_F' = away_forwarders ids n (λ k. site_0 n k p1) (wrapper_of b)

    away_SH' : Away n (SH b s e n h s)
    unfolding SH
    away_SH' = away_by n _ (wrapper_of b).sides (λ m q. away_shelf ids n (λ k. site_0 n k p1) (is_gone s m) m 0 (side s m).core.shelf)

    boxes_are : (k : Core) → rplaces forget (conf_of b (with_side_lem b s e n h k (side s n).left)).boxes ≡ PY ++ (places_of forget n 0 k.contents.boxes [] ++ PX)
    boxes_are k =
        let s'' = with_side_lem b s e n h k (side s n).left in
        boxes_marks ids forget b s'' ∙ conf-boxes s'' ∙ ap (λ (L : List ℕ). all_places forget s'' L []) S.is ∙ all_app forget s'' S.X (n ∷ S.Y) []
        ∙ all_split forget s'' S.Y (places_of forget n 0 (side s'' n).core.contents.boxes (all_places forget s'' S.X []))
        ∙ ap₂ (λ (x y : List (Place (Unit {0}))). x ++ y) (all_off s'' s S.Y [] (λ m q. off_n b s e n h k (side s n).left m (S.off_Y m q)))
        (places_split forget n 0 (side s'' n).core.contents.boxes (all_places forget s'' S.X [])
        ∙ ap₂ (λ (o : Side) (y : List (Place (Unit {0}))). places_of forget n 0 o.core.contents.boxes [] ++ y) (at_n b s e n h k (side s n).left) (all_off s'' s S.X [] (λ m q. off_n b s e n h k (side s n).left m (S.off_X m q))))
      where
        conf-boxes : (t : State) → (conf_as forget b t).boxes ≡ all_places forget t (wrapper_of b).sides []
        conf-boxes t = conf_is t

    names_are : (k : Core) → new_of b (with_side_lem b s e n h k (side s n).left) ≡ (map own_name (wrapper_of b).sides ++ KX) ++ (keep nk (upto k.contents.minted (mint_of n)) ++ KY)
    unfolding new_of KX KY
    names_are k =
        let s'' = with_side_lem b s e n h k (side s n).left in
        ap (λ (f : ℕ → Bool). map own_name (wrapper_of b).sides ++ keep (λ x. not (f x)) (minted_of s'')) (fun_ext (view_known k))
        ∙ ap (λ (r : List ℕ). map own_name (wrapper_of b).sides ++ r) (keep_by nk (λ m. upto (side s'' m).core.contents.minted (mint_of m)) all_sides
        ∙ ap (by_side (λ m. keep nk (upto (side s'' m).core.contents.minted (mint_of m)))) N.is ∙ by_app (λ m. keep nk (upto (side s'' m).core.contents.minted (mint_of m))) N.X n N.Y
        ∙ ap₂ (λ (x y : List ℕ). x ++ y) (by_same _ U N.X (λ m q. ap (λ (o : Side). keep nk (upto o.core.contents.minted (mint_of m))) (off_n b s e n h k (side s n).left m (N.off_X m q))))
        (ap₂ (λ (x y : List ℕ). x ++ y) (ap (λ (o : Side). keep nk (upto o.core.contents.minted (mint_of n))) (at_n b s e n h k (side s n).left))
        (by_same _ U N.Y (λ m q. ap (λ (o : Side). keep nk (upto o.core.contents.minted (mint_of m))) (off_n b s e n h k (side s n).left m (N.off_Y m q))))))
        ∙ sym (append_assoc (map own_name (wrapper_of b).sides) (by_side U N.X) (keep nk (upto k.contents.minted (mint_of n)) ++ by_side U N.Y))
      where
        view_known : (k : Core) (x : ℕ) → known (with_side_lem b s e n h k (side s n).left) x ≡ known s x
        view_known k x = put_one (λ o. Rattle.model.specs.Step.marked o.left x) s n (record { core = k; left = (side s n).left }) refl

    off_names : (m : ℕ) → m ≤ 256 → Offs (keep nk (upto m (mint_of n))) KY
    unfolding KY
    off_names m l = offs_of (keep nk (upto m (mint_of n))) (by_side U N.Y) (λ x y p q z.
        let r = by_out U N.Y y q in
        let c = upto_out m (mint_of n) x (keep_out nk (upto m (mint_of n)) x p).0 in
        let d = upto_out (side s r.0).core.contents.minted (mint_of r.0) y (keep_out nk (upto (side s r.0).core.contents.minted (mint_of r.0)) y r.2).0 in
        N.off_Y r.0 r.1 (omega (arith, c.1, c.2, d.1, d.2, few b s e r.0, z)))

    pub orient : Orient b s (view b s e n h)
    unfolding view
    orient = record {
      Bo = PY ++ PX;
      Nm = λ m. (map own_name (wrapper_of b).sides ++ KX) ++ (KY ++ keep nk (upto m (mint_of n)));
      wf_b = subst (λ (B : List (Place (Unit {0}))). Wf (All b s) B) top_is top.1.wf;
      reach_b = λ p l. subst (λ (B : List (Place (Unit {0}))). Reach B (site_of n p)) top_is (top.1.reach n p1 p8 (top.2 n (inl n-in)) p l);
      away_c = away_C;
      away_d = away_Y;
      more = λ m l u. more_of m (unknown n m a l u);
      orient = λ k l I. swapped k l I;
      is_now = put_self s n;
    }
      where
        n-in : has n (S.X ++ (S.Y ++ n ∷ [])) ≡ true
        n-in = has_last n n S.X S.Y ∙ ap (has n) (sym S.is) ∙ h

        top : (ms : List ℕ) × Placed b s e forget ms (all_places forget s (S.X ++ (S.Y ++ n ∷ [])) []) × ((m : ℕ) → (has m (S.X ++ (S.Y ++ n ∷ [])) ≡ true) ⊎ (has m [] ≡ true) → has m ms ≡ true)
        top = placed_for b s e forget (S.X ++ (S.Y ++ n ∷ [])) (λ m q. ap (has m) S.is ∙ sym (has_last m n S.X S.Y) ∙ q) (distinct_move S.X n S.Y (subst Distinct S.is (sides_distinct b.wrapper)))

        top_is : all_places forget s (S.X ++ (S.Y ++ n ∷ [])) [] ≡ places_of forget n 0 (side s n).core.contents.boxes (PY ++ PX)
        top_is = all_app forget s S.X (S.Y ++ n ∷ []) [] ∙ all_app forget s S.Y (n ∷ []) PX ∙ ap (places_of forget n 0 (side s n).core.contents.boxes) (all_split forget s S.Y PX)

        z : (k : ℕ) → eqb (site_of n k) 0 ≡ false
        z k = site_0 n k p1

        beside : (m : ℕ) → has_side (wrapper_of b) m ≡ true → (m ≡ n → ⊥) → Away n (side_items ids (wrapper_of b) m (table b m) (side s m).core)
        beside m q ne =
            let r = positive m (which b.wrapper m q) in
            away_side ids n m (wrapper_of b) (table b m) (side s m).core (λ j k. sites n m k j p1 p8 r.0 (omega (arith, r.1)) (λ w. ne (sym w))) z

        away_Y : Away n (SY b s e n h)
        away_Y = away_Y' (λ m q. beside m (in_sidesY m q) (S.off_Y m q))

        away_C : Away n (F b s e n h ++ (SH b s e n h s ++ SX b s e n h))
        away_C = away_app n (F b s e n h) (SH b s e n h s ++ SX b s e n h) away_F' (away_app n (SH b s e n h s) (SX b s e n h) away_SH' (away_X' (λ m q. beside m (in_sides m q) (S.off_X m q))))

        more_of : (m : ℕ) → nk (mint_of n m) ≡ true →
            (map own_name (wrapper_of b).sides ++ KX) ++ (KY ++ keep nk (upto (suc m) (mint_of n))) ≡ ((map own_name (wrapper_of b).sides ++ KX) ++ (KY ++ keep nk (upto m (mint_of n)))) ++ mint_of n m ∷ []
        more_of m q = ap (λ (r : List ℕ). (map own_name (wrapper_of b).sides ++ KX) ++ (KY ++ r))
            (keep_app nk (upto m (mint_of n)) (mint_of n m ∷ []) ∙ ap (λ (c : Bool). keep nk (upto m (mint_of n)) ++ cond c (mint_of n m ∷ []) []) q)
            ∙ regroup (map own_name (wrapper_of b).sides ++ KX) KY (keep nk (upto m (mint_of n))) (mint_of n m ∷ [])
          where
            regroup : (p o k x : List ℕ) → p ++ (o ++ (k ++ x)) ≡ (p ++ (o ++ k)) ++ x
            regroup p o k x = simp append_assoc

        swapped : (k : Core) → k.contents.minted ≤ 256 → (I : List (Item (Unit {0}))) → restrict (new_of b (with_side_lem b s e n h k (side s n).left)) (fill (rplaces forget (conf_of b (with_side_lem b s e n h k (side s n).left)).boxes) (at I))
            ≋ restrict ((map own_name (wrapper_of b).sides ++ KX) ++ (KY ++ keep nk (upto k.contents.minted (mint_of n)))) (fill (places_of forget n 0 k.contents.boxes (PY ++ PX)) (at I))
        swapped k l I =
            let P = places_of forget n 0 k.contents.boxes [] in
            let R = keep nk (upto k.contents.minted (mint_of n)) in
            let W = map own_name (wrapper_of b).sides ++ KX in
            subst₂ (λ (Z : List ℕ) (B : List (Place (Unit {0}))). restrict Z (fill B (at I)) ≋ restrict (W ++ (KY ++ R)) (fill (places_of forget n 0 k.contents.boxes (PY ++ PX)) (at I))) (sym (names_are k)) (sym (boxes_are k))
            (trans (news_swap W R KY (fill (PY ++ (P ++ PX)) (at I)) (off_names k.contents.minted l))
            (in_news (W ++ (KY ++ R)) (subst (λ (B : List (Place (Unit {0}))). fill (PY ++ (P ++ PX)) (at I) ≋ fill B (at I)) (sym (places_split forget n 0 k.contents.boxes (PY ++ PX)))
            (fill_swap_over PY P PX (at I) (sides_aside s S.Y [] n k.contents.boxes p1 p8 (λ m q. let r = positive m (which b.wrapper m (in_sidesY m q)) in (r.0, omega (arith, r.1), S.off_Y m q)) tt)))))
