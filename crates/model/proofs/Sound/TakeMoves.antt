-- A side takes from a shelf, by one of its wrapper's routes.
use mathlib.Core.Path.{◌≡◌, refl, sym, ap, ap₂, ◌∙◌, subst}
use mathlib.Core.Bool.{Bool, true, false, cond, ◌||◌, false≢true}
use mathlib.Core.List.{List, [], ◌∷◌, ◌++◌, append_assoc, map}
use mathlib.Core.Logic.{⊎_elim}
use mathlib.Core.Option.{some}
use Prim.Native.Nat.{ℕ, zero, suc, ◌+◌, ◌<◌, ◌≤◌}
use native.Mathlib.Omega.{arith}
use borrow.Author.Tests.{eqb-true}
use lib.Dec.{eqb}
use lib.ListN.{length, set, get_elem?}
use lib.Seq.{get_or-set_same, get_or-set_other}
use Rattle.calculus.specs.Syntax.{plain}
use Rattle.calculus.specs.Syntax.{out as pout, child as ichild}
use Rattle.calculus.specs.Transitions.{tau, joint}
use Rattle.calculus.specs.Tree.{Item}
use Rattle.calculus.specs.Wrappers.{mid_name}
use Rattle.model.specs.Basics.{◌&◌, done, has}
use Rattle.model.specs.Wrapper.{Route, described, has_side, takes_any}
use Rattle.model.specs.Side.{Core, Side, State, down, side, no_side, has_taken, taken_at}
use Rattle.model.specs.Load.{Composition, wrapper_of, table}
use Rattle.model.specs.WellFormed.{ready, shelf_of}
use Rattle.model.specs.Step.{route_to}
use Rattle.model.specs.Process.{Mark, shelf, taker, own_name, val_of, by_side, shelf_item, shelf_items, is_gone, side_items, enters, passes, conf_of, new_of, takes as taking}
use Rattle.calculus.proofs.Bags.{item, Bag, bag_eq, bag_trans, bag_cons, ritems, ritems_app}
use Rattle.model.proofs.Basics.Sides.{described_by}
use Rattle.model.proofs.Basics.Tests.{fst, choose_done, get_every, or_cases, or_right as bool-right}
use Rattle.model.proofs.Formed.Keeping.{done_inj}
use Rattle.model.proofs.Basics.Items.{clash}
use Rattle.model.proofs.Processes.StateTree.{shelf_marks, by_marks, routes_in, items_each}
use Rattle.model.proofs.Processes.KnownNames.{All, sides_distinct}
use Rattle.model.proofs.Basics.Splits.{get_length}
use Rattle.model.proofs.Sound.StateMoves.{Goes, goes_silent, wf_all, rooted_all}
use Rattle.model.proofs.Sound.SideSteps.{root_all}
use Rattle.model.proofs.Sound.BoxOrder.{has_app}
use Rattle.model.proofs.Formed.Invariant.{which, positive, one_get, route_any, mark_taker, taken_size, shelf_few}
use Rattle.model.proofs.Sound.SideViews.{Split, split, by_app, by_same, put_one, put_or, with_side_lem, by_side_lem, pos, lt, F, SH, SX, SY, SH°, shelf_at, shelf_at°, items_of, own_now, own_split, grouped, new_same, view}
use Rattle.model.proofs.Sound.ItemMoves.{ids, forget, moves_to, go_on, target, whole°, add_msg}

-- a route that is found is a route of the wrapper
pub route_get : (rs : List Route) (n j : ℕ) (r : Route) → route_to rs n j ≡ done r → (k : ℕ) × (get_elem? rs k ≡ some r) × (r.receiver ≡ n)
unfolding route_to
route_get [] n j r e = absurd (clash e)
route_get (q ∷ rs) n j r e = ⊎_elim (λ p. this p.0 (done_inj p.1)) (λ p. let t = route_get rs n j r p.1 in (suc t.0, t.1, t.2)) (choose_done _ _ _ _ e)
  where
    this : eqb q.receiver n & eqb q.j j ≡ true → q ≡ r → (k : ℕ) × (get_elem? (q ∷ rs) k ≡ some r) × (r.receiver ≡ n)
    this t same = (0, ap some same, ap (λ (x : Route). x.receiver) (sym same) ∙ eqb-true q.receiver n (fst _ _ t))

pub record MapAt (rs : List Route) (r : Route) : Type 0 where
  pub A : List (Item Mark)
  pub B : List (Item Mark)
  pub is : map (taking (λ (m : Mark). m)) rs ≡ A ++ taking (λ (m : Mark). m) r ∷ B

pub map_get : (rs : List Route) (k : ℕ) (r : Route) → get_elem? rs k ≡ some r → MapAt rs r
map_get [] k r e = absurd (let z : ◌≡◌ {A = ℕ} 0 1 = cc in omega arith)
map_get (q ∷ rs) zero r e =
    let z : q ≡ r = cc in
    record { A = []; B = map (taking (λ (m : Mark). m)) rs; is = ap (λ (x : Route). taking (λ (m : Mark). m) x ∷ map (taking (λ (m : Mark). m)) rs) z }
map_get (q ∷ rs) (suc k) r e =
    let t = map_get rs k r e in
    record { A = taking (λ (m : Mark). m) q ∷ t.A; B = t.B; is = ap (λ (l : List (Item Mark)). taking (λ (m : Mark). m) q ∷ l) t.is }

-- one side alone takes
pub sole : (w n k : ℕ) → takes_any (described w) n ≡ true → takes_any (described w) k ≡ true → n ≡ k
sole w n k = described_by (λ d. takes_any d n ≡ true → takes_any d k ≡ true → n ≡ k) (λ p q. absurd (false≢true p)) two (λ p q. absurd (false≢true p)) (λ p q. absurd (false≢true p)) w
  where
    is-2 : (n : ℕ) → eqb 2 n || false ≡ true → 2 ≡ n
    is-2 n p = ⊎_elim (λ a. eqb-true 2 n a) (λ a. absurd (false≢true a)) (or_cases (eqb 2 n) false p)

    two : eqb 2 n || false ≡ true → eqb 2 k || false ≡ true → n ≡ k
    two p q = sym (is-2 n p) ∙ is-2 k q

-- a shelf of which one place more is taken
pub shelf_same : (gone gone' : ℕ → Bool) (q n : ℕ) (l : List (List ℕ)) → ((x : ℕ) → n ≤ x → x < n + length l → gone' x ≡ gone x) → shelf_items forget gone' q n l ≡ shelf_items forget gone q n l
shelf_same gone gone' q n [] h = refl
shelf_same gone gone' q n (v ∷ l) h = ap₂ (λ (t : Bool) (r : List (Item (Unit {0}))). cond t [] (shelf_item forget q n v ∷ []) ++ r) (h n (omega arith) (omega arith))
    (shelf_same gone gone' q (suc n) l (λ x a c. h x (omega arith) (omega arith)))

pub record OnShelf (gone gone' : ℕ → Bool) (q n : ℕ) (l : List (List ℕ)) (i : ℕ) (v : List ℕ) : Type 0 where
  pub P : List (Item Mark)
  pub Q : List (Item Mark)
  pub is : shelf_items ids gone q n l ≡ P ++ shelf_item ids q (n + i) v ∷ Q
  pub gone_is : ritems forget P ++ ritems forget Q ≡ shelf_items forget gone' q n l

pub on_shelf : (gone gone' : ℕ → Bool) (q n : ℕ) (l : List (List ℕ)) (i : ℕ) (v : List ℕ) → get_elem? l i ≡ some v → gone (n + i) ≡ false → gone' (n + i) ≡ true →
    ((x : ℕ) → (x ≡ n + i → ⊥) → n ≤ x → x < n + length l → gone' x ≡ gone x) → OnShelf gone gone' q n l i v
on_shelf gone gone' q n [] i v e f g h = absurd (let z : ◌≡◌ {A = ℕ} 0 1 = cc in omega arith)
on_shelf gone gone' q n (u ∷ l) zero v e f g h = record {
  P = [];
  Q = shelf_items ids gone q (suc n) l;
  is = ap₂ (λ (t : Bool) (x : List ℕ). cond t [] (shelf_item ids q n x ∷ []) ++ shelf_items ids gone q (suc n) l) (subst (λ (z : ℕ). gone z ≡ false) n0 f) uv ∙ ap (λ (z : ℕ). shelf_item ids q z v ∷ shelf_items ids gone q (suc n) l) (sym n0);
  gone_is = shelf_marks ids forget gone q (suc n) l
      ∙ sym (ap (λ (t : Bool). cond t [] (shelf_item forget q n u ∷ []) ++ shelf_items forget gone' q (suc n) l) (subst (λ (z : ℕ). gone' z ≡ true) n0 g)
      ∙ shelf_same gone gone' q (suc n) l (λ x a c. h x (λ z. omega (arith, z, a)) (omega arith) (omega arith)));
}
  where
    n0 : n + 0 ≡ n
    n0 = omega arith

    uv : u ≡ v
    uv = cc
on_shelf gone gone' q n (u ∷ l) (suc i) v e f g h =
    let r = on_shelf gone gone' q (suc n) l i v e (subst (λ (z : ℕ). gone z ≡ false) (omega arith) f) (subst (λ (z : ℕ). gone' z ≡ true) (omega arith) g) (λ x z a c. h x (λ w. z (omega (arith, w))) (omega arith) (omega arith)) in
    record {
      P = cond (gone n) [] (shelf_item ids q n u ∷ []) ++ r.P;
      Q = r.Q;
      is = ap (λ (z : List (Item Mark)). cond (gone n) [] (shelf_item ids q n u ∷ []) ++ z) (r.is ∙ ap (λ (z : ℕ). r.P ++ shelf_item ids q z v ∷ r.Q) (omega arith))
          ∙ sym (append_assoc (cond (gone n) [] (shelf_item ids q n u ∷ [])) r.P (shelf_item ids q (n + suc i) v ∷ r.Q));
      gone_is = ap (λ (z : List (Item (Unit {0}))). z ++ ritems forget r.Q) (ritems_app forget (cond (gone n) [] (shelf_item ids q n u ∷ [])) r.P)
          ∙ append_assoc (ritems forget (cond (gone n) [] (shelf_item ids q n u ∷ []))) (ritems forget r.P) (ritems forget r.Q)
          ∙ ap₂ (λ (y z : List (Item (Unit {0}))). y ++ z) (head (gone n) ∙ ap (λ (t : Bool). cond t [] (shelf_item forget q n u ∷ [])) (sym (h n (λ z. omega (arith, z)) (omega arith) (omega arith)))) r.gone_is;
    }
  where
    head : (t : Bool) → ritems forget (cond t [] (shelf_item ids q n u ∷ [])) ≡ cond t [] (shelf_item forget q n u ∷ [])
    head true = refl
    head false = shelf_marks ids forget (λ x. false) q n (u ∷ [])

or_one : (a : Bool) → a || true ≡ true
or_one true = refl
or_one false = refl

module _ (b : Composition) (s : State) (e : ready b s ≡ true) (n : ℕ) (h : has_side (wrapper_of b) n ≡ true) (j : ℕ) (r : Route) (fr : route_to (wrapper_of b).routes n j ≡ done r) where
  abbrev pub m : ℕ
  m = r.source

  pub at_route : (k : ℕ) × (get_elem? (wrapper_of b).routes k ≡ some r) × (r.receiver ≡ n)
  at_route = route_get (wrapper_of b).routes n j r fr

  pub hm : has_side (wrapper_of b) m ≡ true
  hm = fst _ _ (get_every (λ r. has_side (wrapper_of b) r.source & has_side (wrapper_of b) r.receiver) (wrapper_of b).routes at_route.0 r (routes_in b.wrapper) at_route.1)

  pm : (1 ≤ m) × (m ≤ 2)
  pm = positive m (which b.wrapper m hm)

  still : (i : ℕ) → has_taken (side s n).core m i ≡ false → is_gone s m i ≡ false
  still i f = go (is_gone s m i) refl
    where
      go : (t : Bool) → is_gone s m i ≡ t → t ≡ false
      go false q = refl
      go true q =
          let (k, a, t) = one_get (λ o. has_taken o.core m i) s.sides no_side q in
          let u : n ≡ suc k = sole b.wrapper n (suc k) (route_any (wrapper_of b).routes n j r fr) (mark_taker b s e m i k a t) in
          absurd (false≢true (sym f ∙ ap (λ (z : ℕ). has_taken (side s z).core m i) u ∙ t))

  -- the side with the value of place i in its lobby
  abbrev pub took : ℕ → List ℕ → Core
  took i v = record { contents = (side s n).core.contents; lobby = (side s n).core.lobby ++ (record { status = down; chan = 2; val = v } ∷ []); shelf = (side s n).core.shelf; taken = set (side s n).core.taken (taken_at m i) true }

  abbrev pub took_state : ℕ → List ℕ → State
  took_state i v = with_side_lem b s e n h (took i v) (side s n).left

  gone_now : (i : ℕ) (v : List ℕ) → i < 32 → is_gone (took_state i v) m i ≡ true
  gone_now i v l = put_or (λ o. has_taken o.core m i) s n (record { core = took i v; left = (side s n).left }) true (pos b s e n h) (lt b s e n h)
      (get_or-set_same (side s n).core.taken (taken_at m i) true false (omega (arith, taken_size b s e n h, pm.0, pm.1, l)) ∙ sym (or_one (has_taken (side s n).core m i))) ∙ or_one (is_gone s m i)

  gone_else : (i : ℕ) (v : List ℕ) (q x : ℕ) → i < 32 → x < 32 → 1 ≤ q → ((q ≡ m) × (x ≡ i) → ⊥) → is_gone (took_state i v) q x ≡ is_gone s q x
  gone_else i v q x l u p ne = put_one (λ o. has_taken o.core q x) s n (record { core = took i v; left = (side s n).left })
      (get_or-set_other (side s n).core.taken (taken_at m i) (taken_at q x) true false (λ z. ne (omega (arith, z, l, u, p, pm.0), omega (arith, z, l, u, p, pm.0))))

  abbrev pub Mm : Split (wrapper_of b).sides m
  Mm = split (wrapper_of b).sides m (sides_distinct b.wrapper) hm

  FA : List (Item Mark)
  FA = map (enters ids (wrapper_of b)) (wrapper_of b).sides ++ (map (passes ids (wrapper_of b)) (wrapper_of b).sides ++ (map_get (wrapper_of b).routes at_route.0 r at_route.1).A)

  FB : List (Item Mark)
  FB = (map_get (wrapper_of b).routes at_route.0 r at_route.1).B

  F-is : F b s e n h ≡ FA ++ taking ids r ∷ FB
  unfolding F FA FB
  F-is = ap (λ (l : List (Item Mark)). map (enters ids (wrapper_of b)) (wrapper_of b).sides ++ (map (passes ids (wrapper_of b)) (wrapper_of b).sides ++ l)) (map_get (wrapper_of b).routes at_route.0 r at_route.1).is
      ∙ shuffle (map (enters ids (wrapper_of b)) (wrapper_of b).sides) (map (passes ids (wrapper_of b)) (wrapper_of b).sides) _ (taking ids r) _
    where
      shuffle : (a c d : List (Item Mark)) (x : Item Mark) (g : List (Item Mark)) → a ++ (c ++ (d ++ x ∷ g)) ≡ (a ++ (c ++ d)) ++ x ∷ g
      shuffle a c d x g = simp append_assoc

  module _ (i : ℕ) (v : List ℕ) (g : get_elem? (shelf_of s m) i ≡ some v) where
    l32 : i < 32
    l32 = omega (arith, get_length (shelf_of s m) i v g, shelf_few b s e m)

    abbrev pub s'' : State
    s'' = took_state i v

    same_shelf : (q : ℕ) → (side s'' q).core.shelf ≡ (side s q).core.shelf
    same_shelf q = by_side_lem b s e n h (took i v) (side s n).left (λ (o u : Side). o.core.shelf ≡ u.core.shelf) refl (λ o. refl) q

    -- of the source's shelf nothing else is taken
    pub gone_here : is_gone s'' m (0 + i) ≡ true
    gone_here = subst (λ (z : ℕ). is_gone s'' m z ≡ true) (omega arith) (gone_now i v l32)

    pub gone_rest : (x : ℕ) → (x ≡ 0 + i → ⊥) → 0 ≤ x → x < 0 + length (shelf_of s m) → is_gone s'' m x ≡ is_gone s m x
    gone_rest x ne a c = gone_else i v m x l32 (omega (arith, c, shelf_few b s e m)) pm.0 (λ q. ne (omega (arith, q.1)))

    pub same_new : new_of b s'' ≡ new_of b s
    unfolding view
    same_new = new_same (view b s e n h) (took i v) refl

    pub same_boxes : (conf_of b s'').boxes ≡ (conf_of b s).boxes
    unfolding view
    same_boxes = (view b s e n h).boxes_next (took i v) (side s n).left refl

    -- the shelf split at the place that is taken
    module _ (on : OnShelf (is_gone s m) (is_gone s'' m) m 0 (shelf_of s m) i v) where
      abbrev pub Xs : List (Item Mark)
      Xs = by_side (shelf_at b s e n h s) Mm.X

      abbrev pub Ys : List (Item Mark)
      Ys = by_side (shelf_at b s e n h s) Mm.Y

      abbrev pub O : List (Item Mark)
      O = SX b s e n h ++ (side_items ids (wrapper_of b) n (table b n) (side s n).core ++ SY b s e n h)

      SH-now : SH b s e n h s ≡ Xs ++ ((on.P ++ shelf_item ids m i v ∷ on.Q) ++ Ys)
      unfolding SH
      SH-now = ap (by_side (shelf_at b s e n h s)) Mm.is ∙ by_app (shelf_at b s e n h s) Mm.X m Mm.Y
          ∙ ap (λ (l : List (Item Mark)). by_side (shelf_at b s e n h s) Mm.X ++ (l ++ by_side (shelf_at b s e n h s) Mm.Y)) (on.is ∙ ap (λ (z : ℕ). on.P ++ shelf_item ids m z v ∷ on.Q) (omega arith))

      others : (q : ℕ) → has_side (wrapper_of b) q ≡ true → (q ≡ m → ⊥) → shelf_at° b s e n h s'' q ≡ shelf_at° b s e n h s q
      others q hq ne = ap (shelf_items forget (is_gone s'' q) q 0) (same_shelf q)
          ∙ shelf_same (is_gone s q) (is_gone s'' q) q 0 (side s q).core.shelf (λ x a c. gone_else i v q x l32 (omega (arith, c, shelf_few b s e q)) (positive q (which b.wrapper q hq)).0 (λ z. ne z.0))

      in_X : (q : ℕ) → has q Mm.X ≡ true → has_side (wrapper_of b) q ≡ true
      in_X q z = ap (has q) Mm.is ∙ has_app q Mm.X (m ∷ Mm.Y) ∙ ap (λ (t : Bool). t || has q (m ∷ Mm.Y)) z

      in_Y : (q : ℕ) → has q Mm.Y ≡ true → has_side (wrapper_of b) q ≡ true
      in_Y q z = ap (has q) Mm.is ∙ has_app q Mm.X (m ∷ Mm.Y) ∙ bool-right (has q Mm.X) (has q (m ∷ Mm.Y)) (bool-right (eqb q m) (has q Mm.Y) z)

      marks_off : (L : List ℕ) → ritems forget (by_side (shelf_at b s e n h s) L) ≡ by_side (shelf_at° b s e n h s) L
      marks_off L = by_marks ids forget (shelf_at b s e n h s) (shelf_at° b s e n h s) (λ q. shelf_marks ids forget (is_gone s q) q 0 (side s q).core.shelf) L

      SH-after : ritems forget (SH b s e n h s'') ≡ ritems forget Xs ++ ((ritems forget on.P ++ ritems forget on.Q) ++ ritems forget Ys)
      SH-after = SH° b s e n h s'' ∙ ap (by_side (shelf_at° b s e n h s'')) Mm.is ∙ by_app (shelf_at° b s e n h s'') Mm.X m Mm.Y
          ∙ ap₂ (λ (x y : List (Item (Unit {0}))). x ++ y) (by_same _ _ Mm.X (λ q z. others q (in_X q z) (Mm.off_X q z)) ∙ sym (marks_off Mm.X))
          (ap₂ (λ (x y : List (Item (Unit {0}))). x ++ y) (ap (shelf_items forget (is_gone s'' m) m 0) (same_shelf m) ∙ sym on.gone_is) (by_same _ _ Mm.Y (λ q z. others q (in_Y q z) (Mm.off_Y q z)) ∙ sym (marks_off Mm.Y)))

      three : (f k l : List (Item Mark)) → ritems forget (f ++ (k ++ l)) ≡ ritems forget f ++ (ritems forget k ++ ritems forget l)
      three f k l = ritems_app forget f (k ++ l) ∙ ap (λ (x : List (Item (Unit {0}))). ritems forget f ++ x) (ritems_app forget k l)

      is_now : (conf_of b s).items ≡ FA ++ taking ids r ∷ ((FB ++ (Xs ++ on.P)) ++ shelf_item ids m i v ∷ (on.Q ++ (Ys ++ O)))
      is_now = items_of b s e n h s ∙ ap₂ (λ (x y : List (Item Mark)). x ++ y) F-is (ap₂ (λ (x y : List (Item Mark)). x ++ y) SH-now (own_now b s e n h)) ∙ shuffle FA (taking ids r) FB Xs on.P (shelf_item ids m i v) on.Q Ys O
        where
          shuffle : (a : List (Item Mark)) (t : Item Mark) (c x p : List (Item Mark)) (u : Item Mark) (q y o : List (Item Mark)) → (a ++ t ∷ c) ++ ((x ++ ((p ++ u ∷ q) ++ y)) ++ o) ≡ a ++ t ∷ ((c ++ (x ++ p)) ++ u ∷ (q ++ (y ++ o)))
          shuffle a t c x p u q y o = simp append_assoc

      left_is : FA ++ taking ids r ∷ ((FB ++ (Xs ++ on.P)) ++ (on.Q ++ (Ys ++ O))) ≡ F b s e n h ++ ((Xs ++ ((on.P ++ on.Q) ++ Ys)) ++ O)
      left_is = shuffle FA (taking ids r) FB Xs on.P on.Q Ys O ∙ ap (λ (x : List (Item Mark)). x ++ ((Xs ++ ((on.P ++ on.Q) ++ Ys)) ++ O)) (sym F-is)
        where
          shuffle : (a : List (Item Mark)) (t : Item Mark) (c x p q y o : List (Item Mark)) → a ++ t ∷ ((c ++ (x ++ p)) ++ (q ++ (y ++ o))) ≡ (a ++ t ∷ c) ++ ((x ++ ((p ++ q) ++ y)) ++ o)
          shuffle a t c x p q y o = simp append_assoc

      rest_is : ritems forget (F b s e n h ++ ((Xs ++ ((on.P ++ on.Q) ++ Ys)) ++ O)) ≡ target (wrapper_of b) n (table b n) (F b s e n h ++ (SH b s e n h s'' ++ SX b s e n h)) (SY b s e n h)
          (side s n).core (side s n).core.lobby (side s n).core.contents.particles
      rest_is = three (F b s e n h) (Xs ++ ((on.P ++ on.Q) ++ Ys)) O
          ∙ ap (λ (x : List (Item (Unit {0}))). ritems forget (F b s e n h) ++ (x ++ ritems forget O))
          (three Xs (on.P ++ on.Q) Ys ∙ ap (λ (x : List (Item (Unit {0}))). ritems forget Xs ++ (x ++ ritems forget Ys)) (ritems_app forget on.P on.Q) ∙ sym SH-after)
          ∙ sym (three (F b s e n h) (SH b s e n h s'') O) ∙ ap (ritems forget) (sym (grouped b s e n h (F b s e n h) (SH b s e n h s'') (SX b s e n h) (side_items ids (wrapper_of b) n (table b n) (side s n).core ++ SY b s e n h)))
          ∙ whole° (wrapper_of b) n (table b n) (F b s e n h ++ (SH b s e n h s'' ++ SX b s e n h)) (SY b s e n h) (side s n).core

      after_is : target (wrapper_of b) n (table b n) (F b s e n h ++ (SH b s e n h s'' ++ SX b s e n h)) (SY b s e n h) (side s n).core (took i v).lobby (took i v).contents.particles ≡ ritems forget (conf_of b s'').items
      after_is = sym (whole° (wrapper_of b) n (table b n) (F b s e n h ++ (SH b s e n h s'' ++ SX b s e n h)) (SY b s e n h) (took i v))
          ∙ ap (ritems forget) (grouped b s e n h (F b s e n h) (SH b s e n h s'') (SX b s e n h) (side_items ids (wrapper_of b) n (table b n) (took i v) ++ SY b s e n h)
          ∙ sym (items_of b s e n h s'' ∙ ap (λ (x : List (Item Mark)). F b s e n h ++ (SH b s e n h s'' ++ x)) (own_split b s e n h (took i v) (side s n).left)))

      -- what is left, with the message for the lobby, is the state after
      pub taken_bag : Bag (item 0 (pout tt 2 (plain (ichild (own_name r.receiver))) (val_of v)) ∷ ritems forget (F b s e n h ++ ((Xs ++ ((on.P ++ on.Q) ++ Ys)) ++ O))) (ritems forget (conf_of b s'').items)
      taken_bag = bag_trans (bag_cons _ (bag_eq rest_is))
          (bag_trans (bag_eq (ap
          (λ (k : ℕ). item 0 (pout tt 2 (plain (ichild (own_name k))) (val_of v)) ∷ target (wrapper_of b) n (table b n) (F b s e n h ++ (SH b s e n h s'' ++ SX b s e n h)) (SY b s e n h)
          (side s n).core (side s n).core.lobby (side s n).core.contents.particles) at_route.2))
          (bag_trans (add_msg (wrapper_of b) n (table b n) (F b s e n h ++ (SH b s e n h s'' ++ SX b s e n h)) (SY b s e n h) (side s n).core (side s n).core.lobby
          (record { status = down; chan = 2; val = v }) (side s n).core.contents.particles) (bag_eq after_is)))

      moves : Goes b s s'' tau (joint (shelf m i) (taker m r.receiver))
      moves = goes_silent b s e s'' same_new same_boxes
          (moves_to
          (go_on (All b s) (conf_of b s).boxes (wf_all b s e) (rooted_all b s e) [] mid_name (ichild (own_name r.receiver)) (val_of v) mid_name (ichild (own_name m)) (root_all b s e)
          FA (FB ++ (Xs ++ on.P)) (on.Q ++ (Ys ++ O)) is_now (items_each b s e ids))
          (bag_trans (bag_cons _ (bag_eq (ap (ritems forget) left_is))) taken_bag))

    pub took_goes : has_taken (side s n).core m i ≡ false → Goes b s s'' tau (joint (shelf m i) (taker m r.receiver))
    took_goes nt = moves (on_shelf (is_gone s m) (is_gone s'' m) m 0 (shelf_of s m) i v g (subst (λ (z : ℕ). is_gone s m z ≡ false) (omega arith) (still i nt)) gone_here gone_rest)
