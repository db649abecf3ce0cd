-- A side's step by its kind: a law for each way that the code goes.
use mathlib.Core.Path.{◌≡◌, refl, sym, ap, ap₂, subst, ◌∙◌}
use mathlib.Core.Bool.{Bool, true, false}
use mathlib.Core.List.{List, [], ◌∷◌}
use Prim.Native.Nat.{ℕ, ◌+◌, ◌≤◌}
use native.Mathlib.Omega.{arith}
use borrow.Author.Tests.{eq-eqb, ne_eqb, eqb-true, eqb-false}
use lib.Dec.{eqb}
use lib.ListN.{length, take}
use lib.Seq.{take_all}
use Rattle.model.specs.Basics.{◌&◌, choose, Res, refuse, done, bind, need}
use Rattle.model.specs.Side.{Core}
use Rattle.model.specs.Wrapper.{Route, shelves}
use Rattle.model.specs.Load.{Setting}
use Rattle.model.specs.Step.{Moved, settled, go_down, up, pass, leave, descend, meet, enter, takes, inner, route_to, local}
use Rattle.std.specs.Prelude.{Some, None}
use Rattle.wrappers.specs.Routes.{source_by, source_for}
use Rattle.sides.specs.declared.Rest.{Rest}
use Rattle.steps.specs.declared.RestStep.{RestStep}
use Rattle.steps.specs.StepIs.{Sane, StepIs}
use Rattle.steps.specs.declared.Said.TheVariants as said
use Rattle.steps.specs.declared.Offer.{Offer}
use Rattle.steps.specs.declared.Offer.TheVariants.{Refused}
use Rattle.steps.specs.Asked.{Says, number_of, with_shelf}
use Rattle.steps.proofs.Held.{sane, offer_refused}
use Rattle.steps.proofs.Settling.{no_left, no_right}
use Rattle.steps.proofs.Settings.{up_with}
use Rattle.meeting.specs.Meeting.{with_table}
use Rattle.meeting.proofs.Settings.{meet_with}
use Rattle.dispatch.specs.Stepping.{asked, OnePlaceKind, one_place, two_places, OwnReady}

-- a side that a step may act on
pub own_sane : (c : Setting) (l : List ℕ) (o : Rest) → OwnReady c l o → Sane l o
own_sane c l o h = sane c h.counts l o h.long h.arrays h.formed

-- a step by what it equals
pub step_by : {x y : Res Moved} {l : List ℕ} {o : Rest} {m : List ℕ} {r : RestStep} → x ≡ y → StepIs y l o m r → StepIs x l o m r
step_by {x} {y} {l} {o} {m} {r} e h = subst (λ (z : Res Moved). StepIs z l o m r) (sym e) h

-- where a test refuses with 10
pub ten_is : {x : Res Moved} {l : List ℕ} {o : Rest} {a : Offer} {n : ℕ} {r : RestStep} → x ≡ refuse 10 → n ≡ 10 → a ≡ Refused n → Says (said.Refused (number_of a)) o r → StepIs x l o l r
ten_is {x} {l} e is q says = offer_refused l (e ∙ ap refuse (sym is)) q says

-- a number by its bounds
beyond : (n k : ℕ) → n ≤ k → (k ≡ n → ⊥) → n + 1 ≤ k
beyond n k h z = omega (arith, z)

meets : (n k : ℕ) → n ≤ k → k ≤ n → k ≡ n
meets n k h g = omega arith

-- KINDS 2, 3, 6, 7
module _ (c : Setting) (cs : List ℕ) (s : Core) (k i : ℕ) where
  pub one_down : k ≡ 2 → settled (one_place c cs s k i) ≡ settled (go_down s i)
  unfolding one_place choose
  one_down e = ap (λ (x : ℕ). settled (one_place c cs s x i)) e

  pub one_up : k ≡ 3 → settled (one_place c cs s k i) ≡ settled (up c s i)
  unfolding one_place choose
  one_up e = ap (λ (x : ℕ). settled (one_place c cs s x i)) e

  pub one_pass : k ≡ 6 → settled (one_place c cs s k i) ≡ settled (pass cs s i)
  unfolding one_place choose
  one_pass e = ap (λ (x : ℕ). settled (one_place c cs s x i)) e

  one_seven : k ≡ 7 → settled (one_place c cs s k i) ≡ settled (leave s i)
  unfolding one_place choose
  one_seven e = ap (λ (x : ℕ). settled (one_place c cs s x i)) e

  pub one_leave : OnePlaceKind k → (k ≡ 2 → ⊥) → (k ≡ 3 → ⊥) → (k ≡ 6 → ⊥) → settled (one_place c cs s k i) ≡ settled (leave s i)
  one_leave h a b d =
      let five = beyond 4 k (beyond 3 k (beyond 2 k h.first a) b) h.not_4 in
      one_seven (meets 7 k (beyond 6 k (beyond 5 k five h.not_5) d) h.last)

  one_none : (k ≡ 2 → ⊥) → (k ≡ 3 → ⊥) → (k ≡ 6 → ⊥) → (k ≡ 7 → ⊥) → settled (one_place c cs s k i) ≡ refuse 10
  unfolding one_place choose settled bind
  one_none a b d e = rw (ne_eqb k 2 a, ne_eqb k 3 b, ne_eqb k 6 d, ne_eqb k 7 e)

-- where the side has a shelf or none
one_with : (c : Setting) (cs : List ℕ) (s : Core) (k i : ℕ) (t : Bool) → shelves c.wrapper c.side ≡ t → one_place c cs s k i ≡ one_place (with_shelf t) cs s k i
unfolding one_place
one_with c cs s k i t e = rw (up_with c t e s i)

-- KINDS 2 TO 7
module _ (c : Setting) (s : Core) (k i j : ℕ) where
  pub two_descend : k ≡ 4 → settled (two_places c s k i j) ≡ settled (descend s i j)
  unfolding two_places choose
  two_descend e = ap (λ (x : ℕ). settled (two_places c s x i j)) e

  two_meets : k ≡ 5 → settled (two_places c s k i j) ≡ settled (meet c s i j)
  unfolding two_places choose
  two_meets e = ap (λ (x : ℕ). settled (two_places c s x i j)) e

  pub two_meet : k ≡ 5 → settled (two_places c s k i j) ≡ settled (meet (with_table c.side c.table) s i j)
  two_meet e = two_meets e ∙ ap settled (meet_with c s i j)

  two_ones : (k ≡ 4 → ⊥) → (k ≡ 5 → ⊥) → j ≡ 0 → settled (two_places c s k i j) ≡ settled (one_place c c.wrapper.copies s k i)
  unfolding two_places choose need
  two_ones a b e = rw (ne_eqb k 4 a, ne_eqb k 5 b, eq-eqb j 0 e)

  pub two_one : (k ≡ 4 → ⊥) → (k ≡ 5 → ⊥) → j ≡ 0 → (t : Bool) → t ≡ shelves c.wrapper c.side → (cs : List ℕ) → c.wrapper.copies ≡ cs → (p : ℕ) → p ≡ i →
      settled (two_places c s k i j) ≡ settled (one_place (with_shelf t) cs s k p)
  two_one a b e t h cs g p q =
      two_ones a b e ∙ ap settled (one_with c c.wrapper.copies s k i t (sym h)) ∙ ap₂ (λ (x : List ℕ) (y : ℕ). settled (one_place (with_shelf t) x s k y)) g (sym q)

  two_unused : (k ≡ 4 → ⊥) → (k ≡ 5 → ⊥) → (j ≡ 0 → ⊥) → settled (two_places c s k i j) ≡ refuse 10
  unfolding two_places choose need settled bind
  two_unused a b e = rw (ne_eqb k 4 a, ne_eqb k 5 b, ne_eqb j 0 e)

  pub two_bad : (k ≡ 4 → ⊥) → (k ≡ 5 → ⊥) → ((2 ≤ k) × (k ≤ 7) × (j ≡ 0) → ⊥) → settled (two_places c s k i j) ≡ refuse 10
  two_bad a b h = go (eqb j 0) refl
    where
      go : (z : Bool) → eqb j 0 ≡ z → settled (two_places c s k i j) ≡ refuse 10
      go true e =
          let zero-j = eqb-true j 0 e in
          let off : (x : ℕ) → 2 ≤ x → x ≤ 7 → k ≡ x → ⊥ = λ x p q z. h (subst (λ (y : ℕ). 2 ≤ y) (sym z) p, subst (λ (y : ℕ). y ≤ 7) (sym z) q, zero-j) in
          two_ones a b zero-j ∙
          one_none c c.wrapper.copies s k i (off 2 (omega arith) (omega arith)) (off 3 (omega arith) (omega arith)) (off 6 (omega arith) (omega arith)) (off 7 (omega arith) (omega arith))
      go false e = two_unused a b (eqb-false j 0 e)

-- where there is no route, 10
route_ten : (rs : List Route) (n j x : ℕ) → route_to rs n j ≡ refuse x → x ≡ 10
unfolding route_to choose
route_ten [] n j x e = let y : 10 ≡ x = cc in sym y
route_ten (r ∷ rs) n j x e = go (eqb r.receiver n & eqb r.j j) (route_ten rs n j x) e
  where
    go : (b : Bool) → (route_to rs n j ≡ refuse x → x ≡ 10) → choose b (done r) (route_to rs n j) ≡ refuse x → x ≡ 10
    go true f e = let z : ◌≡◌ {A = ℕ} 0 1 = cc in absurd (omega arith)
    go false f e = f e

-- KINDS 1 TO 8
module _ (c : Setting) (known : ℕ → Bool) (sh : ℕ → List (List ℕ)) (s : Core) (n i j : ℕ) (ws : List ℕ) where
  -- by the kind that it is
  pub kind_is : (k x : ℕ) → k ≡ x → settled (local c known sh s (asked k n i j ws)) ≡ settled (local c known sh s (asked x n i j ws))
  kind_is k x e = ap (λ (y : ℕ). settled (local c known sh s (asked y n i j ws))) e

  enter_all : (i ≡ 0) × (j ≡ 0) → settled (local c known sh s (asked 1 n i j ws)) ≡ settled (enter c.wrapper.copies known s ws)
  unfolding local choose need ◌&◌
  enter_all e = rw (eq-eqb i 0 e.0, eq-eqb j 0 e.1)

  -- the first m words, which are all
  pub enter_on : (i ≡ 0) × (j ≡ 0) → (cs : List ℕ) → c.wrapper.copies ≡ cs → (m : ℕ) → m ≡ length ws → settled (local c known sh s (asked 1 n i j ws)) ≡ settled (enter cs known s (take m ws))
  enter_on e cs g m same = enter_all e ∙ ap₂ (λ (x v : List ℕ). settled (enter x known s v)) g (sym (take_all m ws (omega (arith, same))))

  pub enter_off : ((i ≡ 0) × (j ≡ 0) → ⊥) → settled (local c known sh s (asked 1 n i j ws)) ≡ refuse 10
  unfolding local choose need settled bind
  enter_off e = rw (unused (eqb i 0) refl)
    where
      second : i ≡ 0 → (y : Bool) → eqb j 0 ≡ y → eqb j 0 ≡ false
      second z true q = absurd (e (z, eqb-true j 0 q))
      second z false q = q

      unused : (x : Bool) → eqb i 0 ≡ x → eqb i 0 & eqb j 0 ≡ false
      unused true q = no_right _ _ (second (eqb-true i 0 q) (eqb j 0) refl)
      unused false q = no_left _ _ q

  module _ (k : ℕ) (a : k ≡ 1 → ⊥) (b : k ≡ 8 → ⊥) where
    own_twos : length ws ≡ 0 → settled (local c known sh s (asked k n i j ws)) ≡ settled (two_places c s k i j)
    unfolding local inner two_places one_place choose need
    own_twos e = rw (ne_eqb k 1 a, ne_eqb k 8 b, eq-eqb (length ws) 0 e)

    pub own_two : length ws ≡ 0 → (p : ℕ) → p ≡ i → settled (local c known sh s (asked k n i j ws)) ≡ settled (two_places c s k p j)
    own_two e p q = own_twos e ∙ ap (λ (y : ℕ). settled (two_places c s k y j)) (sym q)

    pub own_words : (length ws ≡ 0 → ⊥) → settled (local c known sh s (asked k n i j ws)) ≡ refuse 10
    unfolding local inner choose need settled bind
    own_words e = rw (ne_eqb k 1 a, ne_eqb k 8 b, ne_eqb (length ws) 0 e)

  -- kind 8, by its route
  pub take_words : (length ws ≡ 0 → ⊥) → settled (local c known sh s (asked 8 n i j ws)) ≡ refuse 10
  unfolding local choose need settled bind
  take_words e = rw (ne_eqb (length ws) 0 e)

  take_by : length ws ≡ 0 → (q : Res Route) → route_to c.wrapper.routes c.side j ≡ q →
      settled (local c known sh s (asked 8 n i j ws)) ≡ settled (bind q (λ r. takes r.source (sh r.source) s i))
  unfolding local choose need
  take_by e q p = rw (eq-eqb (length ws) 0 e, p)

  module _ (e : length ws ≡ 0) where
    pub take_none : None ≡ source_for c.wrapper c.side j → settled (local c known sh s (asked 8 n i j ws)) ≡ refuse 10
    unfolding settled bind
    take_none p = go (route_to c.wrapper.routes c.side j) refl p
      where
        go : (q : Res Route) → route_to c.wrapper.routes c.side j ≡ q → None ≡ source_by q → settled (local c known sh s (asked 8 n i j ws)) ≡ refuse 10
        go (refuse x) z w = take_by e (refuse x) z ∙ ap refuse (route_ten c.wrapper.routes c.side j x z)
        go (done r) z w = let y : ◌≡◌ {A = ℕ} 0 1 = cc in absurd (omega arith)

    pub take_from : (m : ℕ) → Some m ≡ source_for c.wrapper c.side j → settled (local c known sh s (asked 8 n i j ws)) ≡ settled (takes m (sh m) s i)
    unfolding bind
    take_from m p = go (route_to c.wrapper.routes c.side j) refl p
      where
        go : (q : Res Route) → route_to c.wrapper.routes c.side j ≡ q → Some m ≡ source_by q → settled (local c known sh s (asked 8 n i j ws)) ≡ settled (takes m (sh m) s i)
        go (refuse x) z w = let y : ◌≡◌ {A = ℕ} 0 1 = cc in absurd (omega arith)
        go (done r) z w = let y : r.source ≡ m = cc in take_by e (done r) z ∙ ap (λ (t : ℕ). settled (takes t (sh t) s i)) y
