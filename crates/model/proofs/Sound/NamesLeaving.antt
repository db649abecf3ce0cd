-- The names that leave: marked, and new no more.
use mathlib.Core.Path.{◌≡◌, refl, sym, ap, ap₂, ◌∙◌, subst}
use mathlib.Core.Bool.{Bool, true, false, not, ◌&&◌, ◌||◌, cond, false≢true}
use mathlib.Core.List.{List, [], ◌∷◌, ◌++◌, map}
use mathlib.Core.Logic.{⊎_elim}
use Prim.Native.Nat.{ℕ, ◌<◌, ◌≤◌}
use native.Mathlib.Omega.{arith}
use borrow.Author.Tests.{leb-true, eqb-true, eq-eqb, ne_eqb, eqb-false}
use lib.Dec.{leb, eqb, T}
use lib.ListN.{length, get_or, set}
use lib.Seq.{get_or-set_same, get_or-set_other}
use Rattle.calculus.specs.Transitions.{mem, names}
use Rattle.model.specs.Basics.{◌&◌, done, every}
use Rattle.model.specs.Values.{is_minted, is_name, items}
use Rattle.model.specs.Side.{State, side}
use Rattle.model.specs.Load.{Composition, wrapper_of}
use Rattle.model.specs.Step.{known, marked, mark_of, mark1, mark_all}
use Rattle.model.specs.Process.{keep, minted_of, own_name, new_of, val_of}
use Rattle.calculus.proofs.Restriction.{minus}
use Rattle.calculus.proofs.FreeNames.{or_cases, or_left, or_right}
use Rattle.model.proofs.Basics.Tests.{fst, snd, alt}
use Rattle.model.proofs.Processes.KnownNames.{is_true, out_of, own_low, minted_high, minted_is}
use Rattle.model.proofs.Basics.Names.{minted_range, outside_range}
use Rattle.model.proofs.Independent.Independence.{minted_place}
use Rattle.model.proofs.Processes.ValueWords.{worded, val_written, names_words}
use Rattle.model.proofs.Formed.Invariant.{mark1_size}

-- a minted name's place is its own
place_own : (x w : ℕ) → is_minted x ≡ true → is_minted w ≡ true → mark_of x ≡ mark_of w → x ≡ w
place_own x w p q e = ⊎_elim
    (λ a. ⊎_elim (λ b. low x w (range 65536 65791 x a) (range 65536 65791 w b) e) (λ b. absurd (apart x w (range 65536 65791 x a) (range 131072 131327 w b) e)) (alt _ _ q))
    (λ a. ⊎_elim (λ b. absurd (apart w x (range 65536 65791 w b) (range 131072 131327 x a) (sym e))) (λ b. high x w (range 131072 131327 x a) (range 131072 131327 w b) e) (alt _ _ q))
    (alt _ _ p)
  where
    range : (l h x : ℕ) → leb l x & leb x h ≡ true → (l ≤ x) × (x ≤ h)
    range l h x a = (leb-true l x (fst _ _ a), leb-true x h (snd _ _ a))

    low : (x w : ℕ) → (65536 ≤ x) × (x ≤ 65791) → (65536 ≤ w) × (w ≤ 65791) → mark_of x ≡ mark_of w → x ≡ w
    low x w a b e =
        let a0 = a.0 in
        let a1 = a.1 in
        let b0 = b.0 in
        let b1 = b.1 in
        omega arith

    high : (x w : ℕ) → (131072 ≤ x) × (x ≤ 131327) → (131072 ≤ w) × (w ≤ 131327) → mark_of x ≡ mark_of w → x ≡ w
    high x w a b e =
        let a0 = a.0 in
        let a1 = a.1 in
        let b0 = b.0 in
        let b1 = b.1 in
        omega arith

    apart : (x w : ℕ) → (65536 ≤ x) × (x ≤ 65791) → (131072 ≤ w) × (w ≤ 131327) → mark_of x ≡ mark_of w → ⊥
    apart x w a b e =
        let a0 = a.0 in
        let a1 = a.1 in
        let b0 = b.0 in
        let b1 = b.1 in
        omega arith

marked_one : (l : List Bool) (w x : ℕ) → length l ≡ 512 → is_minted x ≡ true → marked (mark1 l w) x ≡ marked l x || eqb x w
unfolding mark1
marked_one l w x n p = go (is_minted w) refl (eqb x w) refl
  where
    or_true : (a : Bool) → a || true ≡ true
    or_true true = refl
    or_true false = refl

    or_false : (a : Bool) → a || false ≡ a
    or_false true = refl
    or_false false = refl

    go : (b : Bool) → is_minted w ≡ b → (c : Bool) → eqb x w ≡ c → marked (cond b (set l (mark_of w) true) l) x ≡ marked l x || c
    go true q true r = let e = eqb-true x w r in
        subst (λ (y : ℕ). get_or (set l (mark_of y) true) (mark_of x) false ≡ get_or l (mark_of x) false || true) e (get_or-set_same l (mark_of x) true false (omega (arith, minted_place x p)) ∙ sym (or_true (marked l x)))
    go true q false r = get_or-set_other l (mark_of w) (mark_of x) true false (λ z. eqb-false x w r (place_own x w p q z)) ∙ sym (or_false (marked l x))
    go false q true r = absurd (false≢true (sym q ∙ subst (λ (y : ℕ). is_minted y ≡ true) (eqb-true x w r) p))
    go false q false r = sym (or_false (marked l x))

pub marked_all : (v : List ℕ) (l : List Bool) (x : ℕ) → length l ≡ 512 → is_minted x ≡ true → marked (mark_all l v) x ≡ marked l x || mem x v
marked_all [] l x n p = sym (or_false (marked l x))
  where
    or_false : (a : Bool) → a || false ≡ a
    or_false true = refl
    or_false false = refl
marked_all (w ∷ v) l x n p = marked_all v (mark1 l w) x (mark1_size l w ∙ n) p ∙ ap (λ (a : Bool). a || mem x v) (marked_one l w x n p) ∙ assoc (marked l x) (eqb x w) (mem x v)
  where
    assoc : (a b c : Bool) → (a || b) || c ≡ a || (b || c)
    assoc true b c = refl
    assoc false b c = refl

minus_app : (X Y L : List ℕ) → minus (X ++ Y) L ≡ minus X L ++ minus Y L
minus_app [] Y L = refl
minus_app (x ∷ X) Y L = go (mem x L) (minus_app X Y L)
  where
    go : (b : Bool) → minus (X ++ Y) L ≡ minus X L ++ minus Y L → cond b (minus (X ++ Y) L) (x ∷ minus (X ++ Y) L) ≡ cond b (minus X L) (x ∷ minus X L) ++ minus Y L
    go true e = e
    go false e = ap (λ (l : List ℕ). x ∷ l) e

minus_none : (X L : List ℕ) → ((x : ℕ) → T (mem x X) → mem x L ≡ false) → minus X L ≡ X
minus_none [] L h = refl
minus_none (x ∷ X) L h = ap (λ (b : Bool). cond b (minus X L) (x ∷ minus X L)) (h x (or_left (eqb x x) (mem x X) (is_true _ (eq-eqb x x refl)))) ∙ ap (λ (l : List ℕ). x ∷ l) (minus_none X L (λ y m. h y (or_right (eqb y x) (mem y X) m)))

keep_minus : (f g : ℕ → Bool) (M L : List ℕ) → ((x : ℕ) → T (mem x M) → g x ≡ f x && not (mem x L)) → keep g M ≡ minus (keep f M) L
keep_minus f g [] L h = refl
keep_minus f g (x ∷ M) L h = go (f x) (mem x L) refl (h x (or_left (eqb x x) (mem x M) (is_true _ (eq-eqb x x refl)))) (keep_minus f g M L (λ y m. h y (or_right (eqb y x) (mem y M) m)))
  where
    go : (a b : Bool) → mem x L ≡ b → g x ≡ a && not b → keep g M ≡ minus (keep f M) L → cond (g x) (x ∷ keep g M) (keep g M) ≡ minus (cond a (x ∷ keep f M) (keep f M)) L
    go true true q e r = ap (λ (t : Bool). cond t (x ∷ keep g M) (keep g M)) e ∙ r ∙ sym (ap (λ (t : Bool). cond t (minus (keep f M) L) (x ∷ minus (keep f M) L)) q)
    go true false q e r = ap (λ (t : Bool). cond t (x ∷ keep g M) (keep g M)) e ∙ ap (λ (l : List ℕ). x ∷ l) r ∙ sym (ap (λ (t : Bool). cond t (minus (keep f M) L) (x ∷ minus (keep f M) L)) q)
    go false b q e r = ap (λ (t : Bool). cond t (x ∷ keep g M) (keep g M)) e ∙ r

-- a name of the wrapper's own stands in no value
pub no_word : (x : ℕ) → 64 ≤ x → x < 65536 → worded x ≡ true → ⊥
no_word x l u h = ⊎_elim
    (λ p. ⊎_elim (λ q. let z = leb-true x 63 q in omega arith) (λ q. ⊎_elim (λ r. omega (arith, (minted_range x r).0)) (λ r. omega (arith, (outside_range x r).0)) (alt _ _ q)) (alt _ _ p))
    (λ p. let z = leb-true 4000000 x (fst _ _ p) in omega arith) (alt _ _ h)

-- the new names after a value has left
pub new_left : (b : Composition) (s s' : State) (y : ℕ) (v : List ℕ) → ((n : ℕ) → (side s n).core.contents.minted ≤ 256) → y < 81 → items is_name 11 v 1 ≡ done [] → every worded v ≡ true
    → minted_of s' ≡ minted_of s → ((x : ℕ) → is_minted x ≡ true → known s' x ≡ known s x || mem x v) → new_of b s' ≡ minus (new_of b s) (y ∷ names (val_of v))
unfolding new_of
new_left b s s' y v few ly iv hv em hk =
    sym (minus_app (map own_name (wrapper_of b).sides) (keep (λ x. not (known s x)) (minted_of s)) (y ∷ names (val_of v))
    ∙ ap₂ (λ (p q : List ℕ). p ++ q) (minus_none (map own_name (wrapper_of b).sides) (y ∷ names (val_of v)) own_out) (sym kept))
  where
    small : (x : ℕ) → x < 4000000 → mem x (names (val_of v)) ≡ mem x v
    small x l = names_words x l (val_of v) ∙ ap (mem x) (val_written v iv)

    own_out : (x : ℕ) → T (mem x (map own_name (wrapper_of b).sides)) → mem x (y ∷ names (val_of v)) ≡ false
    own_out x m = let o = own_low b s x m in
        out_of x (y ∷ names (val_of v))
        (λ t. ⊎_elim (λ a. let q = eqb-true x y (T_true (eqb x y) a) in omega (arith, o.0)) (λ a. no_own v hv (subst (λ (c : Bool). T c) (small x (omega (arith, o.1))) a)) (or_cases (eqb x y) (mem x (names (val_of v))) t))
      where
        T_true : (c : Bool) → T c → c ≡ true
        T_true true h = refl
        T_true false h = absurd h

        no_own : (v : List ℕ) → every worded v ≡ true → T (mem x v) → ⊥
        no_own [] h t = t
        no_own (w ∷ v) h t = ⊎_elim
            (λ a. no_word x (omega (arith, (own_low b s x m).0)) (omega (arith, (own_low b s x m).1)) (subst (λ (z : ℕ). worded z ≡ true) (sym (eqb-true x w (T_true (eqb x w) a))) (fst _ _ h)))
            (λ a. no_own v (snd _ _ h) a) (or_cases (eqb x w) (mem x v) t)

    kept : keep (λ x. not (known s' x)) (minted_of s') ≡ minus (keep (λ x. not (known s x)) (minted_of s)) (y ∷ names (val_of v))
    kept = ap (keep (λ x. not (known s' x))) em ∙ keep_minus (λ x. not (known s x)) (λ x. not (known s' x)) (minted_of s) (y ∷ names (val_of v))
        (λ x m. ap not (hk x (minted_is s few x m)) ∙ nor (known s x) (mem x v)
        ∙ ap (λ (c : Bool). not (known s x) && not c) (sym (ap (λ (c : Bool). c || mem x (names (val_of v))) (ne_eqb x y (λ q. let h = minted_high b s x m in omega arith)) ∙ small x (high x m))))
      where
        nor : (a c : Bool) → not (a || c) ≡ not a && not c
        nor true c = refl
        nor false c = refl

        high : (x : ℕ) → T (mem x (minted_of s)) → x < 4000000
        high x m = omega (arith, (minted_range x (minted_is s few x m)).1)
