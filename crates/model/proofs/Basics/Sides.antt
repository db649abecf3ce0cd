-- Sides and wrappers by their number.
use mathlib.Core.Path.{◌≡◌, refl, sym, ap, ◌∙◌, subst}
use mathlib.Core.Bool.{Bool, true, false, cond, false≢true}
use mathlib.Core.List.{List, [], ◌∷◌}
use Prim.Native.Nat.{ℕ, zero, suc, ◌≤◌}
use native.Mathlib.Omega.{arith}
use borrow.Author.Tests.{eqb-true, eq-eqb}
use lib.Dec.{eqb}
use lib.ListN.{length, get_or, set, length-set}
use lib.Seq.{get_or-set_same, get_or-set_other}
use Rattle.model.specs.Side.{State, Side, no_side, side, put_side}
use Rattle.model.specs.Wrapper.{Wrapper, filter, pipeline, logging, no_wrapper, described}

-- what holds of each wrapper holds of every number's
pub described_by : (P : Wrapper → Type 0) → P filter → P pipeline → P logging → P no_wrapper → (w : ℕ) → P (described w)
described_by P p1 p2 p3 p0 w = go (eqb w 1) (eqb w 2) (eqb w 3)
  where
    go : (t u v : Bool) → P (cond t filter (cond u pipeline (cond v logging no_wrapper)))
    go true u v = p1
    go false true v = p2
    go false false true = p3
    go false false false = p0

pub put_same : (s : State) (n : ℕ) (o : Side) → 1 ≤ n → n ≤ length s.sides → side (put_side s n o) n ≡ o
put_same s zero o a l = absurd (omega arith)
put_same s (suc n) o a l = get_or-set_same s.sides n o no_side l

pub put_other : (s : State) (n m : ℕ) (o : Side) → (m ≡ n → ⊥) → side (put_side s n o) m ≡ side s m
put_other s zero m o h = refl
put_other s (suc n) zero o h = refl
put_other s (suc n) (suc m) o h = get_or-set_other s.sides n m o no_side (λ q. h (omega (arith, q)))

set_agree : {A : Type 0} (l m : List A) (i j : ℕ) (a d : A) → length l ≡ length m → get_or l j d ≡ get_or m j d → get_or (set l i a) j d ≡ get_or (set m i a) j d
set_agree [] [] i j a d n e = e
set_agree [] (y ∷ m) i j a d n e = absurd (omega (arith, n))
set_agree (x ∷ l) [] i j a d n e = absurd (omega (arith, n))
set_agree (x ∷ l) (y ∷ m) zero zero a d n e = refl
set_agree (x ∷ l) (y ∷ m) zero (suc j) a d n e = e
set_agree (x ∷ l) (y ∷ m) (suc i) zero a d n e = e
set_agree (x ∷ l) (y ∷ m) (suc i) (suc j) a d n e = set_agree l m i j a d (omega (arith, n)) e

pub put_agree : (s s'' : State) (n m : ℕ) (o : Side) → length s.sides ≡ length s''.sides → side s m ≡ side s'' m → side (put_side s n o) m ≡ side (put_side s'' n o) m
put_agree s s'' zero m o h e = e
put_agree s s'' (suc n) zero o h e = e
put_agree s s'' (suc n) (suc m) o h e = set_agree s.sides s''.sides n m o no_side h e

set_self : {A : Type 0} (l : List A) (i : ℕ) (d : A) → set l i (get_or l i d) ≡ l
set_self [] i d = refl
set_self (x ∷ l) zero d = refl
set_self {A} (x ∷ l) (suc i) d = ap (λ (m : List A). x ∷ m) (set_self l i d)

pub put_self : (s : State) (n : ℕ) → put_side s n (side s n) ≡ s
put_self s zero = refl
put_self s (suc n) = ap (λ (l : List Side). record { sides = l }) (set_self s.sides n no_side)

pub put_size : (s : State) (n : ℕ) (o : Side) → length (put_side s n o).sides ≡ length s.sides
put_size s zero o = refl
put_size s (suc n) o = length-set s.sides n o

-- a fact of each side after one is put anew
pub put_each : (s : State) (n : ℕ) (o : Side) → 1 ≤ n → n ≤ length s.sides → (P : ℕ → Side → Type 0) → P n o → ((m : ℕ) → (m ≡ n → ⊥) → P m (side s m)) → (m : ℕ) → P m (side (put_side s n o) m)
put_each s n o a l P p q m = go (eqb m n) refl
  where
    go : (t : Bool) → eqb m n ≡ t → P m (side (put_side s n o) m)
    go true e = let z : n ≡ m = sym (eqb-true m n e) in subst (λ (k : ℕ). P k (side (put_side s n o) k)) z (subst (P n) (sym (put_same s n o a l)) p)
    go false e = subst (P m) (sym (put_other s n m o (λ z. false≢true (sym e ∙ eq-eqb m n z)))) (q m (λ z. false≢true (sym e ∙ eq-eqb m n z)))
