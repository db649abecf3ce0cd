-- Laws of a pattern's names: how many there are, and that none stands twice.
use mathlib.Core.Path.{◌≡◌, refl, sym, ap, ap₂, ◌∙◌}
use mathlib.Core.Bool.{Bool, true, false, not, cond, ◌&&◌, ◌||◌, false≢true}
use mathlib.Core.List.{List, [], ◌∷◌, ◌++◌, append-nil}
use Prim.Native.Nat.{ℕ, zero, suc, ◌+◌, ◌<◌, ◌≤◌}
use native.Mathlib.Omega.{arith}
use native.Mathlib.Numerals.{add-one}
use borrow.Author.Tests.{le-leb, lt-leb, eq-eqb, ne_eqb, eqb-true, eqb-false, leb-false}
use lib.Dec.{eqb}
use lib.ListN.{length, get_or, take, drop, take-append-drop}
use lib.Seq.{take-suc, take_all}
use Rattle.std.specs.List.{filter, list_any}
use Rattle.model.specs.Basics.{has}
use Rattle.model.specs.Values.{binders, distinct, is_public}
use Rattle.model.proofs.Basics.Tests.{and_left, and_right, and_intro}

pub binders_filter : (l : List ℕ) → binders l ≡ filter is_public l
binders_filter [] = refl
binders_filter (w ∷ l) = rw (binders_filter l)

pub binders_append : (a b : List ℕ) → binders (a ++ b) ≡ binders a ++ binders b
binders_append [] b = refl
binders_append (w ∷ a) b = go (is_public w) (binders_append a b)
  where
    go : (t : Bool) → binders (a ++ b) ≡ binders a ++ binders b → cond t (w ∷ binders (a ++ b)) (binders (a ++ b)) ≡ cond t (w ∷ binders a) (binders a) ++ binders b
    go true e = ap (λ (x : List ℕ). w ∷ x) e
    go false e = e

module _ (p : List ℕ) (i : ℕ) (h : i < length p) where
  next : binders (take (i + 1) p) ≡ binders (take i p) ++ binders (get_or p i 0 ∷ [])
  next = rw (add-one, take-suc p i 0 h, binders_append)

  pub next_name : get_or p i 0 ≤ 63 → binders (take (i + 1) p) ≡ binders (take i p) ++ (get_or p i 0 ∷ [])
  next_name l = next ∙ rw (le-leb (get_or p i 0) 63 l)

  pub next_other : 63 < get_or p i 0 → binders (take (i + 1) p) ≡ binders (take i p)
  next_other l = next ∙ rw (lt-leb (get_or p i 0) 63 l) (append-nil _)

pub binders_front : (p : List ℕ) (i : ℕ) → length (binders (take i p)) ≤ length (binders p)
binders_front p zero = omega arith
binders_front [] (suc i) = omega arith
binders_front (w ∷ p) (suc i) = go (is_public w) (binders_front p i)
  where
    go : (t : Bool) → length (binders (take i p)) ≤ length (binders p) → length (cond t (w ∷ binders (take i p)) (binders (take i p))) ≤ length (cond t (w ∷ binders p) (binders p))
    go true e = omega arith
    go false e = e

-- a number among others, and among others with one more
or_assoc : (a b c : Bool) → a || (b || c) ≡ (a || b) || c
or_assoc true b c = refl
or_assoc false b c = refl

has_append : (m : ℕ) (l k : List ℕ) → has m (l ++ k) ≡ has m l || has m k
has_append m [] k = refl
has_append m (x ∷ l) k = ap (λ (b : Bool). eqb m x || b) (has_append m l k) ∙ or_assoc (eqb m x) (has m l) (has m k)

or_none : (a : Bool) → a || false ≡ a
or_none true = refl
or_none false = refl

has_snoc : (m : ℕ) (l : List ℕ) (n : ℕ) → has m (l ++ (n ∷ [])) ≡ has m l || eqb m n
has_snoc m l n = has_append m l (n ∷ []) ∙ ap (λ (b : Bool). has m l || b) (or_none (eqb m n))

-- a name is among the names where it is among the words
has_name : (w : ℕ) (l : List ℕ) → w ≤ 63 → has w (binders l) ≡ has w l
has_name w [] h = refl
has_name w (x ∷ l) h = go (is_public x) refl (has_name w l h)
  where
    go : (t : Bool) → is_public x ≡ t → has w (binders l) ≡ has w l → has w (cond t (x ∷ binders l) (binders l)) ≡ eqb w x || has w l
    go true p e = ap (λ (b : Bool). eqb w x || b) e
    go false p e = let n = leb-false x 63 p in e ∙ sym (ap (λ (b : Bool). b || has w l) (ne_eqb w x (λ q. omega arith)))

eqb_sym : (a b : ℕ) → eqb a b ≡ eqb b a
eqb_sym a b = go (eqb b a) refl
  where
    go : (t : Bool) → eqb b a ≡ t → eqb a b ≡ eqb b a
    go true e = eq-eqb a b (sym (eqb-true b a e)) ∙ sym e
    go false e = ne_eqb a b (λ q. eqb-false b a e (sym q)) ∙ sym e

-- what `contains` answers
has_any : (w : ℕ) (l : List ℕ) → list_any (λ y. eqb y w) l ≡ has w l
has_any w [] = refl
has_any w (x ∷ l) = ap₂ ◌||◌ (eqb_sym x w) (has_any w l)

distinct_snoc : (l : List ℕ) (n : ℕ) → distinct (l ++ (n ∷ [])) ≡ distinct l && not (has n l)
distinct_snoc [] n = refl
distinct_snoc (x ∷ l) n = rw (has_snoc x l n, distinct_snoc l n, eqb_sym x n) (go (has x l) (eqb n x) (distinct l) (has n l))
  where
    go : (a b c d : Bool) → not (a || b) && (c && not d) ≡ (not a && c) && not (b || d)
    go true b c d = refl
    go false true true true = refl
    go false true true false = refl
    go false true false d = refl
    go false false true d = refl
    go false false false d = refl

distinct_front : (a b : List ℕ) → distinct (a ++ b) ≡ true → distinct a ≡ true
distinct_front [] b e = refl
distinct_front (x ∷ a) b e = and_intro _ _ (go (has x a) refl (and_left _ _ e)) (distinct_front a b (and_right (not (has x (a ++ b))) _ e))
  where
    in-front : has x a ≡ true → has x (a ++ b) ≡ true
    in-front p = has_append x a b ∙ rw p

    go : (t : Bool) → has x a ≡ t → not (has x (a ++ b)) ≡ true → not (has x a) ≡ true
    go true p q = absurd (false≢true (sym (ap not (in-front p)) ∙ q))
    go false p q = ap not p

-- no name twice in the first words of a pattern, and in one more: f says whether the word is among those before it
module _ (s : List ℕ) (i : ℕ) (h : i < length s) (z : distinct (binders (take i s)) ≡ true) where
  step : get_or s i 0 ≤ 63 → (b : Bool) → b ≡ list_any (λ y. eqb y (get_or s i 0)) (take i s) → distinct (binders (take (i + 1) s)) ≡ not b
  step l b f = ap distinct (next_name s i h l) ∙ distinct_snoc (binders (take i s)) (get_or s i 0) ∙ rw (z, has_name (get_or s i 0) (take i s) l, ← has_any, ← f)

  pub once_other : 63 < get_or s i 0 → distinct (binders (take (i + 1) s)) ≡ true
  once_other l = ap distinct (next_other s i h l) ∙ z

  pub once_name : get_or s i 0 ≤ 63 → (b : Bool) → b ≡ list_any (λ y. eqb y (get_or s i 0)) (take i s) → b ≡ false → distinct (binders (take (i + 1) s)) ≡ true
  once_name l b f e = step l b f ∙ ap not e

  pub twice : get_or s i 0 ≤ 63 → (b : Bool) → b ≡ list_any (λ y. eqb y (get_or s i 0)) (take i s) → b ≡ true → false ≡ distinct (binders s)
  twice l b f e = go (distinct (binders s)) refl
    where
      whole : binders (take (i + 1) s) ++ binders (drop (i + 1) s) ≡ binders s
      whole = sym (binders_append (take (i + 1) s) (drop (i + 1) s)) ∙ ap binders (take-append-drop (i + 1) s)

      go : (t : Bool) → distinct (binders s) ≡ t → false ≡ t
      go true q = absurd (false≢true (sym (step l b f ∙ ap not e) ∙ distinct_front (binders (take (i + 1) s)) (binders (drop (i + 1) s)) (ap distinct whole ∙ q)))
      go false q = refl

pub once_all : (s : List ℕ) (i : ℕ) → length s ≤ i → distinct (binders (take i s)) ≡ true → true ≡ distinct (binders s)
once_all s i h z = sym (ap (λ (x : List ℕ). distinct (binders x)) (sym (take_all i s h)) ∙ z)
