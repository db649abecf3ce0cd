-- The places of an environment by their words, and a list over the names of a table, 0 to 63, filled from an environment's slots.
use mathlib.Core.Path.{◌≡◌, refl, sym, ap, ◌∙◌}
use mathlib.Core.Bool.{Bool, true, false, not, cond}
use mathlib.Core.List.{List, [], ◌∷◌}
use Prim.Native.Nat.{ℕ, ◌+◌, ◌*◌, ◌<◌, ◌≤◌}
use native.Mathlib.Numerals.{add-one}
use native.Mathlib.Omega.{arith}
use borrow.Author.Tests.{lt-ltb, le-ltb, ltb-true, ltb-false, le-leb, lt-leb, eqb-true, eqb-false}
use lib.Dec.{leb, ltb, eqb}
use lib.ListN.{length, get_or, set, take, drop, length-map, length-take, length-drop}
use lib.Seq.{length-take-le, get_or-take, get_or-drop, get_or-set_same, get_or-set_other}
use Rattle.model.specs.Values.{value}
use Rattle.model.proofs.Basics.Environments.{Sized}
use Rattle.values.specs.Env.{tuple_of}
use Rattle.sides.specs.Layout.{places_of, view_place}
use Rattle.sides.specs.Environments.{env_of, last_of, slot_value}
use Rattle.sides.proofs.Parts.{word_behind, part_length}
use Rattle.sides.proofs.Reading.{places_count, place_word}
use Rattle.sides.proofs.Substituting.{slot_says, slot_size}
use Rattle.environments.specs.Fits.{Fits}

-- the value in place k
abbrev pub placed : List ℕ → ℕ → List ℕ
placed e k = view_place (get_or (places_of e) k [])

-- WHETHER A PLACE HOLDS A TUPLE
not_below : (a b : ℕ) → leb a b ≡ not (ltb b a)
not_below a b = go (ltb b a) refl
  where
    go : (t : Bool) → ltb b a ≡ t → leb a b ≡ not t
    go true e = lt-leb a b (ltb-true b a e)
    go false e = le-leb a b (ltb-false b a e)

module _ (e : List ℕ) (k : ℕ) (h : k < 8) where
  -- a value of no words
  pub tuple_none : get_or e (8 + 17 * k) 0 ≡ 0 → false ≡ tuple_of (placed e k)
  unfolding view_place tuple_of
  tuple_none z = let s : get_or (get_or (places_of e) k []) 0 0 ≡ 0 = place_word e k h ∙ z in rw s

  -- a value's first word says it
  pub tuple_some : (get_or e (8 + 17 * k) 0 ≡ 0 → ⊥) → leb 4000000 (get_or e (8 + 17 * k + 1) 0) ≡ tuple_of (placed e k)
  unfolding view_place tuple_of
  tuple_some z =
      let v : List ℕ = get_or (places_of e) k [] in
      let s : get_or v 0 0 ≡ get_or e (8 + 17 * k) 0 = place_word e k h in
      let first : get_or v 1 0 ≡ get_or e (8 + 17 * k + 1) 0 = word_behind 17 8 8 e k 1 h (omega arith) in
      let some : 0 < get_or v 0 0 = omega arith in
      let word : get_or (take (get_or v 0 0) (drop 1 v)) 0 0 ≡ get_or e (8 + 17 * k + 1) 0 = get_or-take (get_or v 0 0) (drop 1 v) 0 0 some ∙ get_or-drop 1 v 0 0 ∙ first in
      not_below 4000000 (get_or e (8 + 17 * k + 1) 0) ∙ ap (λ (w : ℕ). not (ltb w 4000000)) (sym word)

-- a name of a table by itself is none
pub tuple_itself : (m : ℕ) (b : Bool) → m < 64 → b ≡ false → b ≡ tuple_of (m ∷ [])
unfolding tuple_of
tuple_itself m b h e = e ∙ sym (ap not (lt-ltb m 4000000 (omega arith)))

-- HOW MANY WORDS A SLOT'S VALUE HAS: at most 16, by its first word
module _ (e : List ℕ) (n : ℕ) (f : Fits e n) (k : ℕ) (h : k < n) where
  pub size_short : get_or e (8 + 17 * k) 0 ≤ 16
  size_short = slot_size e n 0 f.long f.few f.places k h

  pub size_is : length (placed e k) ≡ get_or e (8 + 17 * k) 0
  unfolding view_place
  size_is =
      let v : List ℕ = get_or (places_of e) k [] in
      let k8 : k < 8 = let m = f.few in omega arith in
      let long : length (drop 8 e) ≡ 136 = length-drop 8 e ∙ (let m = f.long in omega arith) in
      let full : length v ≡ 17 = part_length 17 8 (drop 8 e) k k8 (omega arith) in
      let s : get_or v 0 0 ≡ get_or e (8 + 17 * k) 0 = place_word e k k8 in
      let small = size_short in
      length-take-le (get_or v 0 0) (drop 1 v) (omega (arith, length-drop 1 v)) ∙ s

-- as many names as values
pub env_sized : (e : List ℕ) (n : ℕ) → Fits e n → Sized (env_of e n)
env_sized e n f =
    let l = f.long in
    let m = f.few in
    omega (arith, length-map (take n (places_of e)) view_place, length-take n (places_of e), length-take n e, places_count e)

-- A LIST BY NAMES: the entry of each name is f of what the last of the first k slots says
module _ {A : Type 0} (f : List ℕ → A) (d : A) (e : List ℕ) (n : ℕ) where
  abbrev pub ByNames : ℕ → List A → Type 0
  ByNames k ts = (m : ℕ) → m < 64 → get_or ts m d ≡ f (slot_value e n m (last_of e k m n))

  -- before the first slot each name stands for itself
  pub names_none : (ts : List A) → ((m : ℕ) → m < 64 → get_or ts m d ≡ f (m ∷ [])) → ByNames 0 ts
  unfolding last_of slot_value
  names_none ts h m l = h m l ∙ ap (λ (b : Bool). f (cond b (placed e n) (m ∷ []))) (sym (le-ltb n n (omega arith)))

  -- one slot more
  pub names_next : (k : ℕ) (ts r : List A) → k < n → length ts ≡ 64 → ByNames k ts → r ≡ set ts (get_or e k 0) (f (placed e k)) → ByNames (k + 1) r
  unfolding last_of slot_value
  names_next k ts r h full p q m l =
      ap (λ (x : List A). get_or x m d) q ∙ go (eqb (get_or e k 0) m) refl ∙ ap (λ (j : ℕ). f (slot_value e n m (last_of e j m n))) (sym (add-one k))
    where
      go : (b : Bool) → eqb (get_or e k 0) m ≡ b → get_or (set ts (get_or e k 0) (f (placed e k))) m d ≡ f (slot_value e n m (cond (eqb (get_or e k 0) m) k (last_of e k m n)))
      go true z =
          let s : get_or e k 0 ≡ m = eqb-true (get_or e k 0) m z in
          rw (z, s, lt-ltb k n h) (get_or-set_same ts m (f (placed e k)) d (omega arith))
      go false z = rw z (get_or-set_other ts (get_or e k 0) m (f (placed e k)) d (λ s. eqb-false (get_or e k 0) m z (sym s)) ∙ p m l)

  -- behind the last slot each entry is f of what the name stands for
  pub names_all : Fits e n → (ts : List A) → ByNames n ts → (m : ℕ) → m < 64 → get_or ts m d ≡ f (value (env_of e n) m)
  names_all g ts p m l = p m l ∙ ap f (sym (slot_says e n m g.long g.few (last_of e n m n) refl))
