-- Names looked up in lent words, and values substituted word by word.
use mathlib.Core.Path.{◌≡◌, refl, sym, ap, ◌∙◌}
use mathlib.Core.Bool.{Bool, true, false, cond}
use mathlib.Core.List.{List, [], ◌∷◌, ◌++◌, map, append_assoc, append-nil}
use Prim.Native.Nat.{ℕ, zero, suc, ◌+◌, ◌-◌, ◌*◌, ◌<◌, ◌≤◌}
use native.Mathlib.Nat.{add-sub_cancel_left}
use native.Mathlib.Numerals.{add-one}
use native.Mathlib.Omega.{arith}
use borrow.Author.Tests.{lt-ltb, le-ltb, le-leb, lt-leb}
use lib.Dec.{eqb}
use lib.ListN.{length, take, drop, get_or, set, length-append, take-append-drop}
use lib.Seq.{sets, take-suc, take_all, drop-drop, get_or-take, get_or-drop}
use Rattle.model.specs.Basics.{every}
use Rattle.model.specs.Values.{Env, is_public, lookup, value, word, substitute}
use Rattle.sides.proofs.Lists.{every_at}
use Rattle.sides.specs.Layout.{places_of, view_place, fits_place}
use Rattle.sides.specs.Stored.{placed}
use Rattle.sides.specs.Environments.{env_of, last_of, slot_value}
use Rattle.sides.proofs.Sets.{sets_append, set_sets}
use Rattle.sides.proofs.Parts.{part_of_part, parts_at, word_behind}
use Rattle.sides.proofs.Reading.{places_count, place_word, place_short}

-- what stands for a word of a table's value, once its bound names are replaced: a name's value, or the word itself
abbrev stands_for : Env → ℕ → List ℕ
stands_for ρ w = cond (is_public w) (value ρ w) (w ∷ [])

-- one name more
look_more : (ns : List ℕ) (vs : List (List ℕ)) (f : List ℕ → List ℕ) (j w : ℕ) (d : List ℕ) → j < length ns → j < length vs →
    lookup (take (suc j) ns) (map f (take (suc j) vs)) w d ≡ cond (eqb (get_or ns j 0) w) (f (get_or vs j [])) (lookup (take j ns) (map f (take j vs)) w d)
look_more [] vs f j w d h m = absurd (omega arith)
look_more (x ∷ ns) [] f j w d h m = absurd (omega arith)
look_more (x ∷ ns) (v ∷ vs) f zero w d h m = refl
look_more (x ∷ ns) (v ∷ vs) f (suc j) w d h m = look_more ns vs f j w (cond (eqb x w) (f v) d) (omega arith) (omega arith)

-- what a slot says
slot_in : (e : List ℕ) (n w k : ℕ) → k < n → slot_value e n w k ≡ view_place (get_or (places_of e) k [])
unfolding slot_value
slot_in e n w k h = rw (lt-ltb k n h)

slot_out : (e : List ℕ) (n w k : ℕ) → n ≤ k → slot_value e n w k ≡ w ∷ []
unfolding slot_value
slot_out e n w k h = rw (le-ltb k n h)

-- WHAT A NAME STANDS FOR is what its last slot says
module _ (e : List ℕ) (n w : ℕ) (long : length e ≡ 144) (h : n ≤ 8) where
  upto : (k : ℕ) → k ≤ n → lookup (take k e) (map view_place (take k (places_of e))) w (w ∷ []) ≡ slot_value e n w (last_of e k w n)
  unfolding last_of
  upto zero m = sym (slot_out e n w n (omega arith))
  upto (suc k) m =
      look_more e (places_of e) view_place k w (w ∷ []) (omega arith) (omega (arith, places_count e)) ∙ by (eqb (get_or e k 0) w) k (last_of e k w n) (sym (slot_in e n w k m)) (upto k (omega arith))
    where
      by : (b : Bool) {x y : List ℕ} (i j : ℕ) → x ≡ slot_value e n w i → y ≡ slot_value e n w j → cond b x y ≡ slot_value e n w (cond b i j)
      by true i j p q = p
      by false i j p q = q

  pub slot_says : (k : ℕ) → k ≡ last_of e n w n → value (env_of e n) w ≡ slot_value e n w k
  slot_says k p = upto n (omega arith) ∙ ap (slot_value e n w) (sym p)

  -- the word itself, where no slot has it
  pub slot_none : (k : ℕ) → k ≡ last_of e n w n → n ≤ k → value (env_of e n) w ≡ w ∷ []
  slot_none k p m = slot_says k p ∙ slot_out e n w k m

  -- the first word of what it stands for
  module _ (k : ℕ) (p : k ≡ last_of e n w n) where
    pub word_none : n ≤ k → w ≡ word (env_of e n) w
    word_none m = sym (ap (λ (x : List ℕ). get_or x 0 0) (slot_none k p m))

    slot_word : (x : ℕ) → k < n → get_or (view_place (get_or (places_of e) k [])) 0 0 ≡ x → x ≡ word (env_of e n) w
    slot_word x m q = sym (ap (λ (y : List ℕ). get_or y 0 0) (slot_says k p ∙ slot_in e n w k m) ∙ q)

    pub word_empty : k < n → get_or e (8 + 17 * k) 0 ≡ 0 → 0 ≡ word (env_of e n) w
    unfolding view_place
    word_empty m z =
        let v : List ℕ = get_or (places_of e) k [] in
        let k8 : k < 8 = omega arith in
        slot_word 0 m (ap (λ (c : ℕ). get_or (take c (drop 1 v)) 0 0) (place_word e k k8 ∙ z))

    pub word_first : k < n → (get_or e (8 + 17 * k) 0 ≡ 0 → ⊥) → get_or e (8 + 17 * k + 1) 0 ≡ word (env_of e n) w
    unfolding view_place
    word_first m z =
        let v : List ℕ = get_or (places_of e) k [] in
        let k8 : k < 8 = omega arith in
        let some : 0 < get_or v 0 0 = omega (arith, place_word e k k8, z) in
        slot_word (get_or e (8 + 17 * k + 1) 0) m (get_or-take (get_or v 0 0) (drop 1 v) 0 0 some ∙ get_or-drop 1 v 0 0 ∙ word_behind 17 8 8 e k 1 k8 (omega arith))

  module _ (f : every fits_place (take n (places_of e)) ≡ true) (k : ℕ) (m : k < n) where
    pub slot_size : get_or e (8 + 17 * k) 0 ≤ 16
    slot_size =
        let s = place_short (get_or (places_of e) k []) (every_at fits_place (places_of e) n k [] m (rw (places_count e) h) f) in
        let k8 : k < 8 = omega arith in
        omega (arith, place_word e k k8)

    -- the words that a slot lends
    pub slot_words : k ≡ last_of e n w n → let a = 8 + 17 * k in take (a + 1 + get_or e a 0 - (a + 1)) (drop (a + 1) e) ≡ value (env_of e n) w
    unfolding view_place
    slot_words p =
        let a : ℕ = 8 + 17 * k in
        let z : ℕ = get_or e a 0 in
        let k8 : k < 8 = omega arith in
        let small : z ≤ 16 = slot_size in
        let place : get_or (places_of e) k [] ≡ take 17 (drop a e) = parts_at 17 8 (drop 8 e) k k8 ∙ ap (take 17) (drop-drop (17 * k) 8 e) in
        let view : view_place (get_or (places_of e) k []) ≡ take z (drop 1 (take 17 (drop a e))) = ap (λ (j : ℕ). take j (drop 1 (get_or (places_of e) k []))) (place_word e k k8) ∙ ap (λ (y : List ℕ). take z (drop 1 y)) place in
        ap (λ (j : ℕ). take j (drop (a + 1) e)) (add-sub_cancel_left (a + 1) z) ∙ ap (take z) (sym (drop-drop 1 a e)) ∙ sym (part_of_part z 1 17 (drop a e) (omega arith)) ∙ sym view ∙
        sym (slot_in e n w k m) ∙ sym (slot_says k p)

-- substitution of a list in two parts
subst_append : (ρ : Env) (a b : List ℕ) → substitute ρ (a ++ b) ≡ substitute ρ a ++ substitute ρ b
subst_append ρ [] b = refl
subst_append ρ (x ∷ a) b = ap (λ (y : List ℕ). stands_for ρ x ++ y) (subst_append ρ a b) ∙ sym (append_assoc (stands_for ρ x) (substitute ρ a) (substitute ρ b))

subst_next : (ρ : Env) (s : List ℕ) (i : ℕ) → i < length s → substitute ρ (take (i + 1) s) ≡ substitute ρ (take i s) ++ stands_for ρ (get_or s i 0)
subst_next ρ s i h =
    ap (λ (n : ℕ). substitute ρ (take n s)) (add-one i) ∙ ap (substitute ρ) (take-suc s i 0 h) ∙ subst_append ρ (take i s) (get_or s i 0 ∷ []) ∙
    ap (λ (y : List ℕ). substitute ρ (take i s) ++ y) (append-nil (stands_for ρ (get_or s i 0)))

subst_room : (ρ : Env) (s : List ℕ) (i : ℕ) → length (substitute ρ (take i s)) ≤ length (substitute ρ s)
subst_room ρ s i =
    let e : substitute ρ s ≡ substitute ρ (take i s) ++ substitute ρ (drop i s) = ap (substitute ρ) (sym (take-append-drop i s)) ∙ subst_append ρ (take i s) (drop i s) in
    omega (arith, ap length e, length-append (substitute ρ (take i s)) (substitute ρ (drop i s)))

-- a table's name, and any other word
pub stands_name : (ρ : Env) (w : ℕ) → w ≤ 63 → stands_for ρ w ≡ value ρ w
stands_name ρ w h = rw (le-leb w 63 h)

pub stands_word : (ρ : Env) (w : ℕ) → 63 < w → stands_for ρ w ≡ w ∷ []
stands_word ρ w h = rw (lt-leb w 63 h)

-- A TURN OF THE SUBSTITUTION: word i stands for x. There is room for it, and what is stored grows by it
module _ (ρ : Env) (s : List ℕ) (i m : ℕ) (x : List ℕ) (h : i < length s) (e : stands_for ρ (get_or s i 0) ≡ x) (p : m ≡ length (substitute ρ (take i s))) where
  grown : substitute ρ (take (i + 1) s) ≡ substitute ρ (take i s) ++ x
  grown = subst_next ρ s i h ∙ ap (λ (y : List ℕ). substitute ρ (take i s) ++ y) e

  pub subst_fits : length (substitute ρ s) ≤ 16 → m + length x ≤ 16
  subst_fits f = omega (arith, subst_room ρ s (i + 1), ap length grown, length-append (substitute ρ (take i s)) x)

  pub subst_turn : (v₀ v w : List ℕ) (r : ℕ) → v ≡ sets v₀ 1 (substitute ρ (take i s)) → r ≡ m + length x → w ≡ sets v (1 + m) x →
      (r ≡ length (substitute ρ (take (i + 1) s))) × (w ≡ sets v₀ 1 (substitute ρ (take (i + 1) s)))
  subst_turn v₀ v w r q c t =
      let y : List ℕ = substitute ρ (take i s) in (
        c ∙ ap (λ (j : ℕ). j + length x) p ∙ sym (length-append y x) ∙ ap length (sym grown),
        t ∙ ap (λ (u : List ℕ). sets u (1 + m) x) q ∙ ap (λ (j : ℕ). sets (sets v₀ 1 y) (1 + j) x) p ∙ sets_append y x v₀ 1 ∙ ap (sets v₀ 1) (sym grown),
      )

-- the length written last
pub subst_done : (ρ : Env) (s : List ℕ) (i m : ℕ) (v₀ v : List ℕ) → length s ≤ i → m ≡ length (substitute ρ (take i s)) → v ≡ sets v₀ 1 (substitute ρ (take i s)) → set v 0 m ≡ placed v₀ 0 (substitute ρ s)
unfolding placed
subst_done ρ s i m v₀ v h p q =
    let x : List ℕ = substitute ρ s in
    let all : substitute ρ (take i s) ≡ x = ap (substitute ρ) (take_all i s h) in
    ap (λ (y : List ℕ). set y 0 m) (q ∙ ap (sets v₀ 1) all) ∙ ap (set (sets v₀ 1 x) 0) (p ∙ ap length all) ∙ set_sets x v₀ 0 1 (length x) (omega arith)
