-- The stranded positions of the first of some messages, one message after another.
use mathlib.Core.Path.{◌≡◌, refl, sym, ap, ◌∙◌}
use mathlib.Core.Bool.{Bool, true, false, cond}
use mathlib.Core.List.{List, [], ◌∷◌, ◌++◌, map, map-append, append_assoc, append-nil}
use Prim.Native.Nat.{ℕ, suc, ◌+◌, ◌<◌, ◌≤◌}
use native.Mathlib.Omega.{arith}
use native.Mathlib.Numerals.{add-one}
use borrow.Author.Tests.{le-leb, lt-leb}
use lib.Dec.{leb}
use lib.ListN.{length, get_or, take, drop, set, length-append, length-map, take-append-drop}
use lib.Seq.{take-suc, take_all, drop-cons, length-take-le, set_at}
use Rattle.std.specs.List.{count_by}
use Rattle.std.specs.Prelude.{Ok, Err}
use Rattle.std.proofs.lemmas.List.Sums.{sum_by-cons}
use Rattle.model.specs.Basics.{choose, done, need}
use Rattle.model.specs.Side.{Message as MMessage}
use Rattle.model.specs.Stranded.{is_stranded, stranded_from}
use Rattle.sides.specs.declared.Message.{Message}
use Rattle.sides.specs.Views.{view_message}
use Rattle.listing.specs.declared.TooShort.{TooShort}
use Rattle.listing.specs.Listing.{listing, listed_on, ListedIs}

-- MESSAGES IN TWO PARTS
-- the position behind the first of them is the second's first
one_more : (t : Bool) (j : ℕ) (ps qs : List ℕ) → cond t (j ∷ (ps ++ qs)) (ps ++ qs) ≡ cond t (j ∷ ps) ps ++ qs
one_more true j ps qs = refl
one_more false j ps qs = refl

from_append : (l r : List MMessage) (j : ℕ) → stranded_from j (l ++ r) ≡ stranded_from j l ++ stranded_from (j + length l) r
unfolding stranded_from
from_append [] r j = let same : j ≡ j + 0 = omega arith in ap (λ (k : ℕ). stranded_from k r) same
from_append (m ∷ l) r j =
    let same : suc j + length l ≡ j + suc (length l) = omega arith in
    ap (λ (x : List ℕ). cond (is_stranded m) (j ∷ x) x) (from_append l r (suc j) ∙ ap (λ (k : ℕ). stranded_from (suc j) l ++ stranded_from k r) same)
    ∙ one_more (is_stranded m) j (stranded_from (suc j) l) (stranded_from (j + suc (length l)) r)

-- how many they are
pub count_positions : (j : ℕ) (ms : List Message) → count_by (λ m. is_stranded (view_message m)) ms ≡ length (stranded_from j (map view_message ms))
unfolding stranded_from
count_positions j [] = refl
count_positions j (m ∷ ms) = sum_by-cons (λ x. cond (is_stranded (view_message x)) 1 0) m ms ∙ one (is_stranded (view_message m)) _ (count_positions (suc j) ms)
  where
    one : (t : Bool) {n : ℕ} (ps : List ℕ) → n ≡ length ps → cond t 1 0 + n ≡ length (cond t (j ∷ ps) ps)
    one true ps e = omega arith
    one false ps e = omega arith

-- THE FIRST k MESSAGES, and their stranded positions
module _ (ms : List Message) where
  abbrev first : ℕ → List MMessage
  first k = map view_message (take k ms)

  abbrev front : ℕ → List ℕ
  front k = stranded_from 0 (first k)

  abbrev all : List ℕ
  all = stranded_from 0 (map view_message ms)

  first_many : (k : ℕ) → k ≤ length ms → length (first k) ≡ k
  first_many k h = length-map (take k ms) view_message ∙ length-take-le k ms h

  -- no more of them than of all
  front_within : (k : ℕ) → length (front k) ≤ length all
  front_within k =
      let rest = map view_message (drop k ms) in
      let parts : map view_message ms ≡ first k ++ rest = ap (map view_message) (sym (take-append-drop k ms)) ∙ map-append view_message (take k ms) (drop k ms) in
      let both = ap (stranded_from 0) parts ∙ from_append (first k) rest 0 in
      omega (arith, ap length both, length-append (front k) (stranded_from (0 + length (first k)) rest))

  -- message k, and whether it is stranded
  module _ (k : ℕ) (d : Message) (h : k < length ms) (q : Bool) (e : q ≡ is_stranded (view_message (get_or ms k d))) where
    front_next : front (k + 1) ≡ front k ++ stranded_from k (view_message (get_or ms k d) ∷ [])
    front_next =
        let m = get_or ms k d in
        let taken : take (k + 1) ms ≡ take k ms ++ (m ∷ []) = ap (λ (n : ℕ). take n ms) (add-one k) ∙ take-suc ms k d h in
        let place : 0 + length (first k) ≡ k = omega (arith, first_many k (omega arith)) in
        ap (λ (x : List Message). stranded_from 0 (map view_message x)) taken
        ∙ ap (stranded_from 0) (map-append view_message (take k ms) (m ∷ []))
        ∙ from_append (first k) (view_message m ∷ []) 0
        ∙ ap (λ (n : ℕ). front k ++ stranded_from n (view_message m ∷ [])) place

    by_test : (t : Bool) → q ≡ t → front (k + 1) ≡ front k ++ cond t (k ∷ []) []
    unfolding stranded_from
    by_test t z = front_next ∙ ap (λ (x : Bool). front k ++ cond x (k ∷ []) []) (sym e ∙ z)

    front_more : q ≡ true → front (k + 1) ≡ front k ++ (k ∷ [])
    front_more z = by_test true z

    front_same : q ≡ false → front (k + 1) ≡ front k
    front_same z = by_test false z ∙ append-nil (front k)

  -- PUT into a lent list: the c positions of the first k messages, and behind them what was there
  pub record Filled (lent : List ℕ) (k c : ℕ) (out : List ℕ) : Type 0 where
    pub count : c ≡ length (front k)
    pub words : out ≡ front k ++ drop c lent

  pub filled_none : (lent : List ℕ) → Filled lent 0 0 lent
  unfolding stranded_from
  filled_none lent = record { count = refl; words = refl }

  pub filled_all : (lent out : List ℕ) (k c : ℕ) → length ms ≤ k → Filled lent k c out → out ≡ all ++ drop (length all) lent
  filled_all lent out k c h f =
      let whole : front k ≡ all = ap (λ (x : List Message). stranded_from 0 (map view_message x)) (take_all k ms h) in
      f.words ∙ ap (λ (n : ℕ). front k ++ drop n lent) f.count ∙ ap (λ (x : List ℕ). x ++ drop (length x) lent) whole

  module _ (lent : List ℕ) (room : length all ≤ length lent) (k c : ℕ) (out : List ℕ) (f : Filled lent k c out) where
    -- no word comes or goes
    pub filled_length : length out ≡ length lent
    filled_length =
        let few = front_within k in
        let parts = ap length (take-append-drop c lent) in
        omega (arith, f.count, few, room, parts, ap length f.words, length-append (front k) (drop c lent), length-append (take c lent) (drop c lent), length-take-le c lent (omega (arith, f.count, few, room)))

    module _ (d : Message) (h : k < length ms) (q : Bool) (e : q ≡ is_stranded (view_message (get_or ms k d))) where
      more_count : q ≡ true → c + 1 ≡ length (front (k + 1))
      more_count z = omega (arith, f.count, ap length (front_more k d h q e z), length-append (front k) (k ∷ []))

      -- a stranded one more has room
      pub filled_room : q ≡ true → c < length lent
      filled_room z = omega (arith, more_count z, front_within (k + 1), room)

      pub filled_more : q ≡ true → Filled lent (k + 1) (c + 1) (set out c k)
      filled_more z = record { count = more_count z; words = put }
        where
          put : set out c k ≡ front (k + 1) ++ drop (c + 1) lent
          put =
              ap (λ (x : List ℕ). set x c k) (f.words ∙ ap (λ (x : List ℕ). front k ++ x) (drop-cons lent c 0 (filled_room z)))
              ∙ set_at (front k) (get_or lent c 0) (drop (suc c) lent) k c (sym f.count)
              ∙ ap (λ (n : ℕ). front k ++ k ∷ drop n lent) (sym (add-one c))
              ∙ sym (append_assoc (front k) (k ∷ []) (drop (c + 1) lent))
              ∙ ap (λ (x : List ℕ). x ++ drop (c + 1) lent) (sym (front_more k d h q e z))

      pub filled_same : q ≡ false → Filled lent (k + 1) c out
      filled_same z =
          let same = front_same k d h q e z in
          record { count = f.count ∙ sym (ap length same); words = f.words ∙ ap (λ (x : List ℕ). x ++ drop c lent) (sym same) }

-- THE ANSWER
module _ (ps lent : List ℕ) where
  pub by_room : (t : Bool) → leb (length ps) (length lent) ≡ t → (listing ps lent ≡ need t 22 (done (length ps))) × (listed_on ps lent ≡ choose t (ps ++ drop (length ps) lent) lent)
  unfolding listing listed_on
  by_room t e = (ap (λ (x : Bool). need x 22 (done (length ps))) e, ap (λ (x : Bool). choose x (ps ++ drop (length ps) lent) lent) e)

  pub listed_short : (n : ℕ) → n ≡ length ps → length lent < n → (e : TooShort) → ListedIs ps lent lent (Err e)
  unfolding need choose
  listed_short n c h x = let e = by_room false (lt-leb (length ps) (length lent) (omega arith)) in record { answer = sym e.0; words = sym e.1 }

  pub listed_all : (n : ℕ) → n ≡ length ps → n ≤ length lent → (after : List ℕ) → after ≡ ps ++ drop (length ps) lent → ListedIs ps lent after (Ok n)
  unfolding need choose
  listed_all n c h after w = let e = by_room true (le-leb (length ps) (length lent) (omega arith)) in record { answer = ap done c ∙ sym e.0; words = w ∙ sym e.1 }
