-- The next tab or newline, from one byte to the next and from one word to the next.
use mathlib.Core.Path.{◌≡◌, refl, sym, ap, ap₂, subst, ◌∙◌}
use mathlib.Core.Bool.{Bool, true, false}
use mathlib.Core.List.{List, [], ◌∷◌, ◌++◌}
use Prim.Native.Nat.{ℕ, zero, suc, ◌+◌, ◌*◌, ◌/◌, ◌<◌, ◌≤◌}
use native.Mathlib.Nat.{zero-add, suc-add, le_of_suc-le-suc}
use native.Mathlib.Omega.{arith}
use borrow.Author.Tests.{eq-eqb, ne_eqb}
use lib.Count.{count_trailing_zeros, trailing_of_zero}
use lib.ListN.{length, get_or, take, drop, take-append-drop}
use lib.Seq.{drop-drop, length-slice}
use Rattle.format.specs.Bytes.{slice}
use Rattle.model.specs.Basics.{◌or◌, choose}
use Rattle.format.specs.Lines.{tab, newline}
use Rattle.delimiters.specs.Delimiters.{is_delimiter, delimiter_from, word, flagged}
use Rattle.delimiters.proofs.PlaceLaws.{first_place}
use Rattle.delimiters.proofs.SliceLaws.{take_of_drop, get_d_slice}
use Rattle.delimiters.proofs.WordLaws.{Bytes}
use Rattle.delimiters.proofs.FirstLaws.{first_flag, no_flag}

-- a start at the end or past it
pub past : (start : ℕ) (s : List ℕ) → length s ≤ start → delimiter_from start s ≡ length s
past start s h = sym ((first_place start s).1 (length s) (record { inside = omega arith; none_before = λ p k q. absurd (omega arith); one_there = λ k. absurd (omega arith) }))

-- a start within the list is a start at the rest's first place
pub from_drop : (at : ℕ) (s : List ℕ) → at ≤ length s → delimiter_from at s ≡ at + delimiter_from 0 (drop at s)
unfolding delimiter_from
from_drop zero s h = sym (zero-add _)
from_drop (suc n) [] h = absurd (omega arith)
from_drop (suc n) (b ∷ bs) h = ap suc (from_drop n bs (le_of_suc-le-suc h)) ∙ sym (suc-add n _)

-- a byte that is one of the two, and a byte that is neither
pub is_tab : (b : ℕ) → b ≡ 9 → is_delimiter b ≡ true
unfolding is_delimiter ◌or◌
is_tab b e = rw (eq-eqb b tab e)

pub is_newline : (b : ℕ) → b ≡ 10 → is_delimiter b ≡ true
unfolding is_delimiter ◌or◌
is_newline b e = rw (e) refl

pub is_neither : (b : ℕ) → (b ≡ 9 → ⊥) → (b ≡ 10 → ⊥) → is_delimiter b ≡ false
unfolding is_delimiter ◌or◌
is_neither b h k = rw (ne_eqb b tab h, ne_eqb b newline k)

-- the byte at the start
pub here : (at : ℕ) (s : List ℕ) → at < length s → is_delimiter (get_or s at 0) ≡ true → delimiter_from at s ≡ at
here at s h e = sym ((first_place at s).1 at (record { inside = omega arith; none_before = λ p k q. absurd (omega arith); one_there = λ k. (omega arith, e) }))

pub later : (at : ℕ) (s : List ℕ) → at < length s → is_delimiter (get_or s at 0) ≡ false → delimiter_from at s ≡ delimiter_from (suc at) s
unfolding delimiter_from choose
later at [] h e = absurd (omega arith)
later zero (b ∷ bs) h e = rw e
later (suc n) (b ∷ bs) h e = ap suc (later n bs (le_of_suc-le-suc h) e)

-- a list whose first part has a tab or a newline, or has none
found_first : (xs ys : List ℕ) → delimiter_from 0 xs < length xs → delimiter_from 0 (xs ++ ys) ≡ delimiter_from 0 xs
unfolding delimiter_from choose
found_first [] ys h = absurd (omega arith)
found_first (b ∷ bs) ys h = go (is_delimiter b) h (found_first bs ys)
  where
    go : (t : Bool) → choose t 0 (suc (delimiter_from 0 bs)) < suc (length bs) → (delimiter_from 0 bs < length bs → delimiter_from 0 (bs ++ ys) ≡ delimiter_from 0 bs) →
        choose t 0 (suc (delimiter_from 0 (bs ++ ys))) ≡ choose t 0 (suc (delimiter_from 0 bs))
    go true h f = refl
    go false h f = ap suc (f (le_of_suc-le-suc h))

found_later : (xs ys : List ℕ) → delimiter_from 0 xs ≡ length xs → delimiter_from 0 (xs ++ ys) ≡ length xs + delimiter_from 0 ys
unfolding delimiter_from choose
found_later [] ys e = sym (zero-add _)
found_later (b ∷ bs) ys e = go (is_delimiter b) e (found_later bs ys)
  where
    go : (t : Bool) → choose t 0 (suc (delimiter_from 0 bs)) ≡ suc (length bs) → (delimiter_from 0 bs ≡ length bs → delimiter_from 0 (bs ++ ys) ≡ length bs + delimiter_from 0 ys) →
        choose t 0 (suc (delimiter_from 0 (bs ++ ys))) ≡ suc (length bs) + delimiter_from 0 ys
    go true e f = let z : zero ≡ suc (length bs) = e in absurd (omega arith)
    go false e f = let z : suc (delimiter_from 0 bs) ≡ suc (length bs) = e in omega (arith, f (omega arith))

-- n bytes from a place on, seen by themselves
module _ (s : List ℕ) (at n : ℕ) (fits : at + n ≤ length s) where
  pub size : length (slice at (at + n) s) ≡ n
  unfolding slice
  size = length-slice at (at + n) s fits ∙ omega arith

  split : delimiter_from at s ≡ at + delimiter_from 0 (slice at (at + n) s ++ drop (at + n) s)
  unfolding slice
  split =
      let first : take n (drop at s) ≡ drop at (take (at + n) s) = take_of_drop at n s in
      let rest : drop n (drop at s) ≡ drop (at + n) s = drop-drop n at s in
      let whole : drop at s ≡ drop at (take (at + n) s) ++ drop (at + n) s = sym (take-append-drop n (drop at s)) ∙ ap₂ ◌++◌ first rest in
      from_drop at s (omega arith) ∙ ap (λ (l : List ℕ). at + delimiter_from 0 l) whole

  pub found_in : delimiter_from 0 (slice at (at + n) s) < n → delimiter_from at s ≡ at + delimiter_from 0 (slice at (at + n) s)
  found_in h = split ∙ ap (λ (k : ℕ). at + k) (found_first (slice at (at + n) s) (drop (at + n) s) (omega (arith, size)))

  pub found_behind : delimiter_from 0 (slice at (at + n) s) ≡ n → delimiter_from at s ≡ delimiter_from (at + n) s
  found_behind e =
      let later = found_later (slice at (at + n) s) (drop (at + n) s) (omega (arith, size)) in
      let back = from_drop (at + n) s fits in
      omega (arith, split, later, back, size)

  pub in_part : delimiter_from 0 (slice at (at + n) s) ≤ n
  in_part = omega (arith, (first_place 0 (slice at (at + n) s)).0.inside, size)

  pub part_bytes : Bytes s → Bytes (slice at (at + n) s)
  unfolding slice
  part_bytes bytes k h =
      let q : k < n = omega (arith, size) in
      subst (λ (b : ℕ). b < 256) (sym (get_d_slice at (at + n) s k (omega arith))) (bytes (at + k) (omega arith))

-- what the flags of eight bytes say
module _ (s : List ℕ) (at m : ℕ) (fits : at + 8 ≤ length s) (bytes : Bytes s) (flags : m ≡ flagged 8 (word (slice at (at + 8) s))) where
  own : Bytes (slice at (at + 8) s)
  own = part_bytes s at 8 fits bytes

  zeros : count_trailing_zeros 64 m / 8 ≡ delimiter_from 0 (slice at (at + 8) s)
  zeros = ap (λ (x : ℕ). count_trailing_zeros 64 x / 8) flags
      ∙ subst (λ (n : ℕ). count_trailing_zeros (8 * n) (flagged n (word (slice at (at + 8) s))) / 8 ≡ delimiter_from 0 (slice at (at + 8) s)) (size s at 8 fits) (first_flag (slice at (at + 8) s) own)

  pub hit : (m ≡ 0 → ⊥) → delimiter_from at s ≡ at + count_trailing_zeros 64 m / 8
  hit h =
      let some : delimiter_from 0 (slice at (at + 8) s) ≡ 8 → ⊥ = λ e. h
      (flags ∙ subst (λ (n : ℕ). flagged n (word (slice at (at + 8) s)) ≡ 0) (size s at 8 fits) (no_flag (slice at (at + 8) s) own (e ∙ sym (size s at 8 fits)))) in
      let within : delimiter_from 0 (slice at (at + 8) s) < 8 = omega (arith, in_part s at 8 fits, some) in
      found_in s at 8 fits within ∙ ap (λ (k : ℕ). at + k) (sym zeros)

  pub miss : m ≡ 0 → delimiter_from at s ≡ delimiter_from (at + 8) s
  miss e =
      let all : count_trailing_zeros 64 m / 8 ≡ 8 = ap (λ (x : ℕ). count_trailing_zeros 64 x / 8) e ∙ ap (λ (k : ℕ). k / 8) (trailing_of_zero 64) in
      found_behind s at 8 fits (sym zeros ∙ all)
