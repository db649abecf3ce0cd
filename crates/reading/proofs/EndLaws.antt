-- Where a line ends: its first field ends at the next tab or newline, and the line at the next newline.
use mathlib.Core.Path.{◌≡◌, refl, sym, ap, ◌∙◌}
use mathlib.Core.Logic.{◌⊎◌, inl, inr, ⊎_elim}
use mathlib.Core.Bool.{Bool, true, false}
use mathlib.Core.List.{List, [], ◌∷◌}
use mathlib.Core.Option.{Option, none}
use Prim.Native.Nat.{ℕ, zero, suc, ◌+◌, ◌-◌, ◌<◌, ◌≤◌}
use native.Mathlib.Nat.{le_of_suc-le-suc}
use native.Mathlib.Omega.{arith}
use borrow.Author.Tests.{lt-ltb, le-ltb, eqb-true, eqb-false}
use lib.Dec.{ltb, eqb}
use lib.ListN.{length, get_or, take, drop, length-drop}
use lib.Seq.{take_all, drop-drop, get_or-drop, length-slice}
use Rattle.format.specs.Bytes.{slice, index_of, index_after}
use Rattle.model.specs.Basics.{◌or◌, choose}
use Rattle.format.specs.Lines.{tab, newline, Line}
use Rattle.delimiters.specs.Delimiters.{is_delimiter, delimiter_from}
use Rattle.delimiters.proofs.SliceLaws.{take_of_drop}
use Rattle.delimiters.proofs.SearchLaws.{from_drop}
use Rattle.reading.specs.Fields.{line_end, ended}

-- a number's place is at most the length
index_le : (c : ℕ) (l : List ℕ) → index_of c l ≤ length l
unfolding index_of index_after
index_le c [] = omega arith
index_le c (x ∷ xs) = go (eqb x c) (index_le c xs)
  where
    go : (t : Bool) → index_of c xs ≤ length xs → index_after t (index_of c xs) ≤ suc (length xs)
    go true h = omega arith
    go false h = omega arith

-- behind a place before the first c, the first c is where it was
index_behind : (c k : ℕ) (l : List ℕ) → k < index_of c l → suc k + index_of c (drop (suc k) l) ≡ index_of c l
unfolding index_of index_after
index_behind c k [] h = absurd (omega arith)
index_behind c k (x ∷ xs) h = go (eqb x c) k h (λ m. index_behind c m xs)
  where
    go : (t : Bool) (k : ℕ) → k < index_after t (index_of c xs) → ((m : ℕ) → m < index_of c xs → suc m + index_of c (drop (suc m) xs) ≡ index_of c xs) →
        suc k + index_of c (drop k xs) ≡ index_after t (index_of c xs)
    go true k h f = absurd (omega arith)
    go false zero h f = omega arith
    go false (suc k) h f = omega (arith, f k (le_of_suc-le-suc h))

-- the first tab or newline is the first tab of what stands before the first newline
first_of_line : (l : List ℕ) → delimiter_from 0 l ≡ index_of tab (take (index_of newline l) l)
unfolding delimiter_from is_delimiter index_of index_after choose ◌or◌
first_of_line [] = refl
first_of_line (b ∷ bs) = go (eqb b newline) refl (eqb b tab) refl (first_of_line bs)
  where
    go : (n : Bool) → eqb b newline ≡ n → (t : Bool) → eqb b tab ≡ t → delimiter_from 0 bs ≡ index_of tab (take (index_of newline bs) bs) →
        choose (t or n) 0 (suc (delimiter_from 0 bs)) ≡ index_of tab (take (index_after n (index_of newline bs)) (b ∷ bs))
    go true p true q e = refl
    go true p false q e = refl
    go false p true q e = rw q refl
    go false p false q e = rw q (ap suc e)

-- the byte at d is the newline at e, or it is none and stands before e
abbrev AtOrBefore : List ℕ → (d e : ℕ) → Type 0
AtOrBefore l d e = ((get_or l d 0 ≡ 10) × (d ≡ e)) ⊎ ((get_or l d 0 ≡ 10 → ⊥) × (d < e))

-- the first tab or newline is the first newline, or stands before it
newline_or_before : (l : List ℕ) → delimiter_from 0 l < length l → AtOrBefore l (delimiter_from 0 l) (index_of newline l)
unfolding delimiter_from is_delimiter index_of index_after choose ◌or◌
newline_or_before [] h = absurd (omega arith)
newline_or_before (b ∷ bs) h = go (eqb b tab) (eqb b newline) refl h (newline_or_before bs)
  where
    go : (t n : Bool) → eqb b newline ≡ n → choose (t or n) 0 (suc (delimiter_from 0 bs)) < suc (length bs) →
        (delimiter_from 0 bs < length bs → AtOrBefore bs (delimiter_from 0 bs) (index_of newline bs)) →
        AtOrBefore (b ∷ bs) (choose (t or n) 0 (suc (delimiter_from 0 bs))) (index_after n (index_of newline bs))
    go true true q h f = inl (eqb-true b newline q, refl)
    go true false q h f = inr (eqb-false b newline q, omega arith)
    go false true q h f = inl (eqb-true b newline q, refl)
    go false false q h f = ⊎_elim (λ x. inl (x.0, ap suc x.1)) (λ x. inr (x.0, omega (arith, x.1))) (f (le_of_suc-le-suc h))

-- the field and the line that begin at a place
module _ (s : List ℕ) (at : ℕ) (up : at ≤ length s) where
  rest : slice at (length s) s ≡ drop at s
  unfolding slice
  rest = ap (drop at) (take_all (length s) s (omega arith))

  end_is : line_end at s ≡ at + index_of newline (drop at s)
  unfolding line_end
  end_is = ap (λ (l : List ℕ). at + index_of newline l) rest

  size : length (drop at s) ≡ length s - at
  size = length-drop at s

  pub end_up : at ≤ line_end at s
  end_up = omega (arith, end_is)

  pub end_fits : line_end at s ≤ length s
  end_fits = omega (arith, end_is, index_le newline (drop at s), size)

  -- the field ends at the line's first tab, or with the line
  pub field_end : delimiter_from at s ≡ at + index_of tab (slice at (line_end at s) s)
  unfolding slice
  field_end =
      let part : take (index_of newline (drop at s)) (drop at s) ≡ drop at (take (line_end at s) s) = take_of_drop at (index_of newline (drop at s)) s ∙ ap (λ (k : ℕ). drop at (take k s)) (sym end_is) in
      from_drop at s up ∙ ap (λ (k : ℕ). at + k) (first_of_line (drop at s) ∙ ap (index_of tab) part)

  pub field_fits : delimiter_from at s ≤ line_end at s
  unfolding slice
  field_fits = omega (arith, field_end, index_le tab (slice at (line_end at s) s), length-slice at (line_end at s) s end_fits, end_up)

  -- the byte there: where it is a newline the line ends too, and else it stands before the line's end
  here : get_or s (delimiter_from at s) 0 ≡ get_or (drop at s) (delimiter_from 0 (drop at s)) 0
  here = ap (λ (k : ℕ). get_or s k 0) (from_drop at s up) ∙ sym (get_or-drop at s (delimiter_from 0 (drop at s)) 0)

  module _ (inside : delimiter_from at s < length s) where
    either : AtOrBefore (drop at s) (delimiter_from 0 (drop at s)) (index_of newline (drop at s))
    either = newline_or_before (drop at s) (omega (arith, from_drop at s up, size))

    pub at_newline : get_or s (delimiter_from at s) 0 ≡ 10 → delimiter_from at s ≡ line_end at s
    at_newline e = ⊎_elim (λ x. omega (arith, x.1, from_drop at s up, end_is)) (λ x. absurd (x.0 (sym here ∙ e))) either

    pub before_newline : (get_or s (delimiter_from at s) 0 ≡ 10 → ⊥) → delimiter_from at s < line_end at s
    before_newline n = ⊎_elim (λ x. absurd (n (here ∙ x.0))) (λ x. omega (arith, x.1, from_drop at s up, end_is)) either

-- behind a field that is not the last, the line ends where it did
pub end_behind : (s : List ℕ) (at q : ℕ) → at ≤ q → q < line_end at s → at ≤ length s → line_end (q + 1) s ≡ line_end at s
end_behind s at q h k up =
    let n : ℕ = index_of newline (drop at s) in
    let d : ℕ = q - at in
    let behind = index_behind newline d (drop at s) (omega (arith, end_is s at up)) in
    let place : at + suc d ≡ q + 1 = omega arith in
    let same : drop (suc d) (drop at s) ≡ drop (q + 1) s = drop-drop (suc d) at s ∙ ap (λ (m : ℕ). drop m s) place in
    let rest : suc d + index_of newline (drop (q + 1) s) ≡ n = ap (λ (l : List ℕ). suc d + index_of newline l) (sym same) ∙ behind in
    omega (arith, rest, end_is s at up, end_is s (q + 1) (omega (arith, end_fits s at up)))

-- a line that a newline ends, and one that none ends
pub ended_yes : (from : ℕ) (s : List ℕ) (l : Option Line) → line_end from s < length s → ended from s l ≡ l
unfolding ended choose
ended_yes from s l h = rw (lt-ltb (line_end from s) (length s) h)

pub ended_no : (from : ℕ) (s : List ℕ) (l : Option Line) → length s ≤ line_end from s → ended from s l ≡ none
unfolding ended choose
ended_no from s l h = rw (le-ltb (line_end from s) (length s) h)

pub ended_none : (from : ℕ) (s : List ℕ) → ended from s none ≡ none
unfolding ended choose
ended_none from s = go (ltb (line_end from s) (length s))
  where
    go : (t : Bool) → ◌≡◌ {A = Option Line} (choose t none none) none
    go true = refl
    go false = refl
