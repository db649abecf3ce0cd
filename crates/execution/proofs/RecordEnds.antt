-- Where a record ends, and the steps of a list by where theirs do.
use mathlib.Core.Path.{◌≡◌, refl, sym, ap, ◌∙◌}
use mathlib.Core.Bool.{Bool, true, false}
use mathlib.Core.List.{List}
use mathlib.Core.Option.{none}
use Prim.Native.Nat.{ℕ, ◌+◌, ◌<◌, ◌≤◌}
use native.Mathlib.Omega.{arith}
use borrow.Author.Tests.{le-leb, lt-leb, leb-true, leb-false}
use lib.Dec.{leb}
use lib.ListN.{length, get_or, drop}
use Rattle.std.specs.Prelude.{Some, None}
use Rattle.std.proofs.lemmas.Option.{none-some, same_Some}
use Rattle.model.specs.Basics.{choose}
use Rattle.format.specs.Words.{before, steps_of, step_at}
use Rattle.format.proofs.StepWords.{steps_next, steps_short, steps_cut}
use Rattle.execution.specs.Execution.{record_end, StepStands}

module _ (b : ℕ) (l : List ℕ) (p : ℕ) where
  abbrev last : ℕ
  last = p + b + 1 + get_or l (p + b) 0

  by_test : (t : Bool) → leb last (length l) ≡ t → record_end b l p ≡ choose t (Some last) None
  unfolding record_end
  by_test t e = ap (λ (x : Bool). choose x (Some last) None) e

  pub ends_at : last ≤ length l → record_end b l p ≡ Some last
  unfolding choose
  ends_at h = by_test true (le-leb last (length l) h)

  pub breaks_off_lem : length l < last → record_end b l p ≡ None
  unfolding choose
  breaks_off_lem h = by_test false (lt-leb last (length l) h)

  -- and from what is found
  pub found_end : (e : ℕ) → record_end b l p ≡ Some e → (e ≡ last) × (last ≤ length l)
  unfolding choose
  found_end e q = by (leb last (length l)) refl
    where
      by : (t : Bool) → leb last (length l) ≡ t → (e ≡ last) × (last ≤ length l)
      by true z = (same_Some _ _ (sym q ∙ by_test true z), leb-true last (length l) z)
      by false z = absurd (none-some _ (sym (by_test false z) ∙ q))

  pub found_none : record_end b l p ≡ None → length l < last
  unfolding choose
  found_none q = by (leb last (length l)) refl
    where
      by : (t : Bool) → leb last (length l) ≡ t → length l < last
      by true z = absurd (none-some _ (sym q ∙ by_test true z))
      by false z = leb-false last (length l) z

-- THE STEPS FROM A PLACE ON
-- one whose record is found, before the others
pub steps_found : (l : List ℕ) (p e : ℕ) → record_end 4 l p ≡ Some e → steps_of (drop p l) ≡ before (step_at l p) (steps_of (drop e l))
steps_found l p e f =
    let at = found_end 4 l p e f in
    let behind : p + 5 + get_or l (p + 4) 0 ≡ e = omega (arith, at.0) in
    steps_next l p (omega (arith, at.1)) (omega (arith, at.1)) ∙ ap (λ (x : ℕ). before (step_at l p) (steps_of (drop x l))) behind

pub stands : (l : List ℕ) (p e : ℕ) → record_end 4 l p ≡ Some e → StepStands l p
stands l p e f = let at = found_end 4 l p e f in record { head = omega (arith, at.1); fits = omega (arith, at.1) }

-- none is found, though words are left: the list breaks off
pub steps_broken : (l : List ℕ) (p : ℕ) → p < length l → record_end 4 l p ≡ None → steps_of (drop p l) ≡ none
steps_broken l p a f = by (leb (p + 5) (length l)) refl
  where
    off : length l < p + 4 + 1 + get_or l (p + 4) 0
    off = found_none 4 l p f

    by : (t : Bool) → leb (p + 5) (length l) ≡ t → steps_of (drop p l) ≡ none
    by true e = let y = leb-true (p + 5) (length l) e in steps_cut l p y (omega (arith, off))
    by false e = steps_short l p a (leb-false (p + 5) (length l) e)
