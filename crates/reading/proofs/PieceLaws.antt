-- The pieces of a part of a list: the first, up to where the parting number is found, and those behind it.
use mathlib.Core.Path.{◌≡◌, refl, sym, ap, ◌∙◌}
use mathlib.Core.Bool.{Bool, true, false}
use mathlib.Core.List.{List, [], ◌∷◌}
use Prim.Native.Nat.{ℕ, zero, suc, ◌+◌, ◌-◌, ◌<◌, ◌≤◌}
use native.Mathlib.Omega.{arith}
use borrow.Author.Tests.{ltb-true, ltb-false}
use lib.Dec.{ltb, eqb}
use lib.ListN.{length, take, drop}
use lib.Seq.{take-take, take_all, drop-drop, length-slice}
use Rattle.model.specs.Basics.{choose}
use Rattle.format.specs.Lines.{to_first, pieces}
use Rattle.format.specs.Bytes.{slice, index_of, index_after}
use Rattle.delimiters.proofs.SliceLaws.{take_of_drop}

-- a number that is nowhere in the list parts nothing
last_step : (c x : ℕ) (xs : List ℕ) (b : Bool) → index_after b (index_of c xs) ≡ suc (length xs) → (index_of c xs ≡ length xs → pieces c xs ≡ xs ∷ []) → choose b ([] ∷ pieces c xs) (to_first x (pieces c xs)) ≡ (x ∷ xs) ∷ []
unfolding index_after choose to_first
last_step c x xs true e h = let z : zero ≡ suc (length xs) = e in absurd (omega arith)
last_step c x xs false e h = let z : suc (index_of c xs) ≡ suc (length xs) = e in rw (h (omega arith))

last_piece : (c : ℕ) (l : List ℕ) → index_of c l ≡ length l → pieces c l ≡ l ∷ []
unfolding pieces index_of
last_piece c [] e = refl
last_piece c (x ∷ xs) e = last_step c x xs (eqb x c) e (last_piece c xs)

-- a number in the list parts it where the number is first found
next_step : (c x : ℕ) (xs : List ℕ) (b : Bool) → index_after b (index_of c xs) < suc (length xs) → (index_of c xs < length xs → pieces c xs ≡ take (index_of c xs) xs ∷ pieces c (drop (suc (index_of c xs)) xs)) →
    choose b ([] ∷ pieces c xs) (to_first x (pieces c xs)) ≡ take (index_after b (index_of c xs)) (x ∷ xs) ∷ pieces c (drop (suc (index_after b (index_of c xs))) (x ∷ xs))
unfolding index_after choose to_first
next_step c x xs true e h = refl
next_step c x xs false e h = let z : suc (index_of c xs) < suc (length xs) = e in rw (h (omega arith))

next_piece : (c : ℕ) (l : List ℕ) → index_of c l < length l → pieces c l ≡ take (index_of c l) l ∷ pieces c (drop (suc (index_of c l)) l)
unfolding pieces index_of
next_piece c [] e = absurd (omega arith)
next_piece c (x ∷ xs) e = next_step c x xs (eqb x c) e (next_piece c xs)

-- the part of a list from one place up to another, parted by c, which is found at q or not at all
module _ (c : ℕ) (s : List ℕ) (from to q : ℕ) (up : from ≤ to) (fits : to ≤ length s) (found : q ≡ from + index_of c (slice from to s)) where
  size : length (slice from to s) ≡ to - from
  unfolding slice
  size = length-slice from to s fits

  pub last : q ≡ to → pieces c (slice from to s) ≡ slice from q s ∷ []
  last e = rw e (last_piece c (slice from to s) (omega (arith, size)))

  pub next : q < to → pieces c (slice from to s) ≡ slice from q s ∷ pieces c (slice (q + 1) to s)
  unfolding slice
  next h =
      let k = index_of c (slice from to s) in
      let a : take k (slice from to s) ≡ slice from q s = take_of_drop from k (take to s) ∙ ap (λ (n : ℕ). drop from (take n (take to s))) (sym found) ∙ ap (drop from) (take-take q to s (omega arith)) in
      let m : from + suc k ≡ q + 1 = omega arith in
      let b : drop (suc k) (slice from to s) ≡ slice (q + 1) to s = drop-drop (suc k) from (take to s) ∙ ap (λ (n : ℕ). drop n (take to s)) m in
      next_piece c (slice from to s) (omega (arith, size)) ∙ cc

  -- whichever it is, the first piece ends at q
  pub first : q ≤ to → (fs : List (List ℕ)) × (pieces c (slice from to s) ≡ slice from q s ∷ fs)
  first h = go (ltb q to) refl
    where
      go : (b : Bool) → ltb q to ≡ b → (fs : List (List ℕ)) × (pieces c (slice from to s) ≡ slice from q s ∷ fs)
      go true e = (pieces c (slice (q + 1) to s), next (ltb-true q to e))
      go false e = ([], last (omega (arith, ltb-false q to e)))

-- a whole list as a part of itself
pub whole : (s : List ℕ) → slice 0 (length s) s ≡ s
unfolding slice
whole s = take_all (length s) s (omega arith)
