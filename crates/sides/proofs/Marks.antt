-- Laws of the marks of minted names: one for each way that the code goes.
use mathlib.Core.Path.{◌≡◌, refl, sym, ap, ◌∙◌}
use mathlib.Core.Bool.{Bool, true, false, false≢true}
use mathlib.Core.List.{List, [], ◌∷◌, ◌++◌}
use Prim.Native.Nat.{ℕ, ◌+◌, ◌-◌, ◌<◌, ◌≤◌}
use native.Mathlib.Numerals.{add-one}
use native.Mathlib.Omega.{arith}
use lib.ListN.{length, get_or, set, take}
use lib.Seq.{take-suc}
use Rattle.model.specs.Values.{is_minted}
use Rattle.model.specs.Step.{mark_of, mark1, mark_all}

-- where a name of side 1, and one of side 2, is marked
pub place_one : (w : ℕ) → 65536 ≤ w → w ≤ 65791 → w - 65536 ≡ mark_of w
place_one w h l = omega arith

pub place_two : (w : ℕ) → 131072 ≤ w → w ≤ 131327 → w - 130816 ≡ mark_of w
place_two w h l = omega arith

-- a word that is no minted name
pub no_mark : (w : ℕ) (r b : Bool) → false ≡ is_minted w → is_minted w ≡ true → r ≡ b
no_mark w r b p q = absurd (false≢true (p ∙ q))

pub mark_none : (l : List Bool) (w : ℕ) → false ≡ is_minted w → l ≡ mark1 l w
unfolding mark1
mark_none l w p = rw (← p)

pub mark_at : (l : List Bool) (w i : ℕ) → true ≡ is_minted w → i ≡ mark_of w → set l i true ≡ mark1 l w
unfolding mark1
mark_at l w i p e = rw (← p, e)

-- one more word
pub mark_append : (l : List Bool) (xs ys : List ℕ) → mark_all l (xs ++ ys) ≡ mark_all (mark_all l xs) ys
mark_append l [] ys = refl
mark_append l (x ∷ xs) ys = mark_append (mark1 l x) xs ys

pub mark_more : (l m r : List Bool) (ws : List ℕ) (k : ℕ) → k < length ws → m ≡ mark_all l (take k ws) → r ≡ mark1 m (get_or ws k 0) → r ≡ mark_all l (take (k + 1) ws)
mark_more l m r ws k h e p = p ∙ ap (λ (x : List Bool). mark1 x (get_or ws k 0)) e ∙ sym (rw (add-one, take-suc ws k 0) (mark_append l (take k ws) (get_or ws k 0 ∷ [])))
