-- A part of a list: what is taken behind what is dropped, and the elements there.
use mathlib.Core.Path.{◌≡◌, sym, ap, ◌∙◌}
use mathlib.Core.List.{List, [], ◌∷◌}
use Prim.Native.Nat.{ℕ, zero, suc, ◌+◌, ◌<◌}
use native.Mathlib.Nat.{zero-add, suc-add}
use lib.ListN.{get_or, take, drop}
use lib.Seq.{take-nil, drop-nil, get_or-drop, get_or-take}
use Rattle.format.specs.Bytes.{slice}

pub take_of_drop : (f k : ℕ) (l : List ℕ) → take k (drop f l) ≡ drop f (take (f + k) l)
take_of_drop zero k l = rw zero-add
take_of_drop (suc f) k [] = take-nil k ∙ sym (ap (drop (suc f)) (take-nil (suc f + k)) ∙ drop-nil (suc f))
take_of_drop (suc f) k (x ∷ xs) = rw suc-add (take_of_drop f k xs)

pub get_d_slice : (from to : ℕ) (l : List ℕ) (k : ℕ) → from + k < to → get_or (slice from to l) k 0 ≡ get_or l (from + k) 0
unfolding slice
get_d_slice from to l k h = get_or-drop from (take to l) k 0 ∙ get_or-take to l (from + k) 0 h
