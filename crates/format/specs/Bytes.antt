-- Parts of a list of bytes, and where a byte stands in it.
use Rattle.std.specs.Prelude.{Bool, true, false, List, [], ◌∷◌, ℕ, zero, suc, eqb, take, drop}

-- the bytes from one place up to another
unfoldable pub slice : (from to : ℕ) → List ℕ → List ℕ
slice from to s = drop from (take to s)

-- a byte's place in a list, from whether it stands first and from its place in the rest
unfoldable pub index_after : Bool → ℕ → ℕ
index_after true n = zero
index_after false n = suc n

-- the place of the first c, or the length where there is none
unfoldable pub index_of : ℕ → List ℕ → ℕ
index_of c [] = zero
index_of c (b ∷ bs) = index_after (eqb b c) (index_of c bs)
