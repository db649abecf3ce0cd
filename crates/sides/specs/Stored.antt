-- All words after each function that writes, as runs of stores over the words before. `a` is where a row or a place begins.
use Rattle.std.specs.Prelude.{List, [], ◌∷◌, ℕ, ◌+◌, ◌-◌, ◌*◌, length, take, drop, set}
use Rattle.std.proofs.lemmas.List.Edits.{sets}
use Rattle.values.specs.Env.{view_value}
use Rattle.sides.specs.declared.Tag.{Tag}
use Rattle.sides.specs.declared.Tag.TheVariants.{Within, ToParent, FromParent, ToChild, FromChild}
use Rattle.sides.specs.declared.Output.{Output}

-- the first word of a tag: which of the five it is
unfoldable pub kind_of : Tag → ℕ
kind_of Within = 0
kind_of ToParent = 1
kind_of FromParent = 2
kind_of (ToChild n) = 3
kind_of (FromChild n) = 4

-- its second word: the child that it names, 0 where it names none
unfoldable pub name_of : Tag → ℕ
name_of Within = 0
name_of ToParent = 0
name_of FromParent = 0
name_of (ToChild n) = n
name_of (FromChild n) = n

-- a value in the place at a: its length, then its words
unfoldable pub placed : List ℕ → (a : ℕ) → List ℕ → List ℕ
placed l a x = sets l a (length x ∷ x)

-- the first five words of an output in the row at a
unfoldable pub head_put : List ℕ → (a box channel : ℕ) → Tag → List ℕ
head_put l a box channel t = sets l a (1 ∷ box ∷ channel ∷ kind_of t ∷ name_of t ∷ [])

-- an output in the row at a: those words, and its value in the first place
unfoldable pub sent_put : List ℕ → (a box channel : ℕ) → Tag → List ℕ → List ℕ
sent_put l a box channel t x = placed (head_put l a box channel t) (a + 8) x

-- an output struct in the row at a
unfoldable pub output_put : List ℕ → (a : ℕ) → Output → List ℕ
output_put l a o = sent_put l a o.at o.channel o.tag (view_value o.value)

-- the output in the row at a, in another box and with another tag
unfoldable pub moved_to : List ℕ → (a box : ℕ) → Tag → List ℕ
moved_to l a box t = sets (set l (a + 1) box) (a + 3) (kind_of t ∷ name_of t ∷ [])

-- the first n values of the row, or the environment, r in the places of the row at a
unfoldable pub values_put : List ℕ → (a : ℕ) → List ℕ → (n : ℕ) → List ℕ
values_put l a r n = sets l (a + 8) (take (17 * n) (drop 8 r))

-- a waiting input in the row at a, with the first n values of e
unfoldable pub input_put : List ℕ → (a box node : ℕ) → List ℕ → (n : ℕ) → List ℕ
input_put l a box node e n = values_put (sets (sets l a (0 ∷ box ∷ [])) (a + 5) (node ∷ n ∷ [])) a e n

-- row i of n gone: the words of the rows above it, stored a row further down
unfoldable pub row_gone : List ℕ → (i n : ℕ) → List ℕ
row_gone l i n = sets l (144 * i) (take (144 * (n - 1 - i)) (drop (144 * i + 144) l))

-- box j: its name and its parent
unfoldable pub box_put : List ℕ → (j name parent : ℕ) → List ℕ
box_put l j name parent = sets l (4608 + 2 * j) (name ∷ parent ∷ [])

-- a value in place i of the shelf
unfoldable pub shelf_put : List ℕ → (i : ℕ) → List ℕ → List ℕ
shelf_put l i x = placed l (4640 + 17 * i) x
