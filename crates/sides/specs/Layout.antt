-- A side's words, 5,184: its particles, 32 rows of 144; from 4,608 on its boxes, 16 of two words, a name and a parent; from 4,640
-- on its shelf, 32 places for values. A row's words: 0 is 1 for an output; 1 box, 2 channel, 3 and 4 tag, 5 node, 6 how many
-- values, 7 unused; from 8 on eight places for values. A place has 17 words: a length, then at most 16 words.
use Rattle.std.specs.Prelude.{◌≡◌, Bool, cond, List, [], ◌∷◌, map, ℕ, zero, suc, ◌≤◌, leb, eqb, get_or, take, drop}
use Rattle.model.specs.Basics.{◌&◌, every}
use Rattle.model.specs.Side.{Tag, within, to_parent, from_parent, to_child, from_child, Particle, output, input, Box}
use Rattle.values.specs.Env.{view_value}
use Rattle.values.specs.declared.Value.{Value}
use Rattle.sides.specs.Views.{view_tag}
use Rattle.sides.specs.declared.Output.{Output}

-- n parts of w words each, from the first word on
unfoldable pub parts : (w n : ℕ) → List ℕ → List (List ℕ)
parts w zero l = []
parts w (suc n) l = take w l ∷ parts w n (drop w l)

-- the 32 rows of a side
abbrev pub rows_of : List ℕ → List (List ℕ)
rows_of l = parts 144 32 l

-- row i of them
abbrev pub row_at : List ℕ → ℕ → List ℕ
row_at l i = get_or (rows_of l) i []

-- the places for values of a row
abbrev pub places_of : List ℕ → List (List ℕ)
places_of r = parts 17 8 (drop 8 r)

-- the value in a place
unfoldable pub view_place : List ℕ → List ℕ
view_place v = take (get_or v 0 0) (drop 1 v)

-- a tag by its two words
unfoldable pub tag_of : (kind name : ℕ) → Tag
tag_of k n = cond (eqb k 0) within (cond (eqb k 1) to_parent (cond (eqb k 2) from_parent (cond (eqb k 3) (to_child n) (from_child n))))

-- the tag of an output's row
abbrev pub tag_in : List ℕ → Tag
tag_in r = tag_of (get_or r 3 0) (get_or r 4 0)

-- a row as a particle: an output's value is in the first place, a waiting input's values are in the first places
unfoldable pub view_row : List ℕ → Particle
view_row r =
    cond (eqb (get_or r 0 0) 1) (output (get_or r 1 0) (get_or r 2 0) (tag_in r) (view_place (get_or (places_of r) 0 [])))
    (input (get_or r 1 0) (get_or r 5 0) (map view_place (take (get_or r 6 0) (places_of r))))

-- a value's length is within its place
unfoldable pub fits_place : List ℕ → Bool
fits_place v = leb (get_or v 0 0) 16

-- an output's value's is, an input's values are
unfoldable pub fits_row : List ℕ → Bool
fits_row r = cond (eqb (get_or r 0 0) 1) (fits_place (get_or (places_of r) 0 [])) (leb (get_or r 6 0) 8 & every fits_place (take (get_or r 6 0) (places_of r)))

-- the first n rows as particles
abbrev pub view_rows : List ℕ → ℕ → List Particle
view_rows l n = map view_row (take n (rows_of l))

-- the number of particles and each held row are within their arrays
abbrev pub fits_rows : List ℕ → ℕ → Bool
fits_rows l n = leb n 32 & every fits_row (take n (rows_of l))

-- the 16 boxes of a side
abbrev pub boxes_of : List ℕ → List (List ℕ)
boxes_of l = parts 2 16 (drop 4608 l)

-- the words of a box
abbrev pub view_box : List ℕ → Box
view_box b = record { name = get_or b 0 0; parent = get_or b 1 0 }

-- the first n boxes
abbrev pub view_boxes : List ℕ → ℕ → List Box
view_boxes l n = map view_box (take n (boxes_of l))

-- the 32 places of a side's shelf
abbrev pub shelf_of : List ℕ → List (List ℕ)
shelf_of l = parts 17 32 (drop 4640 l)

-- the values in the first n of them
abbrev pub view_shelf : List ℕ → ℕ → List (List ℕ)
view_shelf l n = map view_place (take n (shelf_of l))

-- the number of values on the shelf and each held one's length are within their arrays
abbrev pub fits_shelf : List ℕ → ℕ → Bool
fits_shelf l n = leb n 32 & every fits_place (take n (shelf_of l))

-- an output struct as a particle
abbrev pub view_output : Output → Particle
view_output o = output o.at o.channel (view_tag o.tag) (view_value o.value)

-- the struct r holds the words x
pub record ValueIs (x : List ℕ) (r : Value) : Type 0 where
  pub view : view_value r ≡ x
  pub short : r.len ≤ 16
