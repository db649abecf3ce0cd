-- Refusal 15 by a set of names: those that are bound to a tuple.
use Rattle.std.specs.Prelude.{Bool, true, false, not, List, [], ◌∷◌, ℕ, zero, suc, get_or, set}
use Rattle.model.specs.Basics.{◌&◌}
use Rattle.model.specs.Values.{binders}
use Rattle.model.specs.Table.{Table, Term, nil, par, box, new, out, inp, term}

-- a name is not in the set
abbrev pub name_clear : List Bool → ℕ → Bool
name_clear ts x = not (get_or ts x false)

-- a tag word, 2 + n for the child box named n, names no name in the set
abbrev pub tag_clear : List Bool → ℕ → Bool
tag_clear ts zero = true
tag_clear ts (suc zero) = true
tag_clear ts (suc (suc n)) = name_clear ts n

-- the set without some names
abbrev pub hide : List Bool → List ℕ → List Bool
hide ts [] = ts
hide ts (n ∷ ns) = hide (set ts n false) ns

-- no name in the set is free as a channel, tag or box name; an inner binder hides the name
unfoldable pub clear_in : Term → List Bool → Bool
clear_in (nil n) ts = true
clear_in (par n l r) ts = clear_in l ts & clear_in r ts
clear_in (box n x a) ts = name_clear ts x & clear_in a ts
clear_in (new n x a) ts = clear_in a (set ts x false)
clear_in (out n c g v) ts = name_clear ts c & tag_clear ts g
clear_in (inp n r c g p a) ts = (name_clear ts c & tag_clear ts g) & clear_in a (hide ts (binders p))

-- the same of the term at a node
unfoldable pub clear_at : Table → ℕ → List Bool → Bool
clear_at t n ts = clear_in (term t n) ts
