-- A match with its places and parts, as `matches` gives it.
use Rattle.std.specs.Prelude.{List, ◌++◌, map, ℕ, take, drop}
use Rattle.std.specs.declared.option.Option.{Option}
use Rattle.std.specs.declared.option.Option.TheVariants.{None, Some}
use Rattle.model.specs.Basics.{Res, refuse, done}
use Rattle.model.specs.Values.{Fit}
use Rattle.values.specs.declared.Part.{Part}
use Rattle.values.specs.declared.Bound.{Bound}
use Rattle.values.specs.declared.Matched.{Matched}

-- the words of a part of the value v
abbrev pub part_of : List ℕ → Part → List ℕ
part_of v p = take p.len (drop p.start v)

-- the values bound: the words of the parts stored
abbrev pub view_bound : List ℕ → Bound → List (List ℕ)
view_bound v b = map (part_of v) (take b.n b.rows)

-- what a match leaves of a pattern and of a value, with the values bound
abbrev pub fit : List ℕ → List ℕ → List (List ℕ) → Fit
fit p v bs = record { pattern = p; value = v; bound = bs }

-- the answer to matching the pattern p with the value v; 14 where the pattern does not take the value
unfoldable pub fit_of : List ℕ → List ℕ → Option Matched → Res Fit
fit_of p v None = refuse 14
fit_of p v (Some m) = done (fit (drop m.pattern p) (drop m.value v) (view_bound v m.bound))

-- a match after the values bs were bound, as an array of eight stores it: these and then its own, the first eight of them
unfoldable pub stored_after : List (List ℕ) → Res Fit → Res Fit
stored_after bs (refuse n) = refuse n
stored_after bs (done m) = done (fit m.pattern m.value (take 8 (bs ++ m.bound)))
