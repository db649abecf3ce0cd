-- Which words are items by themselves, and where items end: places instead of the lists that are left.
use Rattle.std.specs.Prelude.{Bool, List, ℕ, ◌+◌, ◌-◌, length, drop}
use Rattle.std.specs.declared.option.Option.{Option}
use Rattle.std.specs.declared.option.Option.TheVariants.{None, Some}
use Rattle.model.specs.Basics.{Res, refuse, done}
use Rattle.model.specs.Values.{items, is_public, is_pattern_leaf, is_name, rest_of}
use Rattle.values.specs.declared.Leaf.{Leaf}
use Rattle.values.specs.declared.Leaf.TheVariants.{Public, Pattern, Name}

-- the words that are items by themselves: a table's names in a value of a table; those and the wildcard in a pattern; public
-- and minted names in a value that a step handles
unfoldable pub leaf_of : Leaf → ℕ → Bool
leaf_of Public w = is_public w
leaf_of Pattern w = is_pattern_leaf w
leaf_of Name w = is_name w

-- the place in s that is left by an answer of `items` on the words from place i on
abbrev pub found : List ℕ → ℕ → Res (List ℕ) → Option ℕ
found s i (refuse e) = None
found s i (done r) = Some (i + (length (drop i s) - length r))

-- where n items (values, or patterns) from place i on end; none where `items` refuses
unfoldable pub span_of : (ℕ → Bool) → List ℕ → ℕ → ℕ → Option ℕ
span_of leaf s i n = found s i (items leaf 5 (drop i s) n)

-- where the first value of the words from place j on ends, by what `rest_of` leaves of them
unfoldable pub end_of : List ℕ → ℕ → ℕ
end_of v j = j + (length (drop j v) - length (rest_of (drop j v)))

-- how many words the value or pattern has that `at` found in the pool; none where it found none
abbrev pub size_of : Res (List ℕ) → Option ℕ
size_of (refuse n) = None
size_of (done ws) = Some (length ws)
