-- Document 01's trial of the number of nodes: 256 load, 257 give 1.
use Rattle.std.specs.Prelude.{◌≡◌, true, List, [], ℕ, zero, suc, ◌+◌}
use Rattle.model.specs.Load.{Composition, load, is_ok, refused}
use Rattle.model.specs.Trials.{node, filter, nothing_at_all}

-- n parallels, each with nil beside what follows, and nil last, from node k on: 2 n + 1 nodes
abbrev pub parallels : ℕ → ℕ → List ℕ
parallels zero k = nothing_at_all
parallels (suc n) k = node 1 (k + 1) (k + 2) 0 0 (node 0 0 0 0 0 (parallels n (k + 2)))

-- 255 nodes in a box, and in two
abbrev pub of256 : Composition
of256 = filter (node 2 5 1 0 0 (parallels 127 1)) []

abbrev pub of257 : Composition
of257 = filter (node 2 5 1 0 0 (node 2 5 2 0 0 (parallels 127 2))) []

unfoldable pub LargestTables : Type 0
LargestTables = (is_ok (load of256) ≡ true) × (load of257 ≡ refused (record { number = 1; side = 1; node = 0 }))
