-- A route's source as the code answers it.
use Rattle.std.specs.Prelude.{ℕ, Option, Some, None}
use Rattle.model.specs.Basics.{Res, refuse, done}
use Rattle.model.specs.Wrapper.{Route, Wrapper}
use Rattle.model.specs.Step.{route_to}

-- a route's source; none where there is no route
abbrev pub source_by : Res Route → Option ℕ
source_by (refuse n) = None
source_by (done r) = Some r.source

-- the side that side n takes from with this j
abbrev pub source_for : Wrapper → (n j : ℕ) → Option ℕ
source_for w n j = source_by (route_to w.routes n j)
