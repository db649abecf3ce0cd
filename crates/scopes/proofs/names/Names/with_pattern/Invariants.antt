-- `scopes::names::Names::with_pattern` meets its contract.
use mathlib.Core.Path.{◌≡◌}
use mathlib.Core.List.{◌++◌}
use lib.ListN.{drop}
use Rattle.model.specs.Values.{binders}
use Rattle.scopes.specs.Names.{view_names, last_eight}
use Rattle.scopes.proofs.names.Names.with_pattern.Given as goal

abbrev pub invariant-loop-i : goal.invariant-loop-i
invariant-loop-i l = view_names l.r ≡ last_eight (binders (drop l.i l.s) ++ view_names l.initial.r)
