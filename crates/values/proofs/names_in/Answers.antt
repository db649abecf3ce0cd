use mathlib.Core.Path.{◌≡◌}
use lib.ListN.{length}
use Rattle.std.specs.List.{filter}
use Rattle.std.proofs.lemmas.Iterator.{YieldsList-from_slice}
use Rattle.std.proofs.lemmas.Iterator.Consumers.{count_from_yields_List, YieldsList-from_filter}
use Rattle.std.proofs.lemmas.List.Sums.{length-filter, count_by-le-length}
use Rattle.std.proofs.Common.{rules, tests}
use Rattle.model.specs.Values.{is_public}
use Rattle.values.proofs.Names.{binders_filter}
use native.Mathlib.Omega.{arith}
use Rattle.values.proofs.names_in.Goals as goal

pub returns : goal.returns
returns c =
    let s = c.args.s.now in
    let count : c.count.result ≡ length (filter is_public s) =
    count_from_yields_List c.filter.result _ c.count.ensures.ran (YieldsList-from_filter _ is_public (YieldsList-from_slice s cc) c.filter.ensures.closure (λ x b q k. search (rules, tests))) in
    (rw (binders_filter s) count, omega (arith, length-filter is_public s, count_by-le-length is_public s))
