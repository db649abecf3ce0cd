-- `tables::pool::names_at` meets its contract.
use mathlib.Core.Path.{ap, ◌∙◌}
use mathlib.Core.List.{List}
use Prim.Native.Nat.{ℕ}
use lib.ListN.{length}
use Rattle.model.specs.Values.{binders, is_pattern_leaf}
use Rattle.values.specs.Span.{leaf_of}
use Rattle.tables.proofs.PoolLaws.{words_few}
use native.Mathlib.Omega.{arith}
use Rattle.tables.proofs.pool.names_at.Goals as goal

pub returns : goal.returns
unfolding leaf_of
returns c =
    let a = c.args in
    let r = c.names_in.ensures in
    (r.0 ∙ ap (λ (s : List ℕ). length (binders s)) c.words_at.ensures, omega (arith, r.1, ap length c.words_at.ensures, words_few is_pattern_leaf a.pool.now a.p))
