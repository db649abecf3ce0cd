use Rattle.std.proofs.Common.{rules}
use Rattle.tables.proofs.PoolLaws.{pattern_by}
use Rattle.tables.proofs.pool.pattern_ok.Goals as goal

pub returns : goal.returns
returns c = pattern_by c.args.pool.now c.args.p (λ k. _) _ _ c.size_at.ensures c.is_some_and.ensures (λ k h. search rules)
