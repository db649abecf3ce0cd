-- `tables::pool::words_at` meets its contract.
use mathlib.Core.Path.{◌≡◌, sym, ap, ◌∙◌}
use Prim.Native.Nat.{ℕ, ◌+◌, ◌-◌}
use lib.ListN.{take, drop}
use Rattle.tables.proofs.PoolLaws.{words_found, words_bad}
use native.Mathlib.Omega.{arith}
use Rattle.tables.proofs.pool.words_at.Goals as goal

pub returns-in-Some : goal.returns-in-Some
returns-in-Some c =
    let a = c.args in
    let e : a.p + c.in-Some.k - a.p ≡ c.in-Some.k = omega arith in
    ap (λ (j : ℕ). take j (drop a.p a.pool.now)) e ∙ sym (words_found _ a.pool.now _ _ c.in-Some.ensures).0

pub returns-in-None : goal.returns-in-None
returns-in-None c = sym (words_bad _ c.args.pool.now _ c.in-None.ensures)
