-- The words at the place are those to the end of the pool, or sixteen of them, or none.
use mathlib.Core.Path.{◌≡◌, ◌∙◌}
use mathlib.Core.Logic.{⊎_elim}
use Prim.Native.Nat.{◌-◌, ◌≤◌}
use lib.ListN.{length, drop, length-drop}
use lib.Seq.{take_all}
use native.Mathlib.Omega.{arith}
use Rattle.values.proofs.Spans.{size_past, size_of_rest}
use Rattle.values.proofs.size_at.Goals as goal

pub returns-in_err-rest : goal.returns-in_err-rest
returns-in_err-rest c =
    let a = c.args in
    let past : length a.pool.now ≤ a.p = ⊎_elim (λ h. omega arith) (λ h. omega arith) c.in_err-rest.ensures.lookup.0 in
    c.from_residual.ensures ∙ size_past _ a.pool.now a.p past

pub returns : goal.returns
returns c =
    let a = c.args in
    let part = c.in_ok-rest.ensures.lookup.0 in
    let rest : c.in_ok-rest.rest.now ≡ drop a.p a.pool.now = part.2 ∙ take_all (length a.pool.now - a.p) _ (omega (arith, length-drop a.p a.pool.now)) in
    c.item_end.ensures ∙ size_of_rest _ a.pool.now a.p _ _ rest c.min.ensures
