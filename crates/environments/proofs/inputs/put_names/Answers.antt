use mathlib.Core.Path.{◌≡◌, ap}
use mathlib.Core.List.{List}
use Prim.Native.Nat.{ℕ}
use lib.ListN.{length}
use Rattle.environments.proofs.Waiting.{names_taken, names_stored}
use borrow.Author.Rules.{rules}
use native.Mathlib.Omega.{arith}
use Rattle.environments.proofs.inputs.put_names.Goals as goal

pub returns : goal.returns
returns c =
    let w = c.args.w in
    let full : length w.rows ≡ 8 = search (rules, c.well_formed) in
    let taken = names_taken w.rows w.top _ full c.min.ensures in
    (ap (λ (x : List ℕ). length x) taken, names_stored w.rows w.top _ full c.min.ensures c.args.e.now _ (omega (arith, c.requires)) c.copy_from_slice.ensures.after)
