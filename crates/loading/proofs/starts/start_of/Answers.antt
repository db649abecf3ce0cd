use mathlib.Core.Path.{refl, sym, subst}
use mathlib.Core.List.{List}
use Prim.Native.Nat.{ℕ}
use lib.ListN.{replicate}
use Rattle.tables.specs.Nodes.{table}
use Rattle.unfolding.specs.Unfolded.{CanUnfold}
use Rattle.loading.proofs.Starting.{first, can_start, start_is}
use Rattle.loading.proofs.starts.start_of.Goals as goal

pub unfold_at-u-requires : goal.unfold_at-u-requires
unfold_at-u-requires c =
    let t = table c.args.nodes.now c.args.pool.now in
    let i = c.args.side in
    let l = c.args.rows.now in
    let e : List ℕ = replicate 144 0 in
    subst (λ (w : List ℕ). CanUnfold t i 0 0 e 0 w first) (sym c.put_box.ensures) (can_start i t l e c.requires.0 c.requires.1 refl)

pub returns : goal.returns
returns c =
    let t = table c.args.nodes.now c.args.pool.now in
    let i = c.args.side in
    let l = c.args.rows.now in
    let e : List ℕ = replicate 144 0 in
    let u = c.unfold_at-u in
    let box = c.put_box.ensures in
    let empty = c.empty in
    start_is i t l _ e _ _ u.result empty.result _ c.requires.0 c.requires.1 box u.ensures empty.ensures c.put_into.ensures
