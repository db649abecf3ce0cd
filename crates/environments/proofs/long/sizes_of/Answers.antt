use mathlib.Core.Path.{◌≡◌, refl, sym, ◌∙◌}
use Prim.Native.Nat.{◌+◌, ◌*◌}
use lib.ListN.{length, get_or}
use Rattle.environments.proofs.Slots.{size_short, size_is}
use borrow.Author.Rules.{rules}
use native.Mathlib.Omega.{arith}
use Rattle.environments.proofs.long.sizes_of.Goals as goal

pub by_names-requires : goal.by_names-requires
by_names-requires c =
    let e = c.args.e.now in
    let f = c.requires in
    let long = f.long in
    let few = f.few in
    (omega arith, (f, λ k h. let short = size_short e c.args.n f k h in search rules))

pub returns : goal.returns
returns c = c.by_names.ensures length 0 (λ k y h p. let q : y ≡ get_or c.args.e.now (8 + 17 * k) 0 = search rules in q ∙ sym (size_is c.args.e.now c.args.n c.requires k h)) (λ m h. refl)
