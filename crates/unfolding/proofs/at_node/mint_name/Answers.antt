use mathlib.Core.Path.{ap, ◌∙◌}
use mathlib.Core.List.{[], ◌∷◌}
use Prim.Native.Nat.{ℕ, ◌+◌, ◌*◌}
use Rattle.sides.specs.Environments.{bound}
use borrow.Author.Rules.{rules}
use Rattle.unfolding.proofs.at_node.mint_name.Goals as goal

pub returns : goal.returns
returns c =
    let a = c.args in
    let field = c.field_at.ensures in
    (search rules, λ pool. c.bind_name.ensures ∙ ap (λ (x : ℕ). bound a.e.now a.d x ((65536 * a.side + a.c.minted) ∷ [])) (field pool))
