use mathlib.Core.Path.{ap, subst, ◌∙◌}
use mathlib.Core.List.{List}
use Prim.Native.Nat.{ℕ}
use Rattle.sides.specs.Layout.{view_place, fits_place, ValueIs}
use Rattle.sides.proofs.Reading.{place_lent}
use borrow.Author.Rules.{rules}
use Rattle.sides.proofs.list.value_at.Goals as goal

pub value_in-requires : goal.value_in-requires
value_in-requires c =
    (search rules, ap fits_place (place_lent c.args.rows.now c.args.i c.args.k c.requires.1 c.requires.2) ∙ c.requires.3)

pub returns : goal.returns
returns c =
    subst (λ (v : List ℕ). ValueIs (view_place v) c.value_in.result) (place_lent c.args.rows.now c.args.i c.args.k c.requires.1 c.requires.2) c.value_in.ensures
