use mathlib.Core.Path.{ap, subst, ◌∙◌}
use mathlib.Core.List.{List}
use Prim.Native.Nat.{ℕ}
use Rattle.sides.specs.Layout.{view_place, fits_place, ValueIs}
use Rattle.sides.proofs.Parts.{part_behind}
use borrow.Author.Rules.{rules}
use Rattle.sides.proofs.shelf.shelf_value.Goals as goal

pub value_in-requires : goal.value_in-requires
value_in-requires c =
    (search rules, ap fits_place (part_behind 17 32 4640 c.args.rows.now c.args.i c.requires.1) ∙ c.requires.2)

pub returns : goal.returns
returns c =
    subst (λ (v : List ℕ). ValueIs (view_place v) c.value_in.result) (part_behind 17 32 4640 c.args.rows.now c.args.i c.requires.1) c.value_in.ensures
