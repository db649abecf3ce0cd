use mathlib.Core.Path.{◌≡◌, sym, ap, ◌∙◌}
use mathlib.Core.Bool.{Bool, true, cond}
use Prim.Native.Nat.{◌-◌}
use Rattle.model.specs.Wrapper.{described, has_side}
use Rattle.loading.proofs.Starting.{has_number}
use Rattle.execution.proofs.making.place_asked.Goals as goal

pub place_of-requires : goal.place_of-requires
place_of-requires c =
    let has : has_side (described c.args.wrapper) c.args.side ≡ true = sym c.has_side.ensures ∙ c.if-has_side.true in
    let a = c.args in (has_number a.wrapper a.side has).0

pub returns-then-has_side : goal.returns-then-has_side
returns-then-has_side c =
    let has : has_side (described c.args.wrapper) c.args.side ≡ true = sym c.has_side.ensures ∙ c.if-has_side.true in
    c.place_of.ensures ∙ ap (λ (t : Bool). cond t (c.args.side - 1) 0) (sym has)

pub returns-else-has_side : goal.returns-else-has_side
returns-else-has_side c = ap (λ (t : Bool). cond t (c.args.side - 1) 0) (sym c.if-has_side.false ∙ c.has_side.ensures)
