-- `writing::refused` meets its contract.
use mathlib.Core.List.{[], ◌∷◌}
use Rattle.writing.proofs.WrittenLaws.{joined, spelled, paged}
use Rattle.writing.proofs.FieldLaws.{fields_joined}
use borrow.Author.Rules.{rules}
use Rattle.writing.proofs.refused.Goals as goal

pub returns : goal.returns
returns c =
    let a = c.args in
    let field = c.put_field-b.ensures in
    let second = c.put_field-c.ensures in
    let third = c.put_field-d.ensures in
    let first = c.put-a.ensures in
    let last = c.put.ensures in
    let two = spelled (fields_joined (a.number ∷ []) (a.side ∷ [])) (joined field.written second.written) in
    let three = spelled (fields_joined (a.number ∷ a.side ∷ []) (a.node ∷ [])) (joined two third.written) in
    paged (joined (joined first three) last) (search rules) (search rules)
