-- `writing::numbers::put_number` meets its contract.
use mathlib.Core.Path.{◌∙◌}
use Rattle.writing.proofs.WrittenLaws.{spelled}
use Rattle.writing.proofs.DecimalLaws.{same_digits, at_most}
use native.Mathlib.Omega.{arith}
use Rattle.writing.proofs.numbers.put_number.Goals as goal

pub returns-clause-written : goal.returns-clause-written
returns-clause-written c =
    let a = c.args in
    let digits = c.decimal-k.ensures in
    let k = c.decimal-k.result in
    let wide = at_most 20 k a.n (omega arith) (omega arith) digits.len in
    spelled (digits.digits ∙ same_digits 20 k a.n digits.len wide) c.put.ensures

pub returns-clause-upper_bound_2 : goal.returns-clause-upper_bound_2
returns-clause-upper_bound_2 c h =
    let digits = c.decimal-k.ensures in
    omega (arith, at_most 10 c.decimal-k.result c.args.n (omega arith) (omega arith) digits.len, c.put.ensures.end, digits.in_bounds)
