-- The bytes up to a place are digits that make a number which fits.
use mathlib.Core.Path.{sym}
use native.Mathlib.Omega.{arith}
use borrow.Author.Rules.{rules}
use borrow.Author.Tests.{eqb-true, eqb-false}
use Rattle.reading.proofs.NumberLaws.{empty, first, no_digit_at, digit_at, large_at, all_digits}
use Rattle.reading.proofs.fields.number_in.Goals as goal

pub returns-then-is_empty : goal.returns-then-is_empty
returns-then-is_empty c = sym (empty _ (eqb-true _ _ (sym c.if-is_empty.ensures)))

pub loop-b-init : goal.loop-b-init
loop-b-init c = (search rules, first _ (let e = eqb-false _ _ (sym c.if-is_empty.ensures) in omega (arith, e)))

pub returns-then-not-is_ascii_digit : goal.returns-then-not-is_ascii_digit
returns-then-not-is_ascii_digit c = sym (no_digit_at _ _ _ c.loop-b-test.true c.loop-b.invariant.1 (sym c.if-not-is_ascii_digit.ensures.value))

pub returns-then-from-v : goal.returns-then-from-v
returns-then-from-v c = sym (large_at _ _ _ c.loop-b-test.true c.loop-b.invariant.1 _ c.from.ensures (sym c.if-not-is_ascii_digit.ensures.value) (search rules))

pub loop-b-preserved : goal.loop-b-preserved
loop-b-preserved c = (search rules, digit_at _ _ _ c.loop-b-test.true c.loop-b.invariant.1 _ c.from.ensures (sym c.if-not-is_ascii_digit.ensures.value))

pub returns : goal.returns
returns c = all_digits _ _ _ c.loop-b.invariant.1 c.loop-b-test.false c.loop-b.invariant.0
