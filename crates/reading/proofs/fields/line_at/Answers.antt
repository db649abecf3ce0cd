-- The first field is the line's letter; it ends at a tab, with the line, or with the input.
use mathlib.Core.Path.{sym, ap, ◌∙◌}
use mathlib.Core.Logic.{⊎_elim}
use Prim.Native.Nat.{◌<◌}
use native.Mathlib.Omega.{arith}
use lib.ListN.{length}
use Rattle.reading.specs.Fields.{line_end, ended}
use Rattle.reading.proofs.EndLaws.{ended_yes, ended_no, ended_none}
use Rattle.reading.proofs.LineLaws.{inside, to_newline, to_tab, same_end, line_bad, line_alone, line_numbers, ended_same, ends_same}
use Rattle.reading.proofs.fields.line_at.Goals as goal

pub overflow_sub-q : goal.overflow_sub-q
overflow_sub-q c = (inside _ _ _ c.requires c.next_delimiter-q.ensures).0

-- the field is not one byte, or the input ends behind it
pub returns-then-q-from-ne1-clause-value : goal.returns-then-q-from-ne1-clause-value
returns-then-q-from-ne1-clause-value c =
    let is = c.next_delimiter-q.ensures in
    let i = inside _ _ _ c.requires is in
    sym (⊎_elim
    (λ e. ap (ended _ _) (line_bad _ _ _ c.requires is e) ∙ ended_none _ _)
    (λ e. ended_no _ _ _ (omega (arith, i.1, e.1)))
    c.then-q-from-ne1.either)

pub bounds-s-from : goal.bounds-s-from
bounds-s-from c =
    let i = inside _ _ _ c.requires c.next_delimiter-q.ensures in
    omega (arith, i.1, i.2, c.if-q-from-ne1.false)

pub bounds-s-q : goal.bounds-s-q
bounds-s-q c =
    let i = inside _ _ _ c.requires c.next_delimiter-q.ensures in
    omega (arith, i.1, i.2, c.if-q-s.false)

-- the line ends behind it
pub returns-then-s-q-eq10-clause-value : goal.returns-then-s-q-eq10-clause-value
returns-then-s-q-eq10-clause-value c =
    let a = c.args in
    let is = c.next_delimiter-q.ensures in
    let more = c.if-q-s.false in
    let last = to_newline _ _ _ c.requires is more c.if-s-q-eq10.true in
    let near : line_end a.from a.s.now < length a.s.now = omega (arith, last, more, (inside _ _ _ c.requires is).2) in
    sym (ended_yes _ _ _ near ∙ line_alone _ _ _ c.requires is last c.if-q-from-ne1.false)

pub returns-then-s-q-eq10-clause-ends : goal.returns-then-s-q-eq10-clause-ends
returns-then-s-q-eq10-clause-ends c =
    (to_newline _ _ _ c.requires c.next_delimiter-q.ensures c.if-q-s.false c.if-s-q-eq10.true, omega arith)

pub with_numbers-requires : goal.with_numbers-requires
with_numbers-requires c =
    let within = to_tab _ _ _ c.requires c.next_delimiter-q.ensures c.if-q-s.false c.if-s-q-eq10.false in
    omega (arith, within, (inside _ _ _ c.requires c.next_delimiter-q.ensures).2)

-- a tab stands behind it
pub returns-clause-value : goal.returns-clause-value
returns-clause-value c =
    let is = c.next_delimiter-q.ensures in
    let within = to_tab _ _ _ c.requires is c.if-q-s.false c.if-s-q-eq10.false in
    let line = line_numbers _ _ _ c.requires is within c.if-q-from-ne1.false in
    c.with_numbers.ensures.value ∙ ended_same _ _ _ _ (same_end _ _ _ c.requires is within) ∙ ap (ended _ _) (sym line)

pub returns-clause-ends : goal.returns-clause-ends
returns-clause-ends c =
    let is = c.next_delimiter-q.ensures in
    let within = to_tab _ _ _ c.requires is c.if-q-s.false c.if-s-q-eq10.false in
    ends_same _ _ _ _ (same_end _ _ _ c.requires is within) c.with_numbers.ensures.ends
