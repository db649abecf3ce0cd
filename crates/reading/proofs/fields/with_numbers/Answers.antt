-- The fields up to a place are numbers, which the words hold.
use mathlib.Core.Path.{◌≡◌, sym, ap, ◌∙◌}
use mathlib.Core.Logic.{⊎_elim}
use mathlib.Core.Option.{some}
use Prim.Native.Nat.{◌<◌}
use native.Mathlib.Omega.{arith}
use lib.ListN.{length, take, length-set}
use Rattle.format.specs.Lines.{number}
use Rattle.format.specs.Bytes.{slice}
use Rattle.reading.specs.Fields.{option_of, view_line, line_end, ended}
use Rattle.reading.proofs.EndLaws.{ended_yes, ended_no, ended_none}
use Rattle.reading.proofs.LineLaws.{line, before_all, push_in, push_out, inside, field_is, to_newline, to_tab, same_end, field_bad, field_full, field_last, field_next}
use borrow.Author.Rules.{rules}
use Rattle.reading.proofs.fields.with_numbers.Goals as goal
use Rattle.reading.proofs.fields.with_numbers.Goals.{In_ok-w}

-- the field's number
number_is : (c : In_ok-w) → number (slice c.loop-w.at c.next_delimiter-q.result c.args.s.now) ≡ some c.in_ok-w.w
number_is c = ap number (sym (field_is _ c.loop-w.at _ c.loop-w.invariant.0 c.next_delimiter-q.ensures)) ∙ sym c.number_in.ensures ∙ ap option_of c.in_ok-w.was

pub loop-w-init : goal.loop-w-init
loop-w-init c = (search rules, search rules, search rules, search rules, before_all _ _)

pub slice_bounds-number_in-count : goal.slice_bounds-number_in-count
slice_bounds-number_in-count c = (inside _ c.loop-w.at _ c.loop-w.invariant.0 c.next_delimiter-q.ensures).0

pub slice_bounds-number_in-start : goal.slice_bounds-number_in-start
slice_bounds-number_in-start c = let i = inside _ c.loop-w.at _ c.loop-w.invariant.0 c.next_delimiter-q.ensures in omega (arith, i.0, i.1, i.2)

pub slice_bounds-number_in-end : goal.slice_bounds-number_in-end
slice_bounds-number_in-end c = let i = inside _ c.loop-w.at _ c.loop-w.invariant.0 c.next_delimiter-q.ensures in omega (arith, i.0, i.1, i.2)

-- a field that is no number
pub returns-in_err-w-clause-value : goal.returns-in_err-w-clause-value
returns-in_err-w-clause-value c =
    let l = c.loop-w in
    let bad = ap number (sym (field_is _ l.at _ l.invariant.0 c.next_delimiter-q.ensures)) ∙ sym c.number_in.ensures ∙ ap option_of c.in_err-w.was in
    let nothing = l.invariant.4 ∙ field_bad _ l.at _ l.invariant.0 c.next_delimiter-q.ensures (some (line c.args.letter (take l.len l.words))) bad in
    ap view_line c.from_residual.ensures ∙ sym (ap (ended _ _) nothing ∙ ended_none _ _)

-- a field that the input ends, or one too many
pub returns-then-q-s-clause-value : goal.returns-then-q-s-clause-value
returns-then-q-s-clause-value c =
    let l = c.loop-w in
    let is = c.next_delimiter-q.ensures in
    let i = inside _ l.at _ l.invariant.0 is in
    sym (⊎_elim
    (λ e. ended_no _ _ _ (omega (arith, i.1, e, l.invariant.3)))
    (λ e. ap (ended _ _) (l.invariant.4 ∙ field_full _ l.at _ l.invariant.0 is (some (line c.args.letter (take l.len l.words))) _ (number_is (goal.at.returns-then-q-s-clause-value c).In_ok-w) (push_out c.args.letter l.len c.in_ok-w.w l.words l.invariant.2 l.invariant.1 e.1)) ∙ ended_none _ _)
    c.then-q-s.either)

-- a field that a newline ends
pub returns-then-s-q-eq10-clause-value : goal.returns-then-s-q-eq10-clause-value
returns-then-s-q-eq10-clause-value c =
    let a = c.args in
    let l = c.loop-w in
    let is = c.next_delimiter-q.ensures in
    let last = to_newline _ l.at _ l.invariant.0 is c.if-q-s.false c.if-s-q-eq10.true in
    let near : line_end a.from a.s.now < length a.s.now =
    omega (arith, last, l.invariant.3, c.if-q-s.false, (inside _ l.at _ l.invariant.0 is).2) in
    let all = l.invariant.4 ∙ field_last _ l.at _ l.invariant.0 is (some (line a.letter (take l.len l.words))) _ (number_is (goal.at.returns-then-s-q-eq10-clause-value c).In_ok-w) last in
    let pushed = push_in a.letter l.len c.in_ok-w.w l.words l.invariant.2 l.invariant.1 (omega (arith, l.invariant.1, c.if-len-eq-MOST.false)) in
    sym (ended_yes _ _ _ near ∙ all ∙ pushed)

pub returns-then-s-q-eq10-clause-ends : goal.returns-then-s-q-eq10-clause-ends
returns-then-s-q-eq10-clause-ends c =
    let l = c.loop-w in
    let last = to_newline _ l.at _ l.invariant.0 c.next_delimiter-q.ensures c.if-q-s.false c.if-s-q-eq10.true in
    (last ∙ l.invariant.3, omega (arith, l.invariant.1, c.if-len-eq-MOST.false))

pub loop-w-smaller : goal.loop-w-smaller
loop-w-smaller c =
    let i = inside _ c.loop-w.at _ c.loop-w.invariant.0 c.next_delimiter-q.ensures in
    omega (arith, i.0, i.1, i.2, c.if-q-s.false)

-- a field that a tab ends
pub loop-w-preserved : goal.loop-w-preserved
loop-w-preserved c =
    let l = c.loop-w in
    let is = c.next_delimiter-q.ensures in
    let few : l.len < 21 = omega (arith, l.invariant.1, c.if-len-eq-MOST.false) in
    let within = to_tab _ l.at _ l.invariant.0 is c.if-q-s.false c.if-s-q-eq10.false in
    let pushed = push_in c.args.letter l.len c.in_ok-w.w l.words l.invariant.2 l.invariant.1 few in
    let rest = field_next _ l.at _ l.invariant.0 is (some (line c.args.letter (take l.len l.words))) _ (number_is (goal.at.loop-w-preserved c).In_ok-w) within _ (sym pushed) in
    (omega (arith, within, (inside _ l.at _ l.invariant.0 is).2), omega (arith, few), length-set l.words l.len c.in_ok-w.w ∙ l.invariant.2, same_end _ l.at _ l.invariant.0 is within ∙ l.invariant.3, l.invariant.4 ∙ rest)
