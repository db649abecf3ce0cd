-- The lines up to a place give an input, which the lent lists hold, and the rest of the bytes are still to be read.
use mathlib.Core.Path.{◌≡◌, sym, ap, ◌∙◌}
use Rattle.std.proofs.lemmas.Result.{err_from_is_err_and}
use Prim.Native.Nat.{◌+◌, ◌<◌, ◌≤◌}
use lib.ListN.{length}
use Rattle.format.specs.Lines.{newline, pieces, Input, no_input}
use Rattle.format.specs.Bytes.{slice}
use Rattle.reading.specs.Lists.{lists, places_of, Holds}
use Rattle.reading.specs.Fields.{view_line, after_line}
use Rattle.reading.proofs.ReadLaws.{SoFar, holds_none, too_long, before_lines, line_refused, line_fault, next_line, nothing_read, all_read, err_is}
use borrow.Author.Rules.{rules}
use native.Mathlib.Omega.{arith}
use Rattle.reading.proofs.read.Goals as goal
use Rattle.reading.proofs.read.Goals.{In_ok-places}

pub returns-then-input-gt65536 : goal.returns-then-input-gt65536
returns-then-input-gt65536 c = too_long _ _ _ c.if-input-gt65536.true c.none-places.ensures

pub loop-at-init : goal.loop-at-init
loop-at-init c = (search rules, search rules, (no_input, c.none-places.ensures, holds_none _, before_lines _ c.if-input-gt65536.false))

pub returns-in_err-l : goal.returns-in_err-l
returns-in_err-l c =
    let l = c.loop-at in
    let x = l.invariant.2 in
    let e = c.in_err-l.ensures in
    let p = err_from_is_err_and c.from_residual.result c.from_residual.ensures.1 in
    let f = err_is _ _ _ e.ok_part e.value in
    rw (p.1, p.2, f) (line_refused _ l.at l.line x.0 l.invariant.0 x.3 _ _ _ c.loop-at-test.true x.1 x.2 (ap (after_line x.0) (sym c.line_at.ensures.value ∙ ap view_line e.ok_part)))

pub returns-in_err-places : goal.returns-in_err-places
returns-in_err-places c =
    let l = c.loop-at in
    let x = l.invariant.2 in
    let e = c.in_err-places.ensures in
    let p = err_from_is_err_and c.from_residual-in_err-places.result c.from_residual-in_err-places.ensures.1 in
    let f = err_is _ _ _ e.ok_part e.value in
    let view = sym (ap view_line c.in_ok-l.ensures.ok_part) ∙ c.line_at.ensures.value in
    rw (p.1, p.2, f) (line_fault _ l.at l.line x.0 l.invariant.0 x.3 _ _ _ _ _ view (c.on_line.ensures x.0 _ x.1 x.2) c.loop-at-test.true x.1 e.ok_part)

-- behind a line that is taken
taken : (c : In_ok-places) →
    (c.loop-at.at ≤ c.in_ok-l.l.end) × (c.in_ok-l.l.end < length c.args.input.now)
    × ((j : Input) × (c.in_ok-places.places ≡ places_of j)
    × Holds j (lists c.args.nodes.now c.args.pools.now c.args.steps.now) (lists c.on_line.new.nodes c.on_line.new.pools c.on_line.new.steps)
    × SoFar c.args.input.now (c.loop-at.line + 1) (pieces newline (slice (c.in_ok-l.l.end + 1) (length c.args.input.now) c.args.input.now)) j)
taken c =
    let l = c.loop-at in
    let x = l.invariant.2 in
    let q = c.in_ok-l.ensures.ok_part in
    let view = sym (ap view_line q) ∙ c.line_at.ensures.value in
    let ends = rw q at (c.line_at.ensures.ends) in
    next_line _ l.at l.line x.0 l.invariant.0 x.3 _ _ _ _ _ view (c.on_line.ensures x.0 _ x.1 x.2) _ ends.0 c.in_ok-places.ensures.ok_part

pub overflow_add-at : goal.overflow_add-at
overflow_add-at c = let t = taken c in record { fits = omega (arith, t.1, c.if-input-gt65536.false) }

pub loop-at-smaller : goal.loop-at-smaller
loop-at-smaller c = let t = taken c in omega (arith, t.0, t.1)

pub loop-at-preserved : goal.loop-at-preserved
loop-at-preserved c = let t = taken c in (omega (arith, t.1), omega (arith, t.0, c.loop-at.invariant.1), t.2)

pub returns-then-places-eq0 : goal.returns-then-places-eq0
returns-then-places-eq0 c =
    let l = c.loop-at in
    let x = l.invariant.2 in
    nothing_read _ l.at l.line x.0 l.invariant.0 x.3 (omega (arith, l.invariant.0, c.loop-at-test.false)) l.places _ _ x.1 x.2 c.if-places-eq0.true

pub returns : goal.returns
returns c =
    let l = c.loop-at in
    let x = l.invariant.2 in
    all_read _ l.at l.line x.0 l.invariant.0 x.3 (omega (arith, l.invariant.0, c.loop-at-test.false)) l.places _ _ x.1 x.2 c.if-places-eq0.false
