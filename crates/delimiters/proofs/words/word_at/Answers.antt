-- The bytes from k on are in the word, the first of them lowest.
use mathlib.Core.Path.{◌≡◌, sym, ap, ◌∙◌}
use Prim.Native.Nat.{ℕ, suc, ◌+◌, ◌-◌, ◌*◌, ◌<◌}
use native.Mathlib.Omega.{arith}
use lib.ListN.{get_or}
use Rattle.format.specs.Bytes.{slice}
use Rattle.delimiters.specs.Delimiters.{word}
use Rattle.delimiters.proofs.WordLaws.{no_bytes, byte_before, byte_more, room}
use borrow.Author.Rules.{rules}
use Rattle.delimiters.proofs.words.word_at.Goals as goal

pub loop-k-init : goal.loop-k-init
loop-k-init c = (omega arith, sym (no_bytes _ _))

pub overflow_mul-w : goal.overflow_mul-w
overflow_mul-w c = let l = c.loop-k in record { fits = omega (arith, room l.k l.w c.loop-k-test.true l.invariant.0) }

pub overflow_add-w : goal.overflow_add-w
overflow_add-w c =
    let l = c.loop-k in
    let byte = c.type_inv.s (c.args.at + (l.k - 1)) in
    record { fits = omega (arith, byte, room l.k l.w c.loop-k-test.true l.invariant.0) }

pub loop-k-preserved : goal.loop-k-preserved
loop-k-preserved c =
    let a = c.args in
    let l = c.loop-k in
    let place = a.at + (l.k - 1) in
    let byte : get_or a.s.now place 0 < 256 = omega (arith, c.type_inv.s place) in
    let next : suc place ≡ a.at + l.k = omega (arith, c.loop-k-test.true) in
    let before = byte_before place (a.at + 8) a.s.now (omega arith) (search rules) in
    rw (c.from.ensures) (
      byte_more l.k l.w _ c.loop-k-test.true l.auto.k l.invariant.0 byte,
      sym (before ∙ ap (λ (n : ℕ). word (slice n (a.at + 8) a.s.now) * 256 + get_or a.s.now place 0) next ∙ ap (λ (w : ℕ). w * 256 + get_or a.s.now place 0) (sym l.invariant.1)),
    )
