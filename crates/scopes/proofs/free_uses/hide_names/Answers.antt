-- Each name of the pattern leaves the set in turn; a word past 63 leaves it as it is.
use Rattle.std.proofs.Common.{ap, ◌∙◌, length}
use native.Mathlib.Omega.{arith}
use lib.ListN.{length-set}
use Rattle.tables.specs.declared.name_set.NameSet.{NameSet}
use Rattle.scopes.proofs.FreeUseLaws.{hide_name, hide_other}
use Rattle.scopes.proofs.free_uses.hide_names.Goals as goal
use Rattle.scopes.proofs.free_uses.hide_names.Goals.{then-x-lt-NAMES, else-x-lt-NAMES}

pub loop-w-preserved : goal.loop-w-preserved
loop-w-preserved c =
    let l = c.loop-w in
    let s = c.args.s.now in
    let low = c.loop-w-test.true in
    elim c.if-x-lt-NAMES.branch [
      | then-x-lt-NAMES w ↦
          let e = ap (λ (z : NameSet). (z).on) w.ts-is in
          (ap length e ∙ length-set l.ts.on _ _ ∙ l.invariant.0, e ∙ hide_name _ s l.w-index low _ (omega (arith, w.if-x-lt-NAMES.true)) l.invariant.1)
      | else-x-lt-NAMES w ↦
          let e = ap (λ (z : NameSet). (z).on) w.ts-is in
          (ap length e ∙ l.invariant.0, e ∙ hide_other _ s l.w-index low _ (omega (arith, w.if-x-lt-NAMES.false)) l.invariant.1)
    ]
