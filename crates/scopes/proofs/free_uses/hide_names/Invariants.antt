-- Each name of the pattern leaves the set in turn; a word past 63 leaves it as it is.
use mathlib.Core.Path.{◌≡◌}
use lib.ListN.{length, take}
use Rattle.model.specs.Values.{binders}
use Rattle.scopes.specs.FreeUses.{hide}
use Rattle.scopes.proofs.free_uses.hide_names.Given as goal

abbrev pub invariant-loop-w : goal.invariant-loop-w
invariant-loop-w l = (length l.ts.on ≡ 64) × (l.ts.on ≡ hide l.initial.ts.on (binders (take l.w-index l.s)))
