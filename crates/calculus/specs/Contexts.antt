-- Structural congruence is a congruence: every context respects it.
use Rattle.std.specs.Prelude.{◌∷◌}
use Rattle.calculus.specs.Syntax.{Pat, var, Scope, Name, ITag, Mode, Proc, par, box, new, inp}
use Rattle.calculus.specs.Congruence.{Cong}

-- a process of scope s with a hole for one of scope r
pub data Context (T : Type 0) (r : Scope) : Scope → Type 0 where
  hole : Context T r r
  beside : {s : Scope} → Context T r s → Proc T s → Context T r s
  behind : {s : Scope} → Proc T s → Context T r s → Context T r s
  in_a_box : {s : Scope} → T → Name s → Context T r s → Context T r s
  under_new : {s : Scope} → Context T r (var ∷ s) → Context T r s
  under_input : {s : Scope} → Mode → T → Name s → ITag (Name s) → (p : Pat) → Context T r (p ∷ s) → Context T r s

-- the hole filled
abbrev pub filled : {T : Type 0} {r s : Scope} → Context T r s → Proc T r → Proc T s
filled hole P = P
filled (beside C Q) P = par (filled C P) Q
filled (behind Q C) P = par Q (filled C P)
filled (in_a_box t n C) P = box t n (filled C P)
filled (under_new C) P = new (filled C P)
filled (under_input m t x i p C) P = inp m t x i p (filled C P)

unfoldable pub ContextsRespect : Type 1
ContextsRespect = (T : Type 0) (r s : Scope) (C : Context T r s) (P Q : Proc T r) → Cong r P Q → Cong s (filled C P) (filled C Q)
