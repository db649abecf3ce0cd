-- Every context respects structural congruence.
use Rattle.calculus.specs.Syntax.{Scope, Proc}
use Rattle.calculus.specs.Congruence.{Cong, rfl, in_par, in_box, in_new, in_inp}
use Rattle.calculus.specs.Contexts.{Context, hole, beside, behind, in_a_box, under_new, under_input, filled, ContextsRespect}

respected : {T : Type 0} {r s : Scope} (C : Context T r s) (P Q : Proc T r) → Cong r P Q → Cong s (filled C P) (filled C Q)
respected hole P Q e = e
respected (beside C R) P Q e = in_par (respected C P Q e) rfl
respected (behind R C) P Q e = in_par rfl (respected C P Q e)
respected (in_a_box t n C) P Q e = in_box (respected C P Q e)
respected (under_new C) P Q e = in_new (respected C P Q e)
respected (under_input m t x i p C) P Q e = in_inp (respected C P Q e)

pub contexts_respect : ContextsRespect
unfolding ContextsRespect
contexts_respect T r s C P Q e = respected C P Q e
