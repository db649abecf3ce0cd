-- Document 004's two scope examples, derived rule by rule. No state of the bench has such a derivation: its new names stand over all.
use mathlib.Core.Path.{refl}
use mathlib.Core.List.{[], ◌∷◌}
use Rattle.calculus.specs.Syntax.{nm, parent, child, plain, received_parent, received_child, Proc, nil, par, box, new, out, ren, AllN}
use Rattle.calculus.specs.Congruence.{par_nil, par_comm, trans, in_box}
use Rattle.calculus.specs.Transitions.{tau, send, recv, lone, joint, restrict, Step, Out, CommL, Box1, Box2, Res2, Struct}
use Rattle.calculus.specs.ScopeExamples.{to_box, to_parent, ScopeExamples}
use Rattle.calculus.proofs.Extrusion.{in_news}

-- DOWN: (Res-2) opens x in channel position, (Comm) binds it again

opens_down : Step (5 ∷ 6 ∷ []) (new (to_box 5 6)) (send 9 (plain (child 5)) (nm 6)) (lone tt) nil
unfolding restrict ren AllN
opens_down = Res2 {P = to_box 5 6} 9 (tt, tt, tt) refl tt refl (Out {t = tt} {x = 9} {o = plain (child 5)} {v = nm 6} (tt, tt, tt))

abbrev received : Proc (Unit {0}) []
received = out {s = []} tt 9 received_parent (nm 6)

enters : Step (5 ∷ 6 ∷ []) (box {s = []} tt 5 nil) (recv 9 (received_child 5) (nm 6)) (joint tt tt) (box {s = []} tt 5 (par received nil))
unfolding AllN
enters = Box2 {P = nil} {b = tt} {n = 5} (tt, tt)

down : Step (5 ∷ 6 ∷ []) (par (new (to_box 5 6)) (box {s = []} tt 5 nil)) tau (joint tt tt) (restrict (9 ∷ []) (box {s = []} tt 5 received))
down = Struct (CommL {x = 9} {g = received_child 5} {v = nm 6} opens_down enters) (in_news (9 ∷ []) (trans par_comm (trans par_nil (in_box par_nil))))

-- UP: (Res-2) opens x, (Box-1) binds it again

opens_up : Step (5 ∷ 6 ∷ []) (new (to_parent 6)) (send 9 (plain parent) (nm 6)) (lone tt) nil
unfolding restrict ren AllN
opens_up = Res2 {P = to_parent 6} 9 (tt, tt, tt) refl tt refl (Out {t = tt} {x = 9} {o = plain parent} {v = nm 6} (tt, tt, tt))

up : Step (5 ∷ 6 ∷ []) (box {s = []} tt 5 (new (to_parent 6))) tau (lone tt) (restrict (9 ∷ []) (par (out {s = []} tt 9 (received_child 5) (nm 6)) (box {s = []} tt 5 nil)))
up = Box1 {P = new (to_parent 6)} {b = tt} {n = 5} {x = 9} {v = nm 6} tt opens_up

pub scope_examples : ScopeExamples
unfolding ScopeExamples
scope_examples = ((joint tt tt, down), (lone tt, up))
