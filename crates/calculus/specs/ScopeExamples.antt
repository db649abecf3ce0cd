-- Document 004, section 2.3: its two examples of a new name that crosses a box's boundary, as silent transitions. The names n of the box
-- and z of the value are known; x stands for the new name.
use Rattle.std.proofs.Common.{inl, inr}
use Rattle.std.specs.Prelude.{[], ◌∷◌, ℕ}
use Rattle.calculus.specs.Syntax.{nm, var, parent, child, plain, received_parent, received_child, Proc, nil, par, box, new, out}
use Rattle.calculus.specs.Transitions.{tau, restrict}
use Rattle.calculus.specs.Marks.{Published}

-- x^n z and x^up z, under (ν x)
abbrev pub to_box : (n z : ℕ) → Proc (Unit {0}) (var ∷ [])
to_box n z = out {s = var ∷ []} tt (inl tt) (plain (child (inr n))) (nm (inr z))

abbrev pub to_parent : (z : ℕ) → Proc (Unit {0}) (var ∷ [])
to_parent z = out {s = var ∷ []} tt (inl tt) (plain parent) (nm (inr z))

-- (ν x)x^n z | n[0] --τ--> (ν x)n[x^received z]
abbrev pub Down : (n z x : ℕ) → Type 0
Down n z x = Published (n ∷ z ∷ []) (par (new (to_box n z)) (box {s = []} tt n nil)) tau (restrict (x ∷ []) (box {s = []} tt n (out {s = []} tt x received_parent (nm z))))

-- n[(ν x)x^up z] --τ--> (ν x)(x^received-from-n z | n[0])
abbrev pub Up : (n z x : ℕ) → Type 0
Up n z x = Published (n ∷ z ∷ []) (box {s = []} tt n (new (to_parent z))) tau (restrict (x ∷ []) (par (out {s = []} tt x (received_child n) (nm z)) (box {s = []} tt n nil)))

unfoldable pub ScopeExamples : Type 0
ScopeExamples = Down 5 6 9 × Up 5 6 9
