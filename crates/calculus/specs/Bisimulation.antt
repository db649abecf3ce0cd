-- Structural congruence is a strong bisimulation: what is said of the transitions of a process holds of every congruent one.
use Rattle.std.specs.Prelude.{List, [], ℕ}
use Rattle.calculus.specs.Syntax.{Proc}
use Rattle.calculus.specs.Congruence.{◌≋◌}
use Rattle.calculus.specs.Transitions.{Label, Participants, Step}

-- each transition of P is matched by Q, with the same label and the same participants, and leads to congruent processes
abbrev pub Matched : {M : Type 0} → Proc M [] → Proc M [] → Type 0
Matched {M} P Q = (A : List ℕ) (l : Label) (w : Participants M) (P' : Proc M []) → Step A P l w P' → (Q' : Proc M []) × Step A Q l w Q' × (P' ≋ Q')

unfoldable pub Bisimulation : Type 1
Bisimulation = (M : Type 0) (P Q : Proc M []) → P ≋ Q → Matched P Q × Matched Q P
