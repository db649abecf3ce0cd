-- New-name directionality (document 004, section 5) of the pipeline W2: a name that the environment gives to side 2 does not come out of side 1.
use Rattle.std.specs.Prelude.{◌≡◌, List, [], ◌∷◌, ◌++◌, false, cond, ℕ, eqb}
use Rattle.calculus.specs.Syntax.{Val, within, parent, child, plain, received_parent, received_child, Proc, AllN}
use Rattle.calculus.specs.Transitions.{Label, tau, send, recv, In, Out∉, names, lnames}
use Rattle.calculus.specs.Marks.{Seq}
use Rattle.calculus.specs.Wrappers.{W2, env_in, env_out}
use Rattle.calculus.specs.Purity.{EachLabel}

-- the names of an input from the environment on a channel (in1^up v: those of v); any other label has none
abbrev pub heard_on : (chan : ℕ) → Label → List ℕ
heard_on chan tau = []
heard_on chan (send x o v) = []
heard_on chan (recv x (plain within) v) = []
heard_on chan (recv x (plain parent) v) = cond (eqb x chan) (names v) []
heard_on chan (recv x (plain (child n)) v) = []
heard_on chan (recv x received_parent v) = []
heard_on chan (recv x (received_child n) v) = []

-- the names of an output to the environment on a channel (out1^up v: those of v); any other label has none
abbrev pub sent_on : (chan : ℕ) → Label → List ℕ
sent_on chan tau = []
sent_on chan (send x (plain within) v) = []
sent_on chan (send x (plain parent) v) = cond (eqb x chan) (names v) []
sent_on chan (send x (plain (child n)) v) = []
sent_on chan (send x received_parent v) = []
sent_on chan (send x (received_child n) v) = []
sent_on chan (recv x o v) = []

-- the names of some labels
abbrev pub all_names : List Label → List ℕ
all_names [] = []
all_names (l ∷ ls) = lnames l ++ all_names ls

-- NEW-NAME DIRECTIONALITY of W2, which the document conjectures: a name that is new when it comes in on in2, and does not come in on in1 afterwards,
-- does not go out on out1
unfoldable pub NewNameDirectional : Type 0
NewNameDirectional = (P1 P2 Q : Proc (Unit {0}) []) (A : List ℕ) (ls ls' : List Label) (u u' : Val ℕ) (x : ℕ)
    → Seq A (W2 tt P1 P2) (ls ++ recv (env_in 2) (plain parent) u ∷ (ls' ++ send (env_out 1) (plain parent) u' ∷ [])) Q
    → In (names u) x → Out∉ A x → Out∉ (all_names ls) x
    → EachLabel (λ l. Out∉ (heard_on (env_in 1) l) x) ls'
    → Out∉ (names u') x

-- and a name that is known from the start and is free in neither program nor the wrapper: it goes out on out1 in no sequence in which it does not
-- come in on in1
unfoldable pub KnownNameDirectional : Type 0
KnownNameDirectional = (P1 P2 Q : Proc (Unit {0}) []) (A : List ℕ) (ls : List Label) (x : ℕ)
    → Seq A (W2 tt P1 P2) ls Q
    → In A x → AllN (W2 tt P1 P2) (λ z. eqb x z ≡ false)
    → EachLabel (λ l. Out∉ (heard_on (env_in 1) l) x) ls
    → EachLabel (λ l. Out∉ (sent_on (env_out 1) l) x) ls
