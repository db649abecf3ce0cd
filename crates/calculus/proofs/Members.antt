-- A transition depends on the members of A alone, not on their order or on how often they stand there.
use mathlib.Core.Path.{◌≡◌, refl, sym, ap, ap₂, ◌∙◌, subst}
use mathlib.Core.Bool.{Bool, cond, ◌||◌}
use mathlib.Core.List.{List, [], ◌∷◌}
use Prim.Native.Nat.{ℕ}
use lib.Dec.{eqb, T}
use Rattle.calculus.specs.Syntax.{received_child, once, replicated, Proc, par, box, new, out, inp}
use Rattle.calculus.specs.Transitions.{Label, tau, Participants, lone, joint, names, mem, In, beyond, restrict, Fn⊆, Out∉, Step, Out, In1, Repl, CommL, CommR, ParL, ParR, Box1, Box2, Box3, Res1, Res2, Struct}
use Rattle.calculus.proofs.Renaming.{AllN-map}

abbrev pub SameMembers : List ℕ → List ℕ → Type 0
SameMembers A B = (z : ℕ) → mem z A ≡ mem z B

more : (x : ℕ) (A B : List ℕ) → SameMembers A B → SameMembers (x ∷ A) (x ∷ B)
more x A B h z = ap (λ (t : Bool). eqb z x || t) (h z)

in_same : (A B : List ℕ) → SameMembers A B → (z : ℕ) → In A z → In B z
in_same A B h z i = subst T (h z) i

out_same : (A B : List ℕ) → SameMembers A B → (z : ℕ) → Out∉ A z → Out∉ B z
out_same A B h z o = sym (h z) ∙ o

fn_same : {M : Type 0} (A B : List ℕ) → SameMembers A B → (P : Proc M []) → Fn⊆ P A → Fn⊆ P B
fn_same A B h P f = AllN-map P (in_same A B h) f

beyond_same : (A B l : List ℕ) → SameMembers A B → beyond A l ≡ beyond B l
beyond_same A B [] h = refl
beyond_same A B (x ∷ l) h =
    ap₂ (λ (t : Bool) (r : List ℕ). cond t r (x ∷ beyond (x ∷ A) l)) (h x) (beyond_same A B l h)
    ∙ ap (λ (r : List ℕ). cond (mem x B) (beyond B l) (x ∷ r)) (beyond_same (x ∷ A) (x ∷ B) l (more x A B h))

pub step_members : {M : Type 0} {A : List ℕ} {P Q : Proc M []} {l : Label} {w : Participants M} → Step A P l w Q → (B : List ℕ) → SameMembers A B → Step B P l w Q
step_members (Out {A = A} {t = t} {x = x} {o = o} {v = v} f) B h = Out (fn_same A B h (out t x o v) f)
step_members (In1 {A = A} {t = t} {x = x} {i = i} {p = p} {P = P} f e k) B h = In1 (fn_same A B h (inp once t x i p P) f) e k
step_members (Repl {A = A} {t = t} {x = x} {i = i} {p = p} {P = P} f e k) B h = Repl (fn_same A B h (inp replicated t x i p P) f) e k
step_members (CommL {A = A} {P = P} {Q = Q} {P' = P'} {Q' = Q'} {x = x} {v = v} {t = t} {u = u} d d') B h =
    subst (λ (r : List ℕ). Step B (par P Q) tau (joint t u) (restrict r (par P' Q'))) (sym (beyond_same A B (x ∷ names v) h)) (CommL (step_members d B h) (step_members d' B h))
step_members (CommR {A = A} {P = P} {Q = Q} {P' = P'} {Q' = Q'} {x = x} {v = v} {t = t} {u = u} d d') B h =
    subst (λ (r : List ℕ). Step B (par P Q) tau (joint t u) (restrict r (par P' Q'))) (sym (beyond_same A B (x ∷ names v) h)) (CommR (step_members d B h) (step_members d' B h))
step_members (ParL {A = A} {Q = Q} f d) B h = ParL (fn_same A B h Q f) (step_members d B h)
step_members (ParR {A = A} {P = P} f d) B h = ParR (fn_same A B h P f) (step_members d B h)
step_members (Box1 {A = A} {P = P} {P' = P'} {b = b} {n = n} {x = x} {v = v} {t = t} i d) B h =
    subst (λ (r : List ℕ). Step B (box b n P) tau (lone t) (restrict r (par (out t x (received_child n) v) (box b n P')))) (sym (beyond_same A B (x ∷ names v) h)) (Box1 (in_same A B h n i) (step_members d B h))
step_members (Box2 {A = A} {P = P} {b = b} {n = n} f) B h = Box2 (fn_same A B h (box b n P) f)
step_members (Box3 {A = A} {n = n} i d) B h = Box3 (in_same A B h n i) (step_members d B h)
step_members (Res1 {A = A} {P = P} x f o k d) B h = Res1 x (fn_same A B h (new P) f) (out_same A B h x o) k (step_members d (x ∷ B) (more x A B h))
step_members (Res2 {A = A} {P = P} x f o i k d) B h = Res2 x (fn_same A B h (new P) f) (out_same A B h x o) i k (step_members d (x ∷ B) (more x A B h))
step_members (Struct d e) B h = Struct (step_members d B h) e
