-- The wrapper round the terms in the tables: names that are not free in them, and that their processes are defined.
use mathlib.Core.Path.{◌≡◌, ◌∙◌, ap}
use mathlib.Core.Logic.{inr}
use mathlib.Core.List.{[], ◌∷◌}
use Prim.Native.Nat.{ℕ}
use mathlib.Core.Option.{Option, none, some}
use Rattle.calculus.specs.Syntax.{Val, nm, tup, within, var, Scope, ITag, parent, child, Proc, ren, closed, the_bound, under, IsName, AllI}
use Rattle.calculus.specs.Wrappers.{two_scope, far}
use Rattle.calculus.specs.Named.{named, Code, cnil, cpar, cbox, cnew, cout, cinp, shape, find, Env, bound_or, under_pat}
use Rattle.calculus.proofs.Definedness.{Sound}
use Rattle.calculus.proofs.Renaming.{ren_ren, ren_agree, AllN-map}
use Rattle.calculus.proofs.Extrusion.{Fresh, closed_fresh, bound_fresh}

-- the wrapper's two names are not free in a handler
pub closed2 : {M : Type 0} (P : Proc M []) → Fresh 81 P → Fresh 82 P → ren {r = two_scope} (closed 82 P) (under (the_bound 81)) ≡ ren {r = two_scope} P far
closed2 P h k = ap (λ X. ren {r = two_scope} X (under (the_bound 81))) (closed_fresh 82 P k) ∙ ren_ren {q = two_scope} (var ∷ []) P inr (under (the_bound 81))
    ∙ ren_agree {r = two_scope} P (λ x. inr (the_bound 81 x)) far (AllN-map P (λ y e. ap (λ z. inr z) (bound_fresh 81 y e)) h)

-- with names only, a handler's process is defined
AllI-every : {N : Type 0} {A : N → Type 0} (i : ITag N) → ((n : N) → A n) → AllI i A
AllI-every within h = tt
AllI-every parent h = tt
AllI-every (child n) h = h n

bound_name' : {B N : Type 0} (o : Option B) (v : Val N) → IsName v → IsName (bound_or o v)
bound_name' (some b) v h = tt
bound_name' none (nm x) h = tt
bound_name' none (tup vs) h = h

pub sound_names : (s : Scope) (c : Code) (ρ : Env s) → ((n : ℕ) → IsName (ρ n)) → Sound s c ρ
unfolding Sound
sound_names s cnil ρ h = tt
sound_names s (cpar c d) ρ h = (sound_names s c ρ h, sound_names s d ρ h)
sound_names s (cbox n c) ρ h = (h n, sound_names s c ρ h)
sound_names s (cnew n c) ρ h = sound_names (var ∷ s) c (under_pat (named n) ρ) (λ m. bound_name' (find (named n) m) (ρ m) (h m))
sound_names s (cout x i v) ρ h = (h x, AllI-every i h)
sound_names s (cinp m x i p c) ρ h = (h x, AllI-every i h, sound_names (shape p ∷ s) c (under_pat p ρ) (λ j. bound_name' (find p j) (ρ j) (h j)))
