-- Laws of environments: names bound one after another, and no name bound.
use mathlib.Core.Path.{◌≡◌, ap₂}
use mathlib.Core.List.{List, [], ◌++◌, append_assoc, append-nil}
use Prim.Native.Nat.{ℕ}
use Rattle.model.specs.Values.{Env, extend}

-- an environment by its names and their values
abbrev pub env : List ℕ → List (List ℕ) → Env
env ns vs = record { names = ns; vals = vs }

pub extend_none : (ρ : Env) → extend ρ [] [] ≡ ρ
extend_none ρ = ap₂ env (append-nil ρ.names) (append-nil ρ.vals)

pub extend_more : (ρ : Env) (a c : List ℕ) (b d : List (List ℕ)) → extend (extend ρ a b) c d ≡ extend ρ (a ++ c) (b ++ d)
extend_more ρ a c b d = ap₂ env (append_assoc ρ.names a c) (append_assoc ρ.vals b d)
