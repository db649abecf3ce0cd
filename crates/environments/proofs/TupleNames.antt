-- Refusal 15 by the set of the names that an environment binds to a tuple is `defined`.
use mathlib.Core.Path.{◌≡◌, refl, sym, ap, ◌∙◌}
use mathlib.Core.Bool.{Bool, true, false, not}
use mathlib.Core.List.{List}
use Prim.Native.Nat.{ℕ, ◌<◌}
use native.Mathlib.Omega.{arith}
use lib.ListN.{length, get_or}
use Rattle.model.specs.Values.{value}
use Rattle.model.specs.Table.{Table, count, term}
use Rattle.model.specs.Unfolding.{defined}
use Rattle.model.proofs.Basics.Checked.{sits}
use Rattle.values.specs.Env.{tuple_of}
use Rattle.tables.specs.Checks.{Passes}
use Rattle.scopes.specs.FreeUses.{clear_at}
use Rattle.scopes.proofs.ScopeBound.{passes_checked}
use Rattle.scopes.proofs.FreeUseLaws.{Agrees, fits_clear}
use Rattle.sides.specs.Environments.{env_of}
use Rattle.environments.specs.Fits.{Fits}
use Rattle.environments.proofs.Slots.{env_sized}

not_not : (b : Bool) → b ≡ not (not b)
not_not true = refl
not_not false = refl

module _ (e : List ℕ) (n : ℕ) (f : Fits e n) (ts : List Bool) (full : length ts ≡ 64) (p : (m : ℕ) → m < 64 → get_or ts m false ≡ tuple_of (value (env_of e n) m)) where
  set_agrees : Agrees (env_of e n) ts
  unfolding tuple_of
  set_agrees = record { sized = env_sized e n f; full = full; same = λ m h. not_not _ ∙ ap not (sym (p m (omega arith))) }

  pub defined_is : (t : Table) → Passes t → (k : ℕ) → k < count t → (r : Bool) → r ≡ clear_at t k ts → r ≡ defined (term t k) (env_of e n)
  unfolding clear_at
  defined_is t c k l r z = z ∙ sym (fits_clear (sits t (passes_checked t c) k l) (env_of e n) ts set_agrees)
