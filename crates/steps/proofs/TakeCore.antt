-- One law for each way that the model's take goes, from any source.
use mathlib.Core.Path.{◌≡◌, ap, ◌∙◌}
use mathlib.Core.Bool.{true, false, not}
use mathlib.Core.List.{List, [], ◌∷◌, ◌++◌}
use mathlib.Core.Option.{some}
use Prim.Native.Nat.{ℕ, ◌<◌, ◌≤◌}
use native.Mathlib.Omega.{arith}
use lib.ListN.{length, get_or, get_elem?, set, length-append}
use Rattle.model.specs.Basics.{refuse, done, need, every}
use Rattle.model.specs.Side.{down, Core, limits, taken_at}
use Rattle.model.specs.Step.{silently, takes, short, settled}
use Rattle.steps.proofs.Settling.{pick_past, pick_at, need_true, need_false, limits_in, over_lobby, settled_refused, settled_full, settled_within}
use Rattle.steps.proofs.CoreSteps.{quiet}

-- the core after a take
abbrev pub take_core : ℕ → Core → ℕ → List ℕ → Core
take_core m s i v = record { contents = s.contents; lobby = s.lobby ++ (record { status = down; chan = 2; val = v } ∷ []); shelf = s.shelf; taken = set s.taken (taken_at m i) true }

module _ (s : Core) (sh : every short s.contents.particles ≡ true) (few : limits s ≡ true) (m : ℕ) (h : List (List ℕ)) (i : ℕ) where
  pub take_10 : length h ≤ i → settled (takes m h s i) ≡ refuse 10
  unfolding takes
  take_10 p = settled_refused _ _ (pick_past h i _ p)

  take_at : (v : List ℕ) → get_elem? h i ≡ some v → takes m h s i ≡ need (not (get_or s.taken (taken_at m i) false)) 13 (silently (take_core m s i v))
  unfolding takes
  take_at v e = pick_at h i v _ e

  pub take_13 : (v : List ℕ) → get_elem? h i ≡ some v → get_or s.taken (taken_at m i) false ≡ true → settled (takes m h s i) ≡ refuse 13
  take_13 v e t = settled_refused _ _ (take_at v e ∙ need_false _ _ _ (ap not t))

  pub take_17 : (v : List ℕ) → get_elem? h i ≡ some v → get_or s.taken (taken_at m i) false ≡ false → 16 ≤ length s.lobby → settled (takes m h s i) ≡ refuse 17
  take_17 v e t p =
      settled_full _ (quiet (take_core m s i v)) (take_at v e ∙ need_true _ _ _ (ap not t)) sh
      (over_lobby (take_core m s i v) (omega (arith, length-append s.lobby (record { status = down; chan = 2; val = v } ∷ []))))

  pub take_done : (v : List ℕ) → get_elem? h i ≡ some v → get_or s.taken (taken_at m i) false ≡ false → length s.lobby < 16 → settled (takes m h s i) ≡ done (quiet (take_core m s i v))
  take_done v e t p =
      let w = limits_in s few in
      settled_within _ (quiet (take_core m s i v)) (take_at v e ∙ need_true _ _ _ (ap not t)) sh
      (record { particles = w.particles; boxes = w.boxes; minted = w.minted; lobby = omega (arith, length-append s.lobby (record { status = down; chan = 2; val = v } ∷ [])); shelf = w.shelf })
