-- Laws of a step's end, over the model's values: positions, tests, and the tests on the state after.
use mathlib.Core.Path.{◌≡◌, refl, ap}
use mathlib.Core.Bool.{Bool, true, false}
use mathlib.Core.List.{List, [], ◌∷◌}
use mathlib.Core.Option.{some}
use Prim.Native.Nat.{ℕ, zero, suc, ◌<◌, ◌≤◌}
use native.Mathlib.Omega.{arith}
use borrow.Author.Tests.{le-leb, lt-leb, leb-true}
use lib.ListN.{length, get_elem?}
use Rattle.model.specs.Basics.{◌&◌, Res, refuse, done, bind, need, choose, every, pick}
use Rattle.model.specs.Side.{Core, limits}
use Rattle.model.specs.Step.{Moved, short, settled}
use Rattle.model.proofs.Basics.Tests.{fst, snd, both}
use Rattle.model.proofs.Formed.Invariant.{settled_is}

pub pick_past : {A B : Type 0} (l : List A) (i : ℕ) (f : A → Res B) → length l ≤ i → pick l i f ≡ refuse 10
unfolding pick
pick_past [] i f h = refl
pick_past (x ∷ l) zero f h = absurd (omega arith)
pick_past (x ∷ l) (suc i) f h = pick_past l i f (omega arith)

pub pick_at : {A B : Type 0} (l : List A) (i : ℕ) (x : A) (f : A → Res B) → get_elem? l i ≡ some x → pick l i f ≡ f x
unfolding pick
pick_at [] zero x f e = let z : ◌≡◌ {A = ℕ} 0 1 = cc in absurd (omega arith)
pick_at [] (suc i) x f e = let z : ◌≡◌ {A = ℕ} 0 1 = cc in absurd (omega arith)
pick_at (y ∷ l) zero x f e = let z : y ≡ x = cc in ap f z
pick_at (y ∷ l) (suc i) x f e = pick_at l i x f e

module _ {A : Type 0} where
  pub need_true : (t : Bool) (n : ℕ) (r : Res A) → t ≡ true → need t n r ≡ r
  unfolding need
  need_true t n r e = rw e

  pub need_false : (t : Bool) (n : ℕ) (r : Res A) → t ≡ false → need t n r ≡ refuse n
  unfolding need
  need_false t n r e = rw e

  pub choose_true : (t : Bool) (a b : A) → t ≡ true → choose t a b ≡ a
  unfolding choose
  choose_true t a b e = rw e

  pub choose_false : (t : Bool) (a b : A) → t ≡ false → choose t a b ≡ b
  unfolding choose
  choose_false t a b e = rw e

pub no_left : (a b : Bool) → a ≡ false → a & b ≡ false
unfolding ◌&◌
no_left a b e = rw e

pub no_right : (a b : Bool) → b ≡ false → a & b ≡ false
unfolding ◌&◌
no_right true b e = e
no_right false b e = refl

-- the limits, as facts
pub record Within (s : Core) : Type 0 where
  pub particles : length s.contents.particles ≤ 32
  pub boxes : length s.contents.boxes ≤ 16
  pub minted : s.contents.minted ≤ 256
  pub lobby : length s.lobby ≤ 16
  pub shelf : length s.shelf ≤ 32

pub limits_in : (s : Core) → limits s ≡ true → Within s
unfolding limits
limits_in s e = record {
  particles = leb-true (length s.contents.particles) 32 (fst _ _ (fst _ _ e));
  boxes = leb-true (length s.contents.boxes) 16 (fst _ _ (snd _ _ (fst _ _ e)));
  minted = leb-true s.contents.minted 256 (snd _ _ (snd _ _ (fst _ _ e)));
  lobby = leb-true (length s.lobby) 16 (fst _ _ (snd _ _ e));
  shelf = leb-true (length s.shelf) 32 (snd _ _ (snd _ _ e));
}

pub limits_is : (s : Core) → Within s → limits s ≡ true
unfolding limits
limits_is s w =
    both _ _ (both _ _ (le-leb _ _ w.particles) (both _ _ (le-leb _ _ w.boxes) (le-leb _ _ w.minted)))
    (both _ _ (le-leb _ _ w.lobby) (le-leb _ _ w.shelf))

pub over_particles : (s : Core) → 32 < length s.contents.particles → limits s ≡ false
unfolding limits
over_particles s h = no_left _ _ (no_left _ _ (lt-leb _ _ h))

pub over_lobby : (s : Core) → 16 < length s.lobby → limits s ≡ false
unfolding limits
over_lobby s h = no_right _ _ (no_left _ _ (lt-leb _ _ h))

pub over_shelf : (s : Core) → 32 < length s.shelf → limits s ≡ false
unfolding limits
over_shelf s h = no_right _ _ (no_right _ _ (lt-leb _ _ h))

-- what is settled
pub settled_refused : (r : Res Moved) (n : ℕ) → r ≡ refuse n → settled r ≡ refuse n
unfolding settled bind
settled_refused r n e = rw e

pub settled_full : (r : Res Moved) (m : Moved) → r ≡ done m → every short m.core.contents.particles ≡ true → limits m.core ≡ false → settled r ≡ refuse 17
unfolding settled bind need
settled_full r m e p q = rw (e, p, q)

pub settled_within : (r : Res Moved) (m : Moved) → r ≡ done m → every short m.core.contents.particles ≡ true → Within m.core → settled r ≡ done m
settled_within r m e p w = settled_is r m (record { is = e; short_outputs = p; few = limits_is m.core w })
