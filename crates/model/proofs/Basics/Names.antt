-- Names by their numbers: where minted names and those from outside lie, and what it is to be held.
use mathlib.Core.Path.{◌≡◌}
use mathlib.Core.Bool.{Bool, true}
use mathlib.Core.Logic.{⊎_elim}
use Prim.Native.Nat.{ℕ, ◌≤◌, ◌<◌}
use native.Mathlib.Omega.{arith}
use borrow.Author.Tests.{leb-true}
use lib.Dec.{leb, ltb}
use Rattle.model.specs.Basics.{◌&◌}
use Rattle.model.specs.Values.{is_public, is_minted, is_outside, is_name, side_of, serial}
use Rattle.model.specs.WellFormed.{Counts, count_of, held}
use Rattle.model.proofs.Basics.Tests.{fst, snd, alt, alt_left, alt_right}

-- RANGES
range : (l h w : ℕ) → leb l w & leb w h ≡ true → (l ≤ w) × (w ≤ h)
range l h w e = (leb-true l w (fst _ _ e), leb-true w h (snd _ _ e))

pub minted_range : (w : ℕ) → is_minted w ≡ true → (65536 ≤ w) × (w < 131328)
minted_range w e = ⊎_elim
    (λ p. let r = range 65536 65791 w p in (r.0, omega (arith, r.1)))
    (λ p. let r = range 131072 131327 w p in (omega (arith, r.0), omega (arith, r.1)))
    (alt _ _ e)

pub outside_range : (w : ℕ) → is_outside w ≡ true → (196608 ≤ w) × (w < 196864)
outside_range w e = let r = range 196608 196863 w e in (r.0, omega (arith, r.1))

pub name_small : (w : ℕ) → is_name w ≡ true → w < 196864
name_small w e = ⊎_elim
    (λ p. omega (arith, leb-true w 63 p))
    (λ p. ⊎_elim (λ q. omega (arith, (minted_range w q).1)) (λ q. (outside_range w q).1) (alt _ _ p))
    (alt _ _ e)

pub minted_not_public : (w : ℕ) → is_minted w ≡ true → is_public w ≡ true → ⊥
minted_not_public w m p = omega (arith, (minted_range w m).0, leb-true w 63 p)

pub minted_not_outside : (w : ℕ) → is_minted w ≡ true → is_outside w ≡ true → ⊥
minted_not_outside w m o = omega (arith, (minted_range w m).1, (outside_range w o).0)

-- HELD: public, from outside, or minted and below its side's count
abbrev Below : Counts → ℕ → Bool
Below k w = ltb (serial w) (count_of k (side_of w))

pub data Held (k : Counts) (w : ℕ) : Type 0 where
  is_public_lem : is_public w ≡ true → Held k w
  is_outside_lem : is_outside w ≡ true → Held k w
  is_minted_lem : is_minted w & Below k w ≡ true → Held k w

pub held_cases : (k : Counts) (w : ℕ) → held k w ≡ true → Held k w
unfolding held
held_cases k w e = ⊎_elim (λ p. is_public_lem p) (λ p. ⊎_elim (λ q. is_outside_lem q) (λ q. is_minted_lem q) (alt _ _ p)) (alt _ _ e)

pub held_of : (k : Counts) (w : ℕ) → Held k w → held k w ≡ true
unfolding held
held_of k w (is_public_lem p) = alt_left _ _ p
held_of k w (is_outside_lem p) = alt_right _ _ (alt_left _ _ p)
held_of k w (is_minted_lem p) = alt_right _ _ (alt_right _ _ p)

-- a minted name is held where it is below its side's count
pub held_below : (k : Counts) (w : ℕ) → is_minted w ≡ true → held k w ≡ true → is_minted w & Below k w ≡ true
held_below k w m e = go (held_cases k w e)
  where
    go : Held k w → is_minted w & Below k w ≡ true
    go (is_public_lem p) = absurd (minted_not_public w m p)
    go (is_outside_lem p) = absurd (minted_not_outside w m p)
    go (is_minted_lem p) = p

-- and held names are names
pub held_name : (k : Counts) (w : ℕ) → held k w ≡ true → is_name w ≡ true
held_name k w e = go (held_cases k w e)
  where
    go : Held k w → is_name w ≡ true
    go (is_public_lem p) = alt_left _ _ p
    go (is_outside_lem p) = alt_right _ _ (alt_right _ _ p)
    go (is_minted_lem p) = alt_right _ _ (alt_left _ _ (fst _ _ p))
