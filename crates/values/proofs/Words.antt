-- Tests of a word: one law for each way that the code goes.
use mathlib.Core.Path.{◌≡◌, refl, sym, ◌∙◌}
use mathlib.Core.Bool.{Bool, true, false}
use Prim.Native.Nat.{ℕ, ◌<◌, ◌≤◌, ◌%◌}
use native.Mathlib.Omega.{arith}
use borrow.Author.Tests.{le-leb, lt-leb, leb-true, leb-false}
use lib.Dec.{leb, eqb}
use Rattle.model.specs.Basics.{◌&◌, ◌or◌}
use Rattle.model.specs.Values.{is_minted, is_outside}
use Rattle.values.specs.Span.{leaf_of}
use Rattle.values.specs.declared.Leaf.{Leaf}
use Rattle.values.specs.declared.Leaf.TheVariants.{Public, Pattern, Name}

-- two bounds tested one after the other
module _ (a b w : ℕ) where
  pub within_low : w < a → leb a w ≡ leb a w & leb w b
  unfolding ◌&◌
  within_low h = rw (lt-leb a w h)

  pub within_high : a ≤ w → leb w b ≡ leb a w & leb w b
  unfolding ◌&◌
  within_high h = rw (le-leb a w h)

module _ (w : ℕ) where
  pub minted_none : w < 65536 → false ≡ is_minted w
  unfolding ◌&◌ ◌or◌
  minted_none h = rw (lt-leb 65536 w h, lt-leb 131072 w (omega arith))

  pub minted_high : 196608 ≤ w → false ≡ is_minted w
  unfolding ◌&◌ ◌or◌
  minted_high h = rw (le-leb 65536 w (omega arith), lt-leb w 65791 (omega arith), le-leb 131072 w (omega arith), lt-leb w 131327 (omega arith))

  -- of side 1 or 2, by its serial
  pub minted_serial : 65536 ≤ w → w < 196608 → leb (w % 65536) 255 ≡ is_minted w
  unfolding ◌&◌ ◌or◌
  minted_serial h l = go (leb w 65791) (leb 131072 w) refl refl
    where
      go : (a b : Bool) → leb w 65791 ≡ a → leb 131072 w ≡ b → leb (w % 65536) 255 ≡ is_minted w
      go true b e f = rw (le-leb 65536 w h, e) (le-leb (w % 65536) 255 (omega (arith, leb-true w 65791 e)))
      go false false e f = rw (le-leb 65536 w h, e, f) (lt-leb (w % 65536) 255 (omega (arith, leb-false w 65791 e, leb-false 131072 w f)))
      go false true e f = rw (le-leb 65536 w h, e, f) (go-high (leb w 131327) refl)
        where
          go-high : (c : Bool) → leb w 131327 ≡ c → leb (w % 65536) 255 ≡ leb w 131327
          go-high true g = le-leb (w % 65536) 255 (omega (arith, leb-true 131072 w f, leb-true w 131327 g)) ∙ sym g
          go-high false g = lt-leb (w % 65536) 255 (omega (arith, leb-true 131072 w f, leb-false w 131327 g)) ∙ sym g

  pub leaf_low : (l : Leaf) → w ≤ 63 → true ≡ leaf_of l w
  unfolding leaf_of ◌or◌
  leaf_low Public h = rw (le-leb w 63 h)
  leaf_low Pattern h = rw (le-leb w 63 h)
  leaf_low Name h = rw (le-leb w 63 h)

  pub leaf_public : (l : Leaf) → l ≡ Public → 63 < w → false ≡ leaf_of l w
  unfolding leaf_of
  leaf_public l e h = rw (e, lt-leb w 63 h)

  pub leaf_pattern : (l : Leaf) → l ≡ Pattern → 63 < w → eqb w 4999999 ≡ leaf_of l w
  unfolding leaf_of ◌or◌
  leaf_pattern l e h = rw (e, lt-leb w 63 h)

  pub leaf_minted : (l : Leaf) → l ≡ Name → 63 < w → true ≡ is_minted w → true ≡ leaf_of l w
  unfolding leaf_of ◌or◌
  leaf_minted l e h m = rw (e, lt-leb w 63 h, ← m)

  pub leaf_outside : (l : Leaf) → l ≡ Name → 63 < w → false ≡ is_minted w → is_outside w ≡ leaf_of l w
  unfolding leaf_of ◌or◌
  leaf_outside l e h m = rw (e, lt-leb w 63 h, ← m)

-- a conjunction fails where its first test fails
pub left_false : (a b : Bool) → a ≡ false → a & b ≡ false
unfolding ◌&◌
left_false a b p = rw p
