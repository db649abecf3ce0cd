-- Answers by what a line gives, and a line's numbers.
use mathlib.Core.Path.{◌≡◌, refl, ap, ◌∙◌}
use mathlib.Core.List.{List}
use mathlib.Core.Option.{Option, none, some}
use Prim.Native.Nat.{ℕ, min, ◌-◌, ◌<◌}
use native.Mathlib.Omega.{arith}
use Rattle.std.specs.declared.option.Option.TheVariants.{Some, None}
use lib.ListN.{length, get_or, take, drop, length-take}
use lib.Seq.{get_or-take}
use Rattle.format.specs.Lines.{Input}
use Rattle.reading.specs.declared.Places.{Places}
use Rattle.reading.specs.Lists.{Lists, lists, places_of, Holds, AfterIs}
use Rattle.delimiters.proofs.SliceLaws.{take_of_drop}

-- the answer by what a line gives
module _ (i : Input) (o : Option Input) (p : Places) (old new : Lists) where
  pub is_fault : p ≡ places_of i → Holds i old new → o ≡ none → AfterIs i o None old new
  is_fault q h e = rw e (record { places = refl; holds = h })

  pub is_next : (j : Input) → o ≡ some j → p ≡ places_of j → Holds j old new → AfterIs i o (Some p) old new
  is_next j e q h = rw e (record { places = ap some q; holds = h })

-- places, and the lent lists, one by one
abbrev pub places : (rank wrapper : ℕ) → (nodes pools : List ℕ) → (steps words : ℕ) → Places
places r w n p s k = record { rank = r; wrapper = w; nodes = n; pools = p; steps = s; words = k }

pub same_places : (r w : ℕ) (n p m q : List ℕ) (s k t j : ℕ) → n ≡ m → p ≡ q → s ≡ t → k ≡ j → places r w n p s k ≡ places r w m q t j
same_places r w n p m q s k t j a b c d = rw (a, b, c, d)

pub same_lists : (a b c d e f : List ℕ) → a ≡ d → b ≡ e → c ≡ f → lists a b c ≡ lists d e f
same_lists a b c d e f p q r = rw (p, q, r)

-- the first number of some, and the others
pub first_of : (len : ℕ) (ws : List ℕ) → 0 < len → get_or (take len ws) 0 0 ≡ get_or ws 0 0
first_of len ws h = get_or-take len ws 0 0 h

pub others_of : (size : ℕ) (ws : List ℕ) → 0 < size → take (size - 1) (drop 1 ws) ≡ drop 1 (take size ws)
others_of size ws h = take_of_drop 1 (size - 1) ws ∙ ap (λ (n : ℕ). drop 1 (take n ws)) (omega arith)

pub size_of : (len : ℕ) (ws : List ℕ) → length ws ≡ 21 → length (take len ws) ≡ min len 21
size_of len ws e = length-take len ws ∙ ap (min len) e
