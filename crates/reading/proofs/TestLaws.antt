-- Tests that pass or fail, and what is given by them.
use mathlib.Core.Path.{◌≡◌, refl}
use mathlib.Core.Bool.{Bool, true, false}
use mathlib.Core.Option.{none, some}
use Prim.Native.Nat.{ℕ, ◌<◌, ◌≤◌}
use borrow.Author.Tests.{le-leb, lt-leb}
use lib.Dec.{leb}
use Rattle.model.specs.Basics.{◌&◌, choose}
use Rattle.format.specs.Lines.{between, when}
use Rattle.model.proofs.Basics.Tests.{both}

pub first_fails : (a b : Bool) → a ≡ false → a & b ≡ false
unfolding ◌&◌
first_fails a b e = rw e

pub second_fails : (a b : Bool) → b ≡ false → a & b ≡ false
unfolding ◌&◌
second_fails true b e = e
second_fails false b e = refl

pub inside : (a b n : ℕ) → a ≤ n → n ≤ b → between a b n ≡ true
inside a b n h k = both (leb a n) (leb n b) (le-leb a n h) (le-leb n b k)

pub below : (a b n : ℕ) → n < a → between a b n ≡ false
below a b n h = first_fails (leb a n) (leb n b) (lt-leb a n h)

pub above : (a b n : ℕ) → b < n → between a b n ≡ false
above a b n h = second_fails (leb a n) (leb n b) (lt-leb n b h)

pub passes : {A : Type 0} (t : Bool) (a : A) → t ≡ true → when t a ≡ some a
unfolding choose
passes t a e = rw e

pub fails : {A : Type 0} (t : Bool) (a : A) → t ≡ false → when t a ≡ none
unfolding choose
fails t a e = rw e

pub same_either : {A : Type 0} (t : Bool) (a : A) → choose t a a ≡ a
unfolding choose
same_either true a = refl
same_either false a = refl
