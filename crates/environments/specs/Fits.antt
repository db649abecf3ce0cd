-- What is asked of an environment in lent words.
use Rattle.std.specs.Prelude.{◌≡◌, true, List, ℕ, ◌≤◌, length, take}
use Rattle.model.specs.Basics.{every}
use Rattle.sides.specs.Layout.{places_of, fits_place}

-- the words of a row, with n names in force, their values within their places
pub record Fits (e : List ℕ) (n : ℕ) : Type 0 where
  pub long : length e ≡ 144
  pub few : n ≤ 8
  pub places : every fits_place (take n (places_of e)) ≡ true
