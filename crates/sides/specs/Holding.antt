-- What a function on a lobby says of its result: the list, its length, and that all counts stay within their arrays.
use Rattle.std.specs.Prelude.{◌≡◌, Bool, true, List, ℕ}
use Rattle.model.specs.Side.{Message}
use Rattle.sides.specs.Views.{view_lobby, fits_lobby}
use Rattle.sides.specs.declared.Lobby.{Lobby}

-- r holds the list v of n; where the test ok passes, its counts are within their arrays
pub record LobbyIs (v : List Message) (n : ℕ) (ok : Bool) (r : Lobby) : Type 0 where
  pub view : view_lobby r ≡ v
  pub len : r.len ≡ n
  pub fits : ok ≡ true → fits_lobby r ≡ true
