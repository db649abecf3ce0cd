-- The lobby of a side behind some steps.
use Rattle.std.specs.Prelude.{◌≡◌, cond, List, [], map, ℕ, ◌-◌, ◌≤◌, get_or, Some, None, IfSome}
use Rattle.std.specs.declared.option.Option.{Option}
use Rattle.std.specs.Option.{option_map}
use Rattle.std.proofs.Math.Option as maybe
use Rattle.model.specs.Side.{Message, State}
use Rattle.model.specs.Wrapper.{described, has_side}
use Rattle.model.specs.Load.{Composition, Loaded, refused, ok}
use Rattle.model.specs.Stranded.{lobby_asked}
use Rattle.format.specs.Words.{steps_of}
use Rattle.sides.specs.declared.Rest.{Rest}
use Rattle.sides.specs.declared.Lobby.{Lobby}
use Rattle.sides.specs.Views.{view_lobby}
use Rattle.stranding.specs.Stranding.{behind}

-- the lobbies of all sides, and that of side n; an empty one where the wrapper lacks it
abbrev pub lobbies_in : List Rest → List (List Message)
lobbies_in os = map (λ (o : Rest). view_lobby o.lobby) os

abbrev pub lobby_in : (wrapper n : ℕ) → List Rest → List Message
lobby_in w n os = cond (has_side (described w) n) (get_or (lobbies_in os) (n - 1) []) []

-- the state behind a load and some steps
abbrev pub loaded_behind : Composition → (steps : List ℕ) → Loaded → maybe.Option State
loaded_behind b ws (refused e) = maybe.none
loaded_behind b ws (ok s) = behind b s (steps_of ws)

-- the lobby of side n in the state behind the steps; none where there is no state
abbrev pub lobby_behind : Composition → maybe.Option State → (n : ℕ) → Option (List Message)
lobby_behind b maybe.none n = None
lobby_behind b (maybe.some s) n = Some (lobby_asked b (maybe.some s) n)

-- r is the lobby that is asked of the state behind the steps
pub record EndIs (b : Composition) (o : maybe.Option State) (n : ℕ) (r : Option Lobby) : Type 0 where
  pub lobby : option_map view_lobby r ≡ lobby_behind b o n
  pub short : IfSome r (λ l. l.len ≤ 16)
