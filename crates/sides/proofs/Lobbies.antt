-- What callers use of a lobby: how many messages it holds, the message at a held place, and that its counts are within their arrays.
use mathlib.Core.Path.{◌≡◌}
use mathlib.Core.Bool.{true}
use mathlib.Core.Option.{some}
use Prim.Native.Nat.{ℕ, ◌<◌, ◌≤◌}
use native.Mathlib.Omega.{arith}
use borrow.Author.Tests.{le-leb, leb-true}
use lib.ListN.{length, get_or, get_elem?}
use Rattle.model.proofs.Basics.Tests.{fst, snd}
use Rattle.values.specs.declared.Value.{Value}
use Rattle.sides.specs.Views.{view_message, view_lobby, fits_value, fits_message, fits_lobby}
use Rattle.sides.specs.declared.Message.{Message}
use Rattle.sides.specs.declared.Lobby.{Lobby}
use Rattle.sides.proofs.Lists.{view_length, view_at, every_at}

-- how many, and the element at a held place
module _ (l : Lobby) (full : length l.msgs ≡ 16) (h : l.len ≤ 16) where
  pub lobby_length : length (view_lobby l) ≡ l.len
  lobby_length = view_length view_message l.msgs l.len (omega arith)

  pub lobby_at : (i : ℕ) (d : Message) → i < l.len → get_elem? (view_lobby l) i ≡ some (view_message (get_or l.msgs i d))
  lobby_at i d m = view_at view_message l.msgs l.len i d m (omega arith)

  -- a held element's counts are within their arrays
  pub lobby_fits_at : (i : ℕ) (d : Message) → i < l.len → fits_lobby l ≡ true → fits_message (get_or l.msgs i d) ≡ true
  lobby_fits_at i d m p = every_at fits_message l.msgs l.len i d m (omega arith) (snd _ _ p)

pub lobby_short : (l : Lobby) → fits_lobby l ≡ true → l.len ≤ 16
lobby_short l p = leb-true l.len 16 (fst _ _ p)

pub value_short : (v : Value) → fits_value v ≡ true → v.len ≤ 16
value_short v p = leb-true v.len 16 p

pub value_fits : (v : Value) → v.len ≤ 16 → fits_value v ≡ true
value_fits v h = le-leb v.len 16 h
