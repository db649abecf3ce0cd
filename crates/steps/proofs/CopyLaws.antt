-- The copies of a message: a law for each way that the code goes.
use mathlib.Core.Path.{◌≡◌, sym}
use mathlib.Core.Bool.{Bool, true, false}
use mathlib.Core.List.{◌++◌, append-nil}
use Prim.Native.Nat.{ℕ, ◌+◌, ◌≤◌}
use native.Mathlib.Omega.{arith}
use lib.ListN.{length}
use Rattle.model.specs.Basics.{◌&◌}
use Rattle.model.specs.Step.{copied}
use Rattle.model.proofs.Basics.Tests.{fst}
use Rattle.values.specs.declared.Value.{Value}
use Rattle.values.specs.Env.{view_value}
use Rattle.wrappers.specs.Copies.{log_if}
use Rattle.sides.specs.declared.Lobby.{Lobby}
use Rattle.sides.specs.Views.{view_lobby, fits_lobby}
use Rattle.sides.specs.Holding.{LobbyIs}
use Rattle.steps.specs.Asked.{copy_fits}

pub few_copies : (b : Bool) (n : ℕ) → n ≡ length (log_if b) → n ≤ 1
few_copies true n e = omega (arith, e)
few_copies false n e = omega (arith, e)

-- r is the lobby l with the copies of v
abbrev pub WithCopies : Lobby → Bool → Value → Lobby → Type 0
WithCopies l b v r = LobbyIs (view_lobby l ++ copied (log_if b) (view_value v)) (l.len + length (log_if b)) (fits_lobby l & copy_fits v) r

pub none_added : (l : Lobby) (b : Bool) (v : Value) → b ≡ false → WithCopies l b v l
none_added l b v e = rw e (record { view = sym (append-nil (view_lobby l)); len = omega arith; fits = λ p. fst _ _ p })
