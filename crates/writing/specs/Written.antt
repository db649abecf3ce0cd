-- Bytes written at a place of a lent list, and a lent page with bytes at its start.
use Rattle.std.specs.Prelude.{◌≡◌, List, ℕ, ◌+◌, ◌≤◌, length}
use Rattle.std.proofs.lemmas.List.Edits.{sets}
use Rattle.format.specs.Words.{onto}

-- `new` is `old` with ws stored from `at` up to `next`, and so is as long
pub record Written (old : List ℕ) (at : ℕ) (ws : List ℕ) (next : ℕ) (new : List ℕ) : Type 0 where
  pub end : next ≡ at + length ws
  pub text : new ≡ sets old at ws
  pub same : length new ≡ length old

-- a page of 206,848 bytes after a call that answers r: the r bytes of o at its start, and behind them what was lent
pub record PageIs (o lent after : List ℕ) (r : ℕ) : Type 0 where
  pub count : r ≡ length o
  pub few : r ≤ 206848
  pub page : after ≡ onto o lent
