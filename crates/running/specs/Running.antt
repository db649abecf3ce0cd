-- A run by words: what its result says, and what is written.
use Rattle.std.specs.Prelude.{◌≡◌, List, ℕ, ◌*◌, length, Some, None, Ok, Err}
use Rattle.std.specs.declared.option.Option.{Option}
use Rattle.std.specs.declared.result.Result.{Result}
use Rattle.std.proofs.Math.Option as maybe
use Rattle.model.specs.Step.{Step}
use Rattle.format.specs.Words.{answers_of, broken_off, too_short, unloaded, answered, written_by, onto}
use Rattle.format.specs.Words.{Ran as FRan}
use Rattle.loading.specs.Loading.{told_by}
use Rattle.running.specs.declared.RunError.{RunError}
use Rattle.running.specs.declared.RunError.TheVariants.{Refused, BrokenOff, TooShort}

-- how many steps there are; none where the list breaks off
abbrev pub count_of : maybe.Option (List Step) → Option ℕ
count_of maybe.none = None
count_of (maybe.some xs) = Some (length xs)

-- the lent words after n answers of 20 words each are put at their start
pub record Put (ws : List ℕ) (n : ℕ) (lent after : List ℕ) : Type 0 where
  pub size : length ws ≡ 20 * n
  pub words : after ≡ onto ws lent

-- what a run comes to, by its result and the lent words after it: the n answers there, load's number, side and node, a list that breaks
-- off, or too few lent words; how many the answers are is n, so that no two cases give the same
abbrev pub ran_of : Result ℕ RunError → (after : List ℕ) → FRan
ran_of (Ok n) ws = answered (answers_of n ws)
ran_of (Err (Refused f)) ws = unloaded (told_by f)
ran_of (Err BrokenOff) ws = broken_off
ran_of (Err TooShort) ws = too_short

-- how many answers a run gives
abbrev pub answers_in : FRan → ℕ
answers_in broken_off = 0
answers_in too_short = 0
answers_in (unloaded e) = 0
answers_in (answered xs) = length xs

-- r is what a run comes to, and the lent words after it have its answers at their start, 20 words each, and are otherwise as
-- they were
pub record RunIs (x : FRan) (lent after : List ℕ) (r : Result ℕ RunError) : Type 0 where
  pub answer : ran_of r after ≡ x
  pub put : Put (written_by x) (answers_in x) lent after
