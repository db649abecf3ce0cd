-- The answer of `text`, and the lent buffer after it.
use Rattle.std.specs.Prelude.{◌≡◌, Bool, List, ℕ, ◌≤◌, leb, length, Ok, Err}
use Rattle.std.specs.declared.result.Result.{Result}
use Rattle.std.proofs.Math.Option.{Option, none, some}
use Rattle.model.specs.Basics.{choose}
use Rattle.format.specs.Words.{all_step_words, onto}
use Rattle.format.specs.Lines.{Input, when}
use Rattle.wrappers.specs.Compositions.{composition}
use Rattle.text.specs.declared.TooShort.{TooShort}

-- some words are what the lines give: the sides' nodes and pools from side 1 on, and the steps
pub record Given (i : Input) (wrapper : ℕ) (nodes pools : List (List ℕ)) (steps : List ℕ) : Type 0 where
  pub loads : composition wrapper nodes pools ≡ i.loads
  pub words : steps ≡ all_step_words i.steps
  pub few : length i.steps ≤ 1024

-- how many bytes are written, or that there is no room for them
abbrev pub bytes_of : Result ℕ TooShort → Option ℕ
bytes_of (Ok n) = some n
bytes_of (Err e) = none

-- the buffer has room for the output
abbrev pub has_room : (output lent : List ℕ) → Bool
has_room o lent = leb (length o) (length lent)

-- the buffer after it: the output at its start, or as it was
unfoldable pub buffer_after : (output lent : List ℕ) → List ℕ
buffer_after o lent = choose (has_room o lent) (onto o lent) lent

-- r is the answer for an output, which is never longer than 206,848 bytes
pub record TextIs (o lent after : List ℕ) (r : Result ℕ TooShort) : Type 0 where
  pub answer : bytes_of r ≡ when (has_room o lent) (length o)
  pub buffer : after ≡ buffer_after o lent
  pub most : length o ≤ 206848
