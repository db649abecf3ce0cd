-- The answers of the exported functions as numbers, and the lent memory after them.
use Rattle.std.specs.Prelude.{◌≡◌, List, [], ◌∷◌, ℕ, length}
use Rattle.model.specs.Basics.{choose, Res, refuse, done}
use Rattle.format.specs.Words.{Ran, broken_off, too_short, unloaded, answered, written_by, onto}
use Rattle.stranding.specs.Stranding as ended
use Rattle.claims.specs.Claims.{Verdict, number_of, side_in, index_of}
use Rattle.text.specs.Text.{has_room, buffer_after}

-- THE OUTPUT FOR AN INPUT

-- r is 0 where an output has room in the lent buffer and 1 where it has none, and `bytes` is how many bytes are written
pub record TextNumbers (output lent after : List ℕ) (bytes r : ℕ) : Type 0 where
  pub answer : r ≡ choose (has_room output lent) 0 1
  pub count : bytes ≡ choose (has_room output lent) (length output) 0
  pub buffer : after ≡ buffer_after output lent

-- A RUN

-- what a run comes to: 0 it is done, 1 load refuses, 2 the steps break off, 3 the lent words are too few
abbrev pub code_of : Ran → ℕ
code_of (answered xs) = 0
code_of (unloaded e) = 1
code_of broken_off = 2
code_of too_short = 3

-- three numbers of it: how many answers there are, or the number, side and node of load's refusal; 0 where there is nothing to say
abbrev pub numbers_of : Ran → List ℕ
numbers_of (answered xs) = length xs ∷ 0 ∷ 0 ∷ []
numbers_of (unloaded e) = e.number ∷ e.side ∷ e.node ∷ []
numbers_of broken_off = 0 ∷ 0 ∷ 0 ∷ []
numbers_of too_short = 0 ∷ 0 ∷ 0 ∷ []

-- r and the numbers are those of the run x, and the lent words have its answers at their start and are otherwise as they were
pub record RunNumbers (x : Ran) (lent after ns : List ℕ) (r : ℕ) : Type 0 where
  pub answer : r ≡ code_of x
  pub numbers : ns ≡ numbers_of x
  pub words : after ≡ onto (written_by x) lent

-- A MAKER'S OWN TRACE

-- r is the verdict's number, 0 where the trace is accepted, and `p` has its side, and its node or the index at fault
pub record TraceNumbers (v : Verdict) (p : List ℕ) (r : ℕ) : Type 0 where
  pub answer : r ≡ number_of v
  pub place : p ≡ side_in v ∷ index_of v ∷ []

-- WHAT IS STRANDED AFTER SOME STEPS

-- what it comes to: 0 the positions are put, 1 load refuses, 2 the steps break off, 22 the lent list is too short
abbrev pub code_after : ended.Ended (Res ℕ) → ℕ
code_after (ended.told (done n)) = 0
code_after (ended.told (refuse k)) = k
code_after (ended.unloaded e) = 1
code_after ended.broken_off = 2

-- three numbers of it: how many positions, or the number, side and node of load's refusal; 0 where there is nothing to say
abbrev pub numbers_after : ended.Ended (Res ℕ) → List ℕ
numbers_after (ended.told (done n)) = n ∷ 0 ∷ 0 ∷ []
numbers_after (ended.told (refuse k)) = 0 ∷ 0 ∷ 0 ∷ []
numbers_after (ended.unloaded e) = e.number ∷ e.side ∷ e.node ∷ []
numbers_after ended.broken_off = 0 ∷ 0 ∷ 0 ∷ []

-- r and the numbers are those of what it comes to, and the lent list has the positions at its start and is otherwise as it was
pub record AfterNumbers (x : ended.Ended (List ℕ)) (lent after ns : List ℕ) (r : ℕ) : Type 0 where
  pub answer : r ≡ code_after (ended.count_for x lent)
  pub numbers : ns ≡ numbers_after (ended.count_for x lent)
  pub words : after ≡ ended.lent_after x lent
