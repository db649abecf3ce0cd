-- Two states that are equal in every field, places past a count and words past a length too.
use Rattle.std.specs.Prelude.{Bool, true, false, not, ◌&&◌, ℕ, eqb}
use Rattle.std.specs.Cmp.Lexicographic.{pointwise}
use Rattle.values.specs.declared.Value.{Value}
use Rattle.sides.specs.declared.Status.{Status}
use Rattle.sides.specs.declared.Status.TheVariants.{Down, Arrived, Leaving}
use Rattle.sides.specs.declared.Message.{Message}
use Rattle.sides.specs.declared.Lobby.{Lobby}
use Rattle.sides.specs.declared.Rest.{Rest}
use Rattle.sides.specs.declared.Side.{Side}
use Rattle.sides.specs.declared.State.{State}

-- marks: both set or both clear
abbrev pub same_mark : Bool → Bool → Bool
same_mark true b = b
same_mark false b = not b

-- a value's sixteen words and its length
abbrev pub same_value : Value → Value → Bool
same_value a b = pointwise eqb a.words b.words && eqb a.len b.len

-- a number for each status
abbrev pub status_number : Status → ℕ
status_number Down = 0
status_number Arrived = 1
status_number Leaving = 2

-- status, channel and value
abbrev pub same_message : Message → Message → Bool
same_message a b = eqb (status_number a.status) (status_number b.status) && (eqb a.channel b.channel && same_value a.value b.value)

-- all messages, and their number
abbrev pub same_lobby : Lobby → Lobby → Bool
same_lobby a b = pointwise same_message a.msgs b.msgs && eqb a.len b.len

-- how many particles, boxes, shelf values and minted names there are
abbrev pub same_counts : Rest → Rest → Bool
same_counts a b = eqb a.particles b.particles && (eqb a.boxes b.boxes && (eqb a.shelved b.shelved && eqb a.minted b.minted))

-- the counts, the lobby, and the marks of shelf places that are taken
abbrev pub same_rest : Rest → Rest → Bool
same_rest a b = same_counts a b && (same_lobby a.lobby b.lobby && pointwise same_mark a.taken b.taken)

-- the words, the marks of names that have left, and the rest
abbrev pub same_side : Side → Side → Bool
same_side a b = pointwise eqb a.words b.words && (pointwise same_mark a.left b.left && same_rest a.rest b.rest)

-- side by side
abbrev pub same_state : State → State → Bool
same_state a b = pointwise same_side a.sides b.sides
