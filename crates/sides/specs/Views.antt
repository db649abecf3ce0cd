-- A lobby's structs, and a tag, as the model's.
use Rattle.std.specs.Prelude.{Bool, List, map, leb, take}
use Rattle.model.specs.Basics.{◌&◌, every}
use Rattle.model.specs.Side.{within, to_parent, from_parent, to_child, from_child, down, arrived, leaving}
use Rattle.model.specs.Side.{Tag as MTag, Status as MStatus, Message as MMessage}
use Rattle.values.specs.declared.Value.{Value}
use Rattle.values.specs.Env.{view_value}
use Rattle.sides.specs.declared.Status.{Status}
use Rattle.sides.specs.declared.Status.TheVariants.{Down, Arrived, Leaving}
use Rattle.sides.specs.declared.Tag.{Tag}
use Rattle.sides.specs.declared.Tag.TheVariants.{Within, ToParent, FromParent, ToChild, FromChild}
use Rattle.sides.specs.declared.Message.{Message}
use Rattle.sides.specs.declared.Lobby.{Lobby}

-- a message's status
abbrev pub view_status : Status → MStatus
view_status Down = down
view_status Arrived = arrived
view_status Leaving = leaving

-- an output's or an input's tag
abbrev pub view_tag : Tag → MTag
view_tag Within = within
view_tag ToParent = to_parent
view_tag FromParent = from_parent
view_tag (ToChild n) = to_child n
view_tag (FromChild n) = from_child n

-- a lobby message
abbrev pub view_message : Message → MMessage
view_message m = record { status = view_status m.status; chan = m.channel; val = view_value m.value }

-- the messages of a lobby, first to last
abbrev pub view_lobby : Lobby → List MMessage
view_lobby l = map view_message (take l.len l.msgs)

-- a value's length is within its array
abbrev pub fits_value : Value → Bool
fits_value v = leb v.len 16

-- a message's value's is
abbrev pub fits_message : Message → Bool
fits_message m = fits_value m.value

-- a lobby's length and each held message's are
abbrev pub fits_lobby : Lobby → Bool
fits_lobby l = leb l.len 16 & every fits_message (take l.len l.msgs)
