-- What the code's answers say of a field and of a line.
use Rattle.std.specs.Prelude.{◌≡◌, List, ℕ, ◌+◌, ◌≤◌, leb, ltb, length, take}
use Rattle.std.specs.declared.option.Option as code
use Rattle.std.specs.declared.option.Option.TheVariants.{Some, None}
use Rattle.std.proofs.Math.Option.{Option, none, some}
use Rattle.model.specs.Basics.{choose}
use Rattle.format.specs.Bytes.{slice, index_of}
use Rattle.format.specs.Lines.{newline, Line, Input, on_line}
use Rattle.reading.specs.declared.fields.Line as fields

-- what an answer of the code says
abbrev pub option_of : {A : Type 0} → code.Option A → Option A
option_of None = none
option_of (Some a) = some a

-- the numbers that a struct holds
abbrev pub words_of : fields.Line → List ℕ
words_of l = take l.len l.words

-- the line that a struct holds
abbrev pub as_line : fields.Line → Line
as_line l = record { letter = l.letter; words = words_of l }

-- the line that the code's answer holds, if it holds one
abbrev pub view_line : code.Option fields.Line → Option Line
view_line None = none
view_line (Some l) = some (as_line l)

-- a line that has at most 21 numbers
unfoldable pub short_line : Line → Option Line
short_line l = choose (leb (length l.words) 21) (some l) none

-- the line, where there is one and it has at most 21 numbers
abbrev pub short : Option Line → Option Line
short none = none
short (some l) = short_line l

-- a letter's line with some numbers
abbrev pub line_with : ℕ → Option (List ℕ) → Option Line
line_with c none = none
line_with c (some ns) = some (record { letter = c; words = ns })

-- the place of the first newline from a place on, or the length where there is none
unfoldable pub line_end : (from : ℕ) → List ℕ → ℕ
line_end from s = from + index_of newline (slice from (length s) s)

-- a line from a place on, where a newline ends it
unfoldable pub ended : (from : ℕ) → List ℕ → Option Line → Option Line
ended from s l = choose (ltb (line_end from s) (length s)) l none

-- what is read with a line more, or none where the line is at fault
abbrev pub after_line : Input → Option Line → Option Input
after_line i none = none
after_line i (some l) = on_line i l

-- a struct's end is where the line from a place on ends, and it holds at most 21 numbers
abbrev pub LineEnds : (from : ℕ) → List ℕ → fields.Line → Type 0
LineEnds from s l = (l.end ≡ line_end from s) × (l.len ≤ 21)
