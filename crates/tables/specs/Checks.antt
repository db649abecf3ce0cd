-- What the answers of the checks say, case by case: model's numbers and nodes. Where nothing is at fault model refuses by 0.
use Rattle.std.specs.Prelude.{◌≡◌, Bool, false, List, ℕ, ◌<◌, ◌/◌, length}
use Rattle.std.specs.Prelude.{Option, Some, None}
use Rattle.std.specs.Prelude.{Result, Ok, Err}
use Rattle.model.specs.Basics.{Res, refuse, done, is_done}
use Rattle.model.specs.Table.{Table}
use Rattle.model.specs.Checks.{Fault, fault}
use Rattle.tables.specs.declared.nodes.Node.{Node}
use Rattle.tables.specs.declared.checks.Cause.{Cause}
use Rattle.tables.specs.declared.checks.Cause.TheVariants as cause
use Rattle.tables.specs.declared.checks.Fault.{Fault as Found}
use Rattle.tables.specs.Nodes.{NodeIs}

-- document 01's number of a cause
abbrev pub number_of : Cause → ℕ
number_of cause.Size = 1
number_of cause.Kind = 2
number_of cause.Child = 3
number_of cause.Name = 4
number_of cause.Place = 5
number_of cause.Scope = 6
number_of cause.Limit = 7

-- what a test of nodes says, by its number and its words, is what p says of its number
abbrev pub Tests : (nodes : List ℕ) → (says : ℕ → Node → Bool → Type 0) → (p : ℕ → Bool) → Type 0
Tests nodes says p = (n : ℕ) (x : Node) (b : Bool) → n < length nodes / 5 → NodeIs nodes n x → says n x b → b ≡ p n

-- the lowest node at fault, or that there is none
abbrev pub lowest_of : Option ℕ → Res ℕ
lowest_of (Some n) = done n
lowest_of None = refuse 0

-- number and node of the fault, or that there is none
abbrev pub fault_of : Result Unit Found → Res Fault
fault_of (Ok v) = refuse 0
fault_of (Err f) = done (record { number = number_of f.cause; node = f.node })

-- a fault of this cause at the lowest node, if there is one
abbrev pub fault_if : Cause → Option ℕ → Result Unit Found
fault_if c (Some n) = Err (record { cause = c; node = n })
fault_if c None = Ok tt

-- a table that passes checks 1 to 6
abbrev pub Passes : Table → Type 0
Passes t = is_done (fault t) ≡ false
