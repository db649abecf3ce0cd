-- What load says, case by case: model's number, side and node of a refusal.
use Rattle.std.proofs.Math.Option.{Option, none, some}
use Rattle.std.specs.Prelude.{ℕ, Result, Ok, Err}
use Rattle.model.specs.Basics.{choose, Res}
use Rattle.model.specs.Table.{Table}
use Rattle.model.specs.Checks.{Fault}
use Rattle.model.specs.Wrapper.{Wrapper, has_side}
use Rattle.model.specs.Load.{Refused as Refusal, Loaded, refused, ok, side_fault, lack_fault}
use Rattle.tables.specs.Checks.{number_of}
use Rattle.loading.specs.declared.LoadRefusal.{LoadRefusal}

-- the fault of side n with this table, by whether the wrapper has it
abbrev pub fault_at : Wrapper → ℕ → Table → Res Fault
fault_at w n t = choose (has_side w n) (side_fault n t) (lack_fault t)

-- number, side and node that are refused
abbrev pub told_by : LoadRefusal → Refusal
told_by f = record { number = number_of f.cause; side = f.side; node = f.node }

-- the same of what load says
abbrev pub refusal_of : Result Unit LoadRefusal → Option Refusal
refusal_of (Ok u) = none
refusal_of (Err f) = some (told_by f)

-- the refusal of a load
abbrev pub refusal_in : Loaded → Option Refusal
refusal_in (refused x) = some x
refusal_in (ok s) = none
