-- A maker's trace, checked in one pass: what the result says, and how far the claimed labels agree.
use Rattle.std.specs.Prelude.{◌≡◌, Bool, true, false, List, ℕ, ◌≤◌, length, drop, Some, None, Ok, Err, IfOk, ⊤}
use Rattle.std.specs.declared.option.Option.{Option}
use Rattle.std.specs.declared.result.Result.{Result}
use Rattle.std.proofs.Math.Option as maybe
use Rattle.model.specs.Load.{Composition, Loaded}
use Rattle.format.specs.Words.{answer_by}
use Rattle.claims.specs.Claims.{records_past, step_records, label_records, visible, label_fault, Verdict, accepted, unloaded, step_at_fault, label_at_fault, check_from}
use Rattle.steps.specs.declared.Said.{Said}
use Rattle.steps.specs.declared.Said.TheVariants as said
use Rattle.answers.specs.Answers.{said_of}
use Rattle.loading.specs.Loading.{told_by}
use Rattle.checking.specs.declared.TraceError.{TraceError}
use Rattle.checking.specs.declared.TraceError.TheVariants.{Unloaded, StepAt, LabelAt}
use Rattle.checking.specs.declared.claimed_labels.Agreed.{Agreed}

-- the verdict that the result says
abbrev pub verdict_of : Result ⊤ TraceError → Verdict
verdict_of (Ok u) = accepted
verdict_of (Err (Unloaded f)) = unloaded (told_by f)
verdict_of (Err (StepAt k)) = step_at_fault k
verdict_of (Err (LabelAt k)) = label_at_fault k

-- r is the verdict on some steps and labels in words, from what load gives
abbrev pub CheckedFrom : Composition → (steps labels : List ℕ) → Loaded → Result ⊤ TraceError → Type 0
CheckedFrom b ws ls l r = verdict_of r ≡ check_from b (step_records ws) (label_records ls) l

-- a refusal is said
abbrev pub is_refused : Said → Bool
is_refused said.In = false
is_refused said.Out = false
is_refused said.Log = false
is_refused said.Silent = false
is_refused (said.Refused n) = true

-- the channel of a visible label; none where what is said is no such label
abbrev pub channel_of : Said → Option ℕ
channel_of said.In = Some 0
channel_of said.Out = Some 1
channel_of said.Log = Some 3
channel_of said.Silent = None
channel_of (said.Refused n) = None

-- the record of what side n says with the words v, where it is visible
abbrev pub shown : Said → (n : ℕ) → List ℕ → List (List ℕ)
shown a n v = visible (answer_by (said_of a) n v)

-- the first label at fault where so much agrees and the labels vs still come out, or where they have parted
abbrev pub fault_from : (labels : List ℕ) → Result Agreed ℕ → (vs : List (List ℕ)) → maybe.Option ℕ
fault_from l (Ok a) vs = label_fault a.count vs (records_past 2 (drop a.at l) 0)
fault_from l (Err k) vs = maybe.some k

-- what agrees lies within the list, a word or more for each label
pub record Within (l : List ℕ) (a : Agreed) : Type 0 where
  pub few : a.count ≤ a.at
  pub within : a.at ≤ length l

abbrev pub Counted : (labels : List ℕ) → Result Agreed ℕ → Type 0
Counted l r = IfOk r (Within l)
