-- An answer as the structs hold it.
use Rattle.std.specs.Prelude.{◌≡◌, Bool, true, false, List, ◌++◌, ℕ, ◌-◌, length, replicate}
use Rattle.model.specs.Step.{silent, enters, leaves, logs, Answer, labelled, refusal}
use Rattle.model.specs.Answer.{Said as MSaid, label, number, Given}
use Rattle.values.specs.declared.Value.{Value}
use Rattle.steps.specs.declared.Said.{Said}
use Rattle.steps.specs.declared.Said.TheVariants as said

-- r has the words l, with zeros past them
pub record Padded (l : List ℕ) (r : Value) : Type 0 where
  pub len : r.len ≡ length l
  pub words : r.words ≡ l ++ replicate (16 - length l) 0

-- the label or the refusal that is said
abbrev pub said_of : Said → MSaid
said_of said.In = label enters
said_of said.Out = label leaves
said_of said.Log = label logs
said_of said.Silent = label silent
said_of (said.Refused n) = number n

-- an answer of side n with the words l, and zeros past them
abbrev pub given_for : Said → (side : ℕ) → List ℕ → Given
given_for a n l = record { said = said_of a; side = n; len = length l; words = l ++ replicate (16 - length l) 0 }

-- an answer is a refusal
abbrev pub is_refusal : Answer → Bool
is_refusal (labelled l n v) = false
is_refusal (refusal k n) = true
