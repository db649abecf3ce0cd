-- What it is for a function on a side's words and the rest of the side to be a step of the model, and what such a function asks.
use Rattle.std.specs.Prelude.{◌≡◌, Bool, true, List, [], ℕ, ◌≤◌, ltb, length}
use Rattle.model.specs.Basics.{Res, refuse, done, every}
use Rattle.model.specs.Side.{limits, Particle, output, input}
use Rattle.model.specs.Step.{Label, silent, enters, leaves, logs, Moved, short}
use Rattle.values.specs.Env.{view_value}
use Rattle.sides.specs.declared.Rest.{Rest}
use Rattle.sides.specs.Layout.{view_rows, view_boxes}
use Rattle.sides.specs.Sides.{core_of, fits_side}
use Rattle.steps.specs.declared.Said.{Said}
use Rattle.steps.specs.declared.Said.TheVariants as said
use Rattle.steps.specs.declared.RestStep.{RestStep}

-- what is said: a label, or the number of a refusal
abbrev pub label_of : Said → Res Label
label_of said.In = done enters
label_of said.Out = done leaves
label_of said.Log = done logs
label_of said.Silent = done silent
label_of (said.Refused n) = refuse n

-- refusal n: the very words and the very struct stay, and no value is said
pub record Stays (n : ℕ) (l : List ℕ) (o : Rest) (m : List ℕ) (r : RestStep) : Type 0 where
  pub says : r.said ≡ said.Refused n
  pub words : m ≡ l
  pub kept : r.rest ≡ o
  pub value : view_value r.value ≡ []
  pub short_value : r.value.len ≤ 16

-- what the model's step does: its label and value, its core, as many words as before, every count within its array
pub record Becomes (d : Moved) (l m : List ℕ) (r : RestStep) : Type 0 where
  pub says : label_of r.said ≡ done d.label
  pub value : view_value r.value ≡ d.val
  pub short_value : r.value.len ≤ 16
  pub core : core_of m r.rest ≡ d.core
  pub long : length m ≡ length l
  pub arrays : fits_side m r.rest ≡ true

abbrev pub Outcome : Res Moved → List ℕ → Rest → List ℕ → RestStep → Type 0
Outcome (refuse n) l o m r = Stays n l o m r
Outcome (done d) l o m r = Becomes d l m r

-- the words m and the answer r are what the model's result x makes of the words l and the rest o
pub record StepIs (x : Res Moved) (l : List ℕ) (o : Rest) (m : List ℕ) (r : RestStep) : Type 0 where
  pub is : Outcome x l o m r

-- a particle's box is one of n
abbrev pub housed : ℕ → Particle → Bool
housed n (output b c g v) = ltb b n
housed n (input b m vs) = ltb b n

-- what the steps ask of a side; a well-formed one has it (proofs/Held.antt)
pub record Sane (l : List ℕ) (o : Rest) : Type 0 where
  pub long : length l ≡ 5184
  pub arrays : fits_side l o ≡ true
  pub few : limits (core_of l o) ≡ true
  pub short_outputs : every short (view_rows l o.particles) ≡ true
  pub homes : every (housed (length (view_boxes l o.boxes))) (view_rows l o.particles) ≡ true
