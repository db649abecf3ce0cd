-- A side's step as the answer that is given.
use mathlib.Core.Path.{◌≡◌, refl, ap}
use mathlib.Core.List.{List, ◌++◌}
use Prim.Native.Nat.{ℕ, ◌-◌}
use native.Mathlib.Omega.{arith}
use lib.ListN.{length, replicate}
use Rattle.model.specs.Basics.{Res, refuse, done}
use Rattle.model.specs.Step.{Label, silent, enters, leaves, logs, Moved, Answer, labelled, refusal, answer_of}
use Rattle.model.specs.Answer.{Said as MSaid, label, said_by, side_by, value_by, Given, given}
use Rattle.values.specs.Env.{view_value}
use Rattle.sides.specs.declared.Rest.{Rest}
use Rattle.steps.specs.declared.Said.{Said}
use Rattle.steps.specs.declared.Said.TheVariants as said
use Rattle.steps.specs.StepIs.{label_of}
use Rattle.steps.specs.declared.RestStep.{RestStep}
use Rattle.steps.specs.StepIs.{StepIs}
use Rattle.answers.specs.Answers.{said_of, given_for}

-- AN ANSWER AS IT IS GIVEN
pub same_given : {a b : MSaid} {m n : ℕ} {i j : ℕ} {l r : List ℕ} → a ≡ b → m ≡ n → i ≡ j → l ≡ r → ◌≡◌ {A = Given} (record { said = a; side = m; len = i; words = l }) (record { said = b; side = n; len = j; words = r })
same_given p q r s = rw (p, q, r, s)

said_of_lem : (y : Said) (l : Label) → label_of y ≡ done l → said_of y ≡ label l
said_of_lem said.In l e = let z : enters ≡ l = cc in ap label z
said_of_lem said.Out l e = let z : leaves ≡ l = cc in ap label z
said_of_lem said.Log l e = let z : logs ≡ l = cc in ap label z
said_of_lem said.Silent l e = let z : silent ≡ l = cc in ap label z
said_of_lem (said.Refused n) l e = let z : ◌≡◌ {A = ℕ} 0 1 = cc in absurd (omega arith)

given_by : (k : ℕ) (y : Said) (l : List ℕ) (a : Answer) → said_of y ≡ said_by a → k ≡ side_by a → l ≡ value_by a → given_for y k l ≡ given a
given_by k y l a p q v = same_given p q (ap length v) (ap (λ (x : List ℕ). x ++ replicate (16 - length x) 0) v)

-- A SIDE'S STEP as its answer
module _ (l : List ℕ) (o : Rest) (m : List ℕ) (r : RestStep) where
  pub step_given : (k : ℕ) (x : Res Moved) → StepIs x l o m r → given_for r.said k (view_value r.value) ≡ given (answer_of k x)
  step_given k (refuse n) h = given_by k r.said _ (refusal n k) (ap said_of h.is.says) refl h.is.value
  step_given k (done v) h = given_by k r.said _ (labelled v.label k v.val) (said_of_lem r.said v.label h.is.says) refl h.is.value
