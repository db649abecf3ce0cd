use mathlib.Core.Path.{◌≡◌}
use lib.ListN.{length}
use Rattle.interpreter.specs.Answered.{words_in}
use Rattle.interpreter.proofs.StepLaws.{Filled, LongTo}
use Rattle.interpreter.proofs.step_state.take_out.Given as goal

abbrev pub invariant-loop-k : goal.invariant-loop-k
invariant-loop-k l =
    (length l.rows ≡ 2) × (length l.marks ≡ 2) × Filled (λ o. o.words) l.s.sides l.k l.rows × Filled (λ o. o.left) l.s.sides l.k l.marks × LongTo l.k (words_in l.s)
