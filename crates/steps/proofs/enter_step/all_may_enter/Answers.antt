use mathlib.Core.Path.{◌≡◌}
use mathlib.Core.Bool.{true, false}
use borrow.Author.Rules.{rules}
use Rattle.std.proofs.lemmas.Iterator.{cases_from_all, YieldsList-from_slice}
use Rattle.steps.specs.Asked.{may_enter}
use Rattle.steps.proofs.EnterSteps.{all_every}
use Rattle.steps.proofs.enter_step.all_may_enter.Goals as goal

pub returns : goal.returns
returns c =
    let ms = c.args.marks.now in
    all_every (may_enter ms) c.args.words.now _
    (cases_from_all _ _ _ (λ w. may_enter ms w ≡ true) (λ w. may_enter ms w ≡ false) c.all.ensures.ran (YieldsList-from_slice c.args.words.now cc)
    (λ x q k. search rules) (λ x q k. search rules))
