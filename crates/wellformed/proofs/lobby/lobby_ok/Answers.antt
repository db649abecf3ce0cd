use Rattle.std.proofs.Common.{◌≤◌, ◌∙◌, ap, take, rules}
use Rattle.std.proofs.iter.runs.Made.{chains}
use Rattle.std.proofs.lemmas.Iterator.{YieldsList-from_slice}
use Rattle.std.proofs.lemmas.Iterator.Adapters.{serves_from_places}
use borrow.Author.Tests.{leb-true}
use Rattle.model.proofs.Basics.Tests.{fst, snd}
use Rattle.model.specs.WellFormed.{wf_message}
use Rattle.wrappers.specs.Copies.{log_if}
use Rattle.sides.specs.Views.{view_message, fits_message}
use Rattle.wellformed.proofs.TestLaws.{each, each_at, every_map}
use Rattle.wellformed.proofs.lobby.lobby_ok.Goals as goal

pub shared_ref_as_front-iter : goal.shared_ref_as_front-iter
shared_ref_as_front-iter c = leb-true _ _ (fst _ _ c.requires)

pub all-requires-clause-callable : goal.all-requires-clause-callable
all-requires-clause-callable c =
    let held = take c.args.l.now.len c.args.l.now.msgs in
    serves_from_places (YieldsList-from_slice held (search rules)) (λ x q r. search rules) (λ x k below is.
    let fits : x.now.value.len ≤ 16 = leb-true _ _ (ap fits_message is ∙ each_at fits_message held (snd _ _ c.requires) k x.now below) in
    search (rules, fits))

pub returns : goal.returns
returns c =
    let a = c.args in
    let test = wf_message a.shelved (log_if a.logging) a.counts.now in
    let held = take a.l.now.len a.l.now.msgs in
    each (λ m. test (view_message m)) held c.all.result (search (rules, chains)) ∙ every_map test view_message held
