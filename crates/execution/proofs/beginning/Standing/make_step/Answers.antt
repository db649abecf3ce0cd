use mathlib.Core.Path.{◌≡◌}
use lib.ListN.{length}
use Rattle.execution.proofs.StepsMade.{may_step, makes}
use borrow.Author.Rules.{rules}
use Rattle.execution.proofs.beginning.Standing.make_step.Goals as goal

pub step_at-d-requires : goal.step_at-d-requires
step_at-d-requires c =
    let nodes-long : length c.args.nodes ≡ 2 = search (rules, c.well_formed) in
    let pools-long : length c.args.pools ≡ 2 = search (rules, c.well_formed) in
    (may_step (λ c. c.now) _ c.args.nodes c.args.pools c.requires.0 nodes-long pools-long _ _ c.place_asked-i.ensures _ _ _, c.requires.1)

pub returns : goal.returns
returns c =
    let nodes-long : length c.args.nodes ≡ 2 = search (rules, c.well_formed) in
    let pools-long : length c.args.pools ≡ 2 = search (rules, c.well_formed) in
    makes (λ c. c.now) _ c.args.nodes c.args.pools c.requires.0 nodes-long pools-long _ _ c.place_asked-i.ensures _ _ _ _ c.side_at-side.ensures _ _ _ c.step_at-d.ensures
