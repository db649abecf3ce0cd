-- The parts of the tables are run, and that is the run of what is lent.
use mathlib.Core.Path.{subst}
use lib.ListN.{length}
use Rattle.model.specs.Load.{Composition}
use Rattle.format.specs.Words.{run_of}
use Rattle.running.specs.Running.{RunIs}
use Rattle.embed.proofs.PartLaws.{lent_parts}
use Rattle.embed.proofs.NumberLaws.{run_done}
use Rattle.embed.proofs.bench_run.Goals as goal

pub returns-in-Ok : goal.returns-in-Ok
returns-in-Ok c =
    let a = c.args in
    let e = lent_parts a.wrapper _ _ a.tables.now a.lengths.now c.parts-nodes.ensures c.parts-pools.ensures in
    run_done (subst (λ (b : Composition). RunIs (run_of b a.steps.now (length a.out.now)) a.out.now c.run.new.out c.run.result) e c.run.ensures) _ c.in-Ok.is
