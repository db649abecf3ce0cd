use mathlib.Core.Path.{refl, ap}
use mathlib.Core.List.{map}
use Rattle.model.specs.Load.{Composition}
use Rattle.model.proofs.Formed.Starts.{starts}
use Rattle.format.specs.Words.{given_words}
use Rattle.wrappers.specs.Compositions.{composition}
use Rattle.execution.proofs.BeginLaws.{zeros_long}
use Rattle.running.proofs.RunLaws.{run_start, next_head, next_fits, run_more, run_end, put_from}
use Rattle.running.proofs.runs.run_loaded.Goals as goal

pub begin_all-standing-requires : goal.begin_all-standing-requires
begin_all-standing-requires c = (c.requires.0, refl, zeros_long)

pub loop-k-init : goal.loop-k-init
loop-k-init c =
    let loads : Composition = composition c.args.wrapper (map (λ c. c.now) c.args.nodes) (map (λ c. c.now) c.args.pools) in
    let g = c.begin_all-standing.ensures in
    (c.requires.1.room, record { lent = g.lent; ready = starts loads _ g.loads; shelved = g.shelved }, run_start _ _ _ _ _ c.requires.1.count)

pub make_step-a-requires : goal.make_step-a-requires
make_step-a-requires c =
    let i = c.loop-k.invariant in
    (i.1, record { head = next_head i.2 c.loop-k-test.true; fits = next_fits i.2 c.loop-k-test.true })

pub next_place-p-requires : goal.next_place-p-requires
next_place-p-requires c =
    let i = c.loop-k.invariant in
    (next_head i.2 c.loop-k-test.true, next_fits i.2 c.loop-k-test.true)

pub loop-k-preserved : goal.loop-k-preserved
loop-k-preserved c =
    let i = c.loop-k.invariant in
    let made = c.make_step-a.ensures in
    let put = c.put_answer.ensures in
    (i.0, made.runs, run_more i.2 c.loop-k-test.true i.0 _ _ _ _ (ap given_words made.answer) put.0 made.after put.1 c.next_place-p.ensures)

pub returns : goal.returns
returns c = λ s e xs f.
    let i = c.loop-k.invariant in
    put_from _ s _ xs _ _ _ c.begin_all-standing.ensures.loads e (run_end i.2 c.loop-k-test.false i.0 xs f)
