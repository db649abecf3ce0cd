use mathlib.Core.Path.{sym, ◌∙◌}
use mathlib.Core.List.{map}
use Rattle.wrappers.specs.Compositions.{composition}
use Rattle.interpreter.proofs.StepLaws.{ready_refused, tables_pass, ready_formed}
use Rattle.interpreter.proofs.step_state.is_ready.Goals as goal

pub well_formed-requires : goal.well_formed-requires
well_formed-requires c =
    let b = composition c.args.wrapper (map (λ c. c.now) c.args.nodes) (map (λ c. c.now) c.args.pools) in
    let v = c.load_verdict in
    tables_pass b c.args.s v.result v.ensures (sym c.is_ok.ensures.value ∙ c.if-is_ok.true)

pub returns-then-is_ok : goal.returns-then-is_ok
returns-then-is_ok c =
    let b = composition c.args.wrapper (map (λ c. c.now) c.args.nodes) (map (λ c. c.now) c.args.pools) in
    let v = c.load_verdict in
    ready_formed b c.args.s v.result v.ensures (sym c.is_ok.ensures.value ∙ c.if-is_ok.true) _ c.well_formed-then-is_ok.ensures

pub returns-else-is_ok : goal.returns-else-is_ok
returns-else-is_ok c =
    let b = composition c.args.wrapper (map (λ c. c.now) c.args.nodes) (map (λ c. c.now) c.args.pools) in
    let v = c.load_verdict in
    c.if-is_ok.false ∙ ready_refused b c.args.s v.result v.ensures (sym c.is_ok.ensures.value ∙ c.if-is_ok.false)
