use mathlib.Core.List.{map}
use Rattle.model.specs.Load.{load}
use Rattle.wrappers.specs.Compositions.{composition}
use Rattle.interpreter.proofs.LoadLaws.{all_startable, load_refused, load_done}
use Rattle.interpreter.proofs.load_state.load.Goals as goal

pub returns-in-Err : goal.returns-in-Err
returns-in-Err c =
    let b = composition c.args.wrapper (map (λ c. c.now) c.args.nodes) (map (λ c. c.now) c.args.pools) in
    let v = c.load_verdict-outcome in
    load_refused (load b) v.result c.empty_state-state.result v.ensures _ c.in-Err.is c.empty_state-state.ensures

pub start_state-state-requires : goal.start_state-state-requires
start_state-state-requires c =
    let b = composition c.args.wrapper (map (λ c. c.now) c.args.nodes) (map (λ c. c.now) c.args.pools) in
    let v = c.load_verdict-outcome in
    all_startable b v.result v.ensures _ c.in-Ok.is

pub returns-in-Ok : goal.returns-in-Ok
returns-in-Ok c =
    let b = composition c.args.wrapper (map (λ c. c.now) c.args.nodes) (map (λ c. c.now) c.args.pools) in
    let v = c.load_verdict-outcome in
    load_done b v.result v.ensures _ c.in-Ok.is c.start_state-state.result c.start_state-state.ensures
