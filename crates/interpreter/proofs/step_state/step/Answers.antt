use mathlib.Core.Path.{sym, ◌∙◌}
use mathlib.Core.List.{map}
use Rattle.model.proofs.Basics.Tests.{fst, snd}
use Rattle.wrappers.specs.Compositions.{composition}
use Rattle.dispatch.specs.Stepping.{asked}
use Rattle.interpreter.proofs.StepLaws.{step_none, step_ready, step_unready}
use Rattle.interpreter.proofs.step_state.step.Goals as goal
use Rattle.interpreter.proofs.step_state.step.Goals.{else-is_ready-via-then-is_ready+else-has_side, else-is_ready-via-else-is_ready}

pub step_side-requires : goal.step_side-requires
step_side-requires c =
    let b = composition c.args.wrapper (map (λ c. c.now) c.args.nodes) (map (λ c. c.now) c.args.pools) in
    let s = c.args.s in
    let p = c.is_ready in
    let y = sym p.ensures ∙ c.if-is_ready.true in
    let f = fst _ _ y in
    let e = snd _ _ y in
    (f, e, sym c.has_side.ensures ∙ c.if-has_side.true)

pub returns-then-has_side : goal.returns-then-has_side
returns-then-has_side c =
    let b = composition c.args.wrapper (map (λ c. c.now) c.args.nodes) (map (λ c. c.now) c.args.pools) in
    let s = c.args.s in
    let q = asked c.args.kind c.args.side c.args.i c.args.j c.args.words.now in
    let p = c.is_ready in
    let y = sym p.ensures ∙ c.if-is_ready.true in
    let f = fst _ _ y in
    let e = snd _ _ y in
    step_ready b s q c.step_side.result f c.step_side.ensures

pub returns-else-is_ready : goal.returns-else-is_ready
returns-else-is_ready c =
    let b = composition c.args.wrapper (map (λ c. c.now) c.args.nodes) (map (λ c. c.now) c.args.pools) in
    let s = c.args.s in
    let q = asked c.args.kind c.args.side c.args.i c.args.j c.args.words.now in
    let r = c.refused in
    elim c.else-is_ready.branch [
      | else-is_ready-via-then-is_ready+else-has_side w ↦
          let y = sym c.is_ready.ensures ∙ w.if-is_ready.true in
          step_ready b s q r.result (fst _ _ y) (step_none b s q r.result (fst _ _ y) (snd _ _ y) (sym w.has_side.ensures ∙ w.if-has_side.false) r.ensures)
      | else-is_ready-via-else-is_ready w ↦ step_unready b s q r.result (sym c.is_ready.ensures ∙ w.if-is_ready.false) r.ensures
    ]
