use Rattle.values.specs.Span.{leaf_of}
use Rattle.environments.proofs.Bindings.{parts_bindable, binding_yes, binding_no}
use Rattle.environments.proofs.matching.match_value.Goals as goal

pub bind_parts-requires : goal.bind_parts-requires
unfolding leaf_of
bind_parts-requires c =
    let a = c.args in
    parts_bindable a.pool.now a.place a.e.now a.n a.v c.requires _ c.words_at-s.ensures c.in_ok-m.m c.in_ok-m.ensures

pub returns : goal.returns
unfolding leaf_of
returns c =
    let a = c.args in
    binding_yes a.pool.now a.place a.e.now a.n a.v c.requires _ c.words_at-s.ensures c.in_ok-m.m c.in_ok-m.ensures _ _ c.bind_parts.ensures

pub returns-in_err-m : goal.returns-in_err-m
unfolding leaf_of
returns-in_err-m c =
    let a = c.args in
    rw c.from_residual.ensures (binding_no a.pool.now a.place a.e.now a.n a.v c.requires _ c.words_at-s.ensures c.in_err-m.ensures)
