use mathlib.Core.Path.{◌≡◌, ap, ◌∙◌}
use Prim.Native.Nat.{ℕ}
use Rattle.model.specs.Table.{field}
use Rattle.tables.specs.Nodes.{table}
use Rattle.meeting.specs.Meeting.{node_at}
use Rattle.meeting.proofs.Joining.{fit_asks, join_13, Fitted, match_asks, join_14, body_asks, join_body}
use Rattle.meeting.proofs.pairs.join_offer.Goals as goal
use Rattle.meeting.proofs.pairs.join_offer.Goals.{After-value_at}

-- where the two fit
fitted : (p : After-value_at) → let a = p.args in
    Fitted (table a.nodes.now a.pool.now) a.rows.now a.i a.j a.e.now p.input_env-d.new.e p.input_env-d.result p.node_at-x.result.c p.value_at.result
fitted p =
    let t = table p.args.nodes.now p.args.pool.now in
    let fit = p.in-At.ensures p.args.pool.now in
    record {
      joinable = p.requires.0;
      width = p.requires.1;
      env = p.input_env-d.ensures;
      fit = fit.1;
      place = p.node_at-x.ensures.f3 ∙ ap (λ (k : ℕ). field t k 3) fit.0;
      value = p.value_at.ensures;
    }

-- the body's node
body : (p : After-value_at) → let a = p.args in p.node_at-x.result.d ≡ field (table a.nodes.now a.pool.now) (node_at a.rows.now a.j) 4
body p =
    let t = table p.args.nodes.now p.args.pool.now in
    p.node_at-x.ensures.f4 ∙ ap (λ (k : ℕ). field t k 4) (p.in-At.ensures p.args.pool.now).0

pub fit_offer-a-requires : goal.fit_offer-a-requires
fit_offer-a-requires c = fit_asks c.requires.0 c.requires.1 c.input_env-d.ensures

pub returns-in_default : goal.returns-in_default
returns-in_default c = rw c.in_default.is (join_13 c.requires.0 c.requires.1 c.input_env-d.ensures (c.in_default.ensures c.args.pool.now) c.input_env-d.new.e)

pub match_offer-b-requires : goal.match_offer-b-requires
match_offer-b-requires c = match_asks (fitted c)

pub returns-in_default-b : goal.returns-in_default-b
returns-in_default-b c = rw c.in_default-b.is (join_14 (fitted (goal.at.returns-in_default-b c).After-value_at) c.in_default-b.ensures c.match_offer-b.new.e)

pub body_offer-requires : goal.body_offer-requires
body_offer-requires c =
    let p = (goal.at.body_offer-requires c).After-value_at in
    body_asks (fitted p) c.match_offer-b.new.e c.in-At-b.ensures (body p)

pub returns : goal.returns
returns c =
    let p = (goal.at.returns c).After-value_at in
    join_body (fitted p) c.match_offer-b.new.e c.in-At-b.ensures (body p) c.body_offer.result c.body_offer.ensures
