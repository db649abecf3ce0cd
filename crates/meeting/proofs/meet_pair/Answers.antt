use mathlib.Core.Path.{refl, sym, ap, ◌∙◌}
use Prim.Native.Nat.{ℕ}
use Rattle.model.specs.Table.{field}
use Rattle.tables.specs.Nodes.{table}
use Rattle.meeting.specs.Meeting.{with_table}
use Rattle.meeting.proofs.Meetings.{Joined, two_rows, rows_apart, replicated_is, pair_refused, room_asks, pair_full, body_can, pair_did}
use borrow.Author.Rules.{rules}
use Rattle.meeting.proofs.meet_pair.Goals as goal
use Rattle.meeting.proofs.meet_pair.Goals.{After-rows_left-left}

-- where the two join
joined : (p : After-rows_left-left) → let a = p.args in
    Joined (table a.nodes.now a.pool.now) a.side a.rows.now a.o a.i a.j p.join_offer-a.new.e p.in-At.d p.eq-replicated.result p.rows_left-left.result p.node_at-x.result.d
joined p =
    let t = table p.args.nodes.now p.args.pool.now in
    let node = p.word_at.ensures in
    record {
      given = p.requires;
      joins = p.in-At.ensures;
      again = replicated_is p.args.nodes.now p.args.pool.now node p.node_at-x.ensures _ p.kind.ensures p.eq-replicated.ensures;
      rows = p.rows_left-left.ensures;
      body = p.node_at-x.ensures.f4 ∙ ap (λ (k : ℕ). field t k 4) node;
    }

pub returns-in_default : goal.returns-in_default
returns-in_default c =
    let s = with_table c.args.side (table c.args.nodes.now c.args.pool.now) in
    pair_refused c.requires c.join_offer-a.new.e c.in_default.ensures c.in_default.is c.refused.ensures s refl

pub rows_left-left-requires : goal.rows_left-left-requires
rows_left-left-requires c = two_rows c.requires

pub room_offer-f-requires : goal.room_offer-f-requires
room_offer-f-requires c = room_asks (joined c)

pub returns-in_default-f : goal.returns-in_default-f
returns-in_default-f c =
    let s = with_table c.args.side (table c.args.nodes.now c.args.pool.now) in
    pair_full (joined (goal.at.returns-in_default-f c).After-rows_left-left) c.in_default-f.ensures c.in_default-f.is c.refused-in_default-f.ensures s refl

pub word_at-b-requires : goal.word_at-b-requires
word_at-b-requires c = let J = c.requires.joinable in (J.waits.long, J.row, search rules)

pub remove_pair-requires : goal.remove_pair-requires
remove_pair-requires c = rows_apart c.requires

pub slice_bounds-unfold_at-end : goal.slice_bounds-unfold_at-end
slice_bounds-unfold_at-end c = sym c.in-At.ensures.words.long

pub unfold_at-u-requires : goal.unfold_at-u-requires
unfold_at-u-requires c = body_can (joined (goal.at.unfold_at-u-requires c).After-rows_left-left) c.in-At-f.ensures c.remove_pair.ensures c.word_at-b.ensures

pub returns : goal.returns
returns c =
    let s = with_table c.args.side (table c.args.nodes.now c.args.pool.now) in
    pair_did (joined (goal.at.returns c).After-rows_left-left) c.in-At-f.ensures c.remove_pair.ensures c.word_at-b.ensures c.unfold_at-u.ensures s refl refl
    c.put_into.ensures c.plain.ensures
