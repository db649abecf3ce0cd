use mathlib.Core.Path.{refl}
use Rattle.tables.specs.Nodes.{table}
use Rattle.sides.specs.Sides.{core_of}
use Rattle.steps.proofs.Held.{rows_cap, offer_refused}
use Rattle.meeting.specs.Meeting.{with_table}
use Rattle.meeting.proofs.Meetings.{meetable_sane, pair_able, met_at}
use Rattle.meeting.proofs.meet.Goals as goal

pub pair_offer-a-requires : goal.pair_offer-a-requires
pair_offer-a-requires c = (c.requires.long, rows_cap c.args.rows.now c.args.o (meetable_sane c.requires))

pub returns-in_default : goal.returns-in_default
returns-in_default c =
    let a = c.args in
    let s = with_table a.side (table a.nodes.now a.pool.now) in
    offer_refused a.rows.now (c.in_default.ensures s (core_of a.rows.now a.o) refl) c.in_default.is c.refused.ensures

pub meet_pair-requires : goal.meet_pair-requires
meet_pair-requires c =
    let a = c.args in
    pair_able c.requires (c.in-At.ensures (with_table a.side (table a.nodes.now a.pool.now)) (core_of a.rows.now a.o) refl).1

pub returns : goal.returns
returns c =
    let a = c.args in
    let s = with_table a.side (table a.nodes.now a.pool.now) in
    met_at s a.rows.now a.o a.i a.j _ (c.in-At.ensures s (core_of a.rows.now a.o) refl).0 c.meet_pair.ensures
