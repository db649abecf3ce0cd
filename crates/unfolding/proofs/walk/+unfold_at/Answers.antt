use native.Mathlib.Omega.{arith}
use Rattle.tables.proofs.WalkLaws.{an_input}
use Rattle.unfolding.proofs.Walking.{names_few, left_less, right_less, box_less, new_less, left_can, right_can, par_is, box_free, box_can, box_is, name_free, new_can, new_is, output_can, output_is, input_can, input_is, nil_is}
use Rattle.unfolding.proofs.walk.+unfold_at.Goals as goal

pub unfold_at-q-requires : goal.unfold_at-q-requires
unfold_at-q-requires t c =
    let o = c.requires in
    let node = c.node_at-x.ensures in
    let par = c.in-Par.ensures in
    (left_less o node _ c.decreases par, left_can o node par)

pub unfold_at-requires : goal.unfold_at-requires
unfold_at-requires t c =
    let o = c.requires in
    let node = c.node_at-x.ensures in
    let par = c.in-Par.ensures in
    (right_less o node _ c.decreases par, right_can o node par c.unfold_at-q.ensures)

pub returns-in-Par : goal.returns-in-Par
returns-in-Par t c =
    let o = c.requires in
    let node = c.node_at-x.ensures in
    par_is o node c.in-Par.ensures c.unfold_at-q.ensures c.unfold_at.ensures

pub add_box-q-requires : goal.add_box-q-requires
add_box-q-requires t c =
    let o = c.requires in
    let node = c.node_at-x.ensures in
    let free = box_free o node c.in-Box.ensures in
    (o.long, free, omega (arith, o.place), o.width, names_few o node)

pub unfold_at-requires-in-Box : goal.unfold_at-requires-in-Box
unfold_at-requires-in-Box t c =
    let o = c.requires in
    let node = c.node_at-x.ensures in
    let put = c.add_box-q.ensures in
    let box = c.in-Box.ensures in
    (box_less o node _ c.decreases box, box_can o node box put.0 (put.1 c.args.pool.now))

pub returns-in-Box : goal.returns-in-Box
returns-in-Box t c =
    let o = c.requires in
    let node = c.node_at-x.ensures in
    let put = c.add_box-q.ensures in
    box_is o node c.in-Box.ensures put.0 (put.1 c.args.pool.now) c.unfold_at-in-Box.ensures

pub mint_name-q-requires : goal.mint_name-q-requires
mint_name-q-requires t c =
    let o = c.requires in
    let node = c.node_at-x.ensures in
    let free = name_free o node c.in-New.ensures in
    (o.narrow, free.0, o.width, free.1)

pub overflow_add-d : goal.overflow_add-d
overflow_add-d t c =
    let o = c.requires in
    let node = c.node_at-x.ensures in
    omega (arith, names_few o node)

pub unfold_at-requires-in-New : goal.unfold_at-requires-in-New
unfold_at-requires-in-New t c =
    let o = c.requires in
    let node = c.node_at-x.ensures in
    let put = c.mint_name-q.ensures in
    let new = c.in-New.ensures in
    (new_less o node _ c.decreases new, new_can o node new put.0 (put.1 c.args.pool.now))

pub returns-in-New : goal.returns-in-New
returns-in-New t c =
    let o = c.requires in
    let node = c.node_at-x.ensures in
    let put = c.mint_name-q.ensures in
    new_is o node c.in-New.ensures put.0 (put.1 c.args.pool.now) c.unfold_at-in-New.ensures

pub unfold_output-requires : goal.unfold_output-requires
unfold_output-requires t c =
    let o = c.requires in
    let node = c.node_at-x.ensures in
    output_can o node c.in-Out.ensures

pub returns-in-Out : goal.returns-in-Out
returns-in-Out t c =
    let o = c.requires in
    let node = c.node_at-x.ensures in
    output_is o node c.in-Out.ensures c.unfold_output.ensures

pub unfold_input-requires : goal.unfold_input-requires
unfold_input-requires t c =
    let o = c.requires in
    let node = c.node_at-x.ensures in
    input_can o node (an_input c.kind.ensures c.in-In.is)

pub returns-in-In : goal.returns-in-In
returns-in-In t c =
    let o = c.requires in
    let node = c.node_at-x.ensures in
    input_is o node (an_input c.kind.ensures c.in-In.is) c.unfold_input.ensures

pub returns-in-Nil : goal.returns-in-Nil
returns-in-Nil t c =
    nil_is c.requires c.node_at-x.ensures c.in-Nil.ensures
