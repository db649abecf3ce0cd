-- An input that is read whole is run on the parts of the lists that its sides fill; any other gives the line at fault.
use mathlib.Core.Path.{sym, ◌∙◌}
use Prim.Native.Nat.{ℕ}
use lib.ListN.{length-replicate}
use lib.Seq.{length-take-le}
use Rattle.text.proofs.TextLaws.{fault_output, whole_read, whole_output, nodes_length, pools_length, nodes_room, pools_room, nodes_most, pools_most, words_within, given_whole, page_of}
use Rattle.text.proofs.output_on.Goals as goal

pub slice_bounds-parts-end : goal.slice_bounds-parts-end
slice_bounds-parts-end c =
    let w = whole_read _ c.read.ensures c.in-Ok.is in
    sym (nodes_length w ∙ length-replicate {A = ℕ} _ 0)

pub parts-ns-requires : goal.parts-ns-requires
parts-ns-requires c =
    let w = whole_read _ c.read.ensures c.in-Ok.is in
    (nodes_room w (length-replicate {A = ℕ} _ 0), nodes_most w)

pub slice_bounds-parts-end-in-Ok : goal.slice_bounds-parts-end-in-Ok
slice_bounds-parts-end-in-Ok c =
    let w = whole_read _ c.read.ensures c.in-Ok.is in
    sym (pools_length w ∙ length-replicate {A = ℕ} _ 0)

pub parts-ps-requires : goal.parts-ps-requires
parts-ps-requires c =
    let w = whole_read _ c.read.ensures c.in-Ok.is in
    (pools_room w (length-replicate {A = ℕ} _ 0), pools_most w)

pub slice_bounds-steps-end : goal.slice_bounds-steps-end
slice_bounds-steps-end c =
    let w = whole_read _ c.read.ensures c.in-Ok.is in
    words_within w (length-replicate {A = ℕ} _ 0)

pub slice_bounds-run_output-end : goal.slice_bounds-run_output-end
slice_bounds-run_output-end c =
    let w = whole_read _ c.read.ensures c.in-Ok.is in
    sym (length-take-le _ _ (words_within w (length-replicate {A = ℕ} _ 0)))

pub returns-in-Err : goal.returns-in-Err
returns-in-Err c = page_of _ c.fault.ensures (fault_output _ _ c.read.ensures c.in-Err.is)

pub returns-in-Ok : goal.returns-in-Ok
returns-in-Ok c =
    let w = whole_read _ c.read.ensures c.in-Ok.is in
    let given = given_whole w (length-replicate {A = ℕ} _ 0) (length-replicate {A = ℕ} _ 0) (length-replicate {A = ℕ} _ 0) _ _ c.parts-ns.ensures c.parts-ps.ensures in
    page_of _ (c.run_output.ensures w.input given) (whole_output _ w.input w.is)
