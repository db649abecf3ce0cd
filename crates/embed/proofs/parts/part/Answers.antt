use Rattle.embed.proofs.PartLaws.{part_ordered, part_between}
use Rattle.embed.proofs.parts.part.Goals as goal

pub slice_bounds-result-count : goal.slice_bounds-result-count
slice_bounds-result-count c =
    part_ordered c.args.words.now c.args.lengths.now c.args.k _ _ c.place-from.ensures c.place-to.ensures

pub slice_bounds-result-start : goal.slice_bounds-result-start
slice_bounds-result-start c =
    part_ordered c.args.words.now c.args.lengths.now c.args.k _ _ c.place-from.ensures c.place-to.ensures

pub returns : goal.returns
returns c =
    part_between c.args.words.now c.args.lengths.now c.args.k _ _ c.place-from.ensures c.place-to.ensures
