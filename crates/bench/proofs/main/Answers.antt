-- The output ends within the page.
use mathlib.Core.Path.{sym}
use lib.Seq.{length-take-le}
use Rattle.writing.proofs.WrittenLaws.{page_within}
use Rattle.bench.proofs.main.Goals as goal

pub slice_bounds-page-end : goal.slice_bounds-page-end
slice_bounds-page-end c = page_within c.output_on-m.ensures

pub slice_bounds-write_all-end : goal.slice_bounds-write_all-end
slice_bounds-write_all-end c = sym (length-take-le _ _ (page_within c.output_on-m.ensures))
