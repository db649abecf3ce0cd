-- By computation.
use mathlib.Core.Path.{refl}
use Rattle.model.specs.Basics.{◌&◌, ◌or◌, choose, bind, need}
use Rattle.model.specs.Values.{items, at}
use Rattle.model.specs.Table.{child_times, build, decode, term}
use Rattle.model.specs.Checks.{check1, check2, times_child, check3, check4, pattern_ok, check5, over, over_all, first_bad, found, fault}
use Rattle.model.specs.Unfolding.{unfolds}
use Rattle.model.specs.Load.{start, side_fault, lack_fault, load_sides, load}
use Rattle.largest.specs.Largest.{LargestTables}

pub largest_tables : LargestTables
unfolding ◌&◌ ◌or◌ choose bind need items at child_times build decode term check1 check2 times_child check3 check4 pattern_ok check5 over over_all first_bad found fault unfolds start side_fault lack_fault load_sides load LargestTables
largest_tables = (refl, refl)
