-- The states of the table are well formed, or not, as it says: by computation.
use mathlib.Core.Path.{refl}
use Rattle.model.specs.Basics.{◌&◌, ◌or◌, choose, bind, need, pick}
use Rattle.model.specs.Values.{items, shaped, is_value, at, rest_of, first_of, matches}
use Rattle.model.specs.Table.{child_times, build, decode, term, scope_up}
use Rattle.model.specs.Checks.{check1, check2, times_child, check3, check4, pattern_ok, check5, over, over_all, first_bad, found, fault}
use Rattle.model.specs.Side.{limits}
use Rattle.model.specs.Unfolding.{unfolds, defined}
use Rattle.model.specs.Load.{start, side_fault, lack_fault, load_sides, load}
use Rattle.model.specs.WellFormed.{held, held_word, wf_value, wf_tag, wf_particle, wf_boxes, wf_contents, wf_message, wf_core, wf_left, wf_side, wf_taken, is_no_side, wf_side_of, wf_state}
use Rattle.model.specs.FormedStates.{FormedStates}

pub formed_states : FormedStates
unfolding ◌&◌ ◌or◌ choose bind need pick items shaped is_value at rest_of first_of matches child_times build decode term scope_up check1 check2 times_child check3 check4 pattern_ok check5 over over_all
    first_bad found fault limits unfolds defined start side_fault lack_fault load_sides load held held_word wf_value wf_tag wf_particle wf_boxes wf_contents wf_message wf_core wf_left wf_side wf_taken is_no_side
    wf_side_of wf_state FormedStates
formed_states = (refl, refl)
