-- The trials of the checker, by computation over the definitions.
use mathlib.Core.Path.{refl}
use Rattle.model.specs.Basics.{◌&◌, ◌or◌, choose, bind, need, pick}
use Rattle.model.specs.Values.{items, shaped, is_value, at, rest_of, first_of, matches}
use Rattle.model.specs.Table.{child_times, build, decode, term, scope_up}
use Rattle.model.specs.Checks.{check1, check2, times_child, check3, check4, pattern_ok, check5, over, over_all, first_bad, found, fault}
use Rattle.model.specs.Side.{limits}
use Rattle.model.specs.Unfolding.{unfolds, defined}
use Rattle.model.specs.Load.{start, side_fault, lack_fault, load_sides, load}
use Rattle.model.specs.WellFormed.{held, held_word, wf_value, wf_tag, wf_particle, wf_boxes, wf_contents, wf_message, wf_core, wf_left, wf_side, wf_taken, is_no_side, wf_side_of, wf_state, ready}
use Rattle.model.specs.Step.{enter, go_down, up_from, up_particle, up, descend_particle, descend, meet_term, meet_particles, meet, pass, leave, takes, route_to, inner, local, settled, mark1, step}
use Rattle.claims.specs.Claims.{records_past, trace_of, step_fault, label_fault, check_trace}
use Rattle.claims.specs.ClaimTrials.{ClaimTrials}

pub claim_trials_pass : ClaimTrials
unfolding ◌&◌ ◌or◌ choose bind need pick items shaped is_value at rest_of first_of matches child_times build decode term scope_up check1 check2 times_child check3 check4 pattern_ok check5 over over_all
    first_bad found fault limits unfolds defined start side_fault lack_fault load_sides load held held_word wf_value wf_tag wf_particle wf_boxes wf_contents wf_message wf_core wf_left wf_side wf_taken is_no_side
    wf_side_of wf_state ready enter go_down up_from up_particle up descend_particle descend meet_term meet_particles meet pass leave takes route_to inner local settled mark1 step records_past trace_of step_fault
    label_fault check_trace ClaimTrials
claim_trials_pass = refl
