-- The starred trials, and the further ones, by computation over the definitions.
use mathlib.Core.Path.{refl}
use mathlib.Core.List.{[], ◌∷◌}
use Rattle.model.specs.Basics.{◌&◌, ◌or◌, choose, bind, need, pick}
use Rattle.model.specs.Values.{items, shaped, is_value, at, rest_of, first_of, matches}
use Rattle.model.specs.Table.{child_times, build, decode, term, scope_up}
use Rattle.model.specs.Checks.{check1, check2, times_child, check3, check4, pattern_ok, check5, over, over_all, first_bad, found, fault}
use Rattle.model.specs.Side.{State, limits, start_side}
use Rattle.model.specs.Unfolding.{unfolds, defined}
use Rattle.model.specs.Load.{Composition, table, start, side_fault, lack_fault, load_sides, load}
use Rattle.model.specs.WellFormed.{held, held_word, wf_value, wf_tag, wf_particle, wf_boxes, wf_contents, wf_message, wf_core, wf_left, wf_side, wf_taken, is_no_side, wf_side_of, wf_state, ready}
use Rattle.model.specs.Step.{enter, go_down, up_from, up_particle, up, descend_particle, descend, meet_term, meet_particles, meet, pass, leave, takes, route_to, inner, local, settled, mark1, step}
use Rattle.model.specs.Stranded.{lobby_asked, stranded_from}
use Rattle.model.specs.Trials.{nothing_at_all, run_from, outcome, Trials}
use Rattle.model.specs.MoreTrials.{MoreTrials}
use Rattle.model.specs.LoggingTrials.{LoggingTrials}
use Rattle.model.specs.OutsideTrials.{copying, to_mid, OutsideRuns, OutsideTrials}
use Rattle.model.specs.StrandedTrials.{StrandedTrials}
use Rattle.model.specs.Runs.{answers, after_all, premise}

pub trials_pass : Trials
unfolding ◌&◌ ◌or◌ choose bind need pick items shaped is_value at rest_of first_of matches child_times build decode term scope_up check1 check2 times_child check3 check4 pattern_ok check5 over over_all
    first_bad found fault limits unfolds defined start side_fault lack_fault load_sides load held held_word wf_value wf_tag wf_particle wf_boxes wf_contents wf_message wf_core wf_left wf_side wf_taken is_no_side
    wf_side_of wf_state ready enter go_down up_from up_particle up descend_particle descend meet_term meet_particles meet pass leave takes route_to inner local settled mark1 step lobby_asked stranded_from
    run_from outcome Trials
trials_pass = refl

pub more_trials_pass : MoreTrials
unfolding ◌&◌ ◌or◌ choose bind need pick items shaped is_value at rest_of first_of matches child_times build decode term scope_up check1 check2 times_child check3 check4 pattern_ok check5 over over_all
    first_bad found fault limits unfolds defined start side_fault lack_fault load_sides load held held_word wf_value wf_tag wf_particle wf_boxes wf_contents wf_message wf_core wf_left wf_side wf_taken is_no_side
    wf_side_of wf_state ready enter go_down up_from up_particle up descend_particle descend meet_term meet_particles meet pass leave takes route_to inner local settled mark1 step lobby_asked stranded_from
    run_from outcome MoreTrials
more_trials_pass = (refl, refl, refl, refl)

pub logging_trials_pass : LoggingTrials
unfolding ◌&◌ ◌or◌ choose bind need pick items shaped is_value at rest_of first_of matches child_times build decode term scope_up check1 check2 times_child check3 check4 pattern_ok check5 over over_all
    first_bad found fault limits unfolds defined start side_fault lack_fault load_sides load held held_word wf_value wf_tag wf_particle wf_boxes wf_contents wf_message wf_core wf_left wf_side wf_taken is_no_side
    wf_side_of wf_state ready enter go_down up_from up_particle up descend_particle descend meet_term meet_particles meet pass leave takes route_to inner local settled mark1 step lobby_asked stranded_from
    run_from outcome LoggingTrials
logging_trials_pass = (refl, refl)

pub outside_trials_pass : OutsideTrials
unfolding ◌&◌ ◌or◌ choose bind need pick items shaped is_value at rest_of first_of matches child_times build decode term scope_up check1 check2 times_child check3 check4 pattern_ok check5 over over_all
    first_bad found fault limits unfolds defined start side_fault lack_fault load_sides load held held_word wf_value wf_tag wf_particle wf_boxes wf_contents wf_message wf_core wf_left wf_side wf_taken is_no_side
    wf_side_of wf_state ready enter go_down up_from up_particle up descend_particle descend meet_term meet_particles meet pass leave takes route_to inner local settled mark1 step lobby_asked stranded_from
    run_from outcome OutsideTrials
outside_trials_pass = (refl, refl)

pub stranded_trials_pass : StrandedTrials
unfolding ◌&◌ ◌or◌ choose bind need pick items shaped is_value at rest_of first_of matches child_times build decode term scope_up check1 check2 times_child check3 check4 pattern_ok check5 over over_all
    first_bad found fault limits unfolds defined start side_fault lack_fault load_sides load held held_word wf_value wf_tag wf_particle wf_boxes wf_contents wf_message wf_core wf_left wf_side wf_taken is_no_side
    wf_side_of wf_state ready enter go_down up_from up_particle up descend_particle descend meet_term meet_particles meet pass leave takes route_to inner local settled mark1 step lobby_asked stranded_from
    run_from outcome StrandedTrials
stranded_trials_pass = refl

-- by computation
pub outside_runs : OutsideRuns
unfolding ◌&◌ ◌or◌ choose bind need pick items shaped is_value at rest_of first_of matches child_times build decode term scope_up check1 check2 times_child check3 check4 pattern_ok check5 over over_all
    first_bad found fault limits unfolds defined start side_fault lack_fault load_sides load held held_word wf_value wf_tag wf_particle wf_boxes wf_contents wf_message wf_core wf_left wf_side wf_taken is_no_side
    wf_side_of wf_state ready enter go_down up_from up_particle up descend_particle descend meet_term meet_particles meet pass leave takes route_to inner local settled mark1 step answers
    after_all premise OutsideRuns
outside_runs = (state (copying nothing_at_all []), state (copying to_mid (10 ∷ [])), refl, refl, refl, refl, refl, refl, refl, refl)
  where
    state : Composition → State
    state b = record { sides = start_side (start 1 (table b 1)) ∷ start_side (start 2 (table b 2)) ∷ [] }
