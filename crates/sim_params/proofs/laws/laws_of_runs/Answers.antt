-- Each law is a lemma.
use Rattle.std.proofs.Common.{Contains}
use Rattle.sim_params.proofs.Interleavings.{run_is_each_possible, run_interleaving, complete_interleaving, run_length, possible_room}
use Rattle.sim_params.proofs.Fixed.{end_kept}
use Rattle.sim_params.proofs.Rise.{times_rise, newest_is_latest, possible_not_earlier_than_run}
use Rattle.sim_params.proofs.Unique.{next_unique, run_of_length_unique, one_run_extends_other, complete_run_extends_run, complete_run_unique}
use Rattle.sim_params.proofs.Exists.{next_or_finished, complete_run_exists}
use Rattle.goal_graph.proofs.ForCallers.{run_in_turn, in_turn_run}
use Rattle.sim_params.specs.Run.{IsNext, IsRun}
use Rattle.sim_params.proofs.Queue.{least_is_next}
use Rattle.sim_params.proofs.laws.laws_of_runs.Goals as goal

pub returns-clause-is_an_interleaving : goal.returns-clause-is_an_interleaving
returns-clause-is_an_interleaving c = run_interleaving

pub returns-clause-is_a_complete_interleaving : goal.returns-clause-is_a_complete_interleaving
returns-clause-is_a_complete_interleaving c = complete_interleaving

pub returns-clause-at_most_three_each : goal.returns-clause-at_most_three_each
returns-clause-at_most_three_each c = run_length

pub returns-clause-room_for_possible : goal.returns-clause-room_for_possible
returns-clause-room_for_possible c = possible_room

pub returns-clause-end_stays : goal.returns-clause-end_stays
returns-clause-end_stays c = λ plans costs h a x r. end_kept plans costs a h x (run_is_each_possible plans costs h r)

pub returns-clause-times_rise : goal.returns-clause-times_rise
returns-clause-times_rise c = λ plans costs h a b. times_rise plans costs a b h

pub returns-clause-newest_is_last : goal.returns-clause-newest_is_last
returns-clause-newest_is_last c = λ plans costs h b. newest_is_latest plans costs b h

pub returns-clause-possible_is_not_past : goal.returns-clause-possible_is_not_past
returns-clause-possible_is_not_past c = possible_not_earlier_than_run

pub returns-clause-one_is_next : goal.returns-clause-one_is_next
returns-clause-one_is_next c = next_unique

pub returns-clause-next_or_finished : goal.returns-clause-next_or_finished
returns-clause-next_or_finished c = next_or_finished

pub returns-clause-one_run_of_each_length : goal.returns-clause-one_run_of_each_length
returns-clause-one_run_of_each_length c = run_of_length_unique

pub returns-clause-one_begins_as_the_other : goal.returns-clause-one_begins_as_the_other
returns-clause-one_begins_as_the_other c = one_run_extends_other

pub returns-clause-complete_run_begins_as_each : goal.returns-clause-complete_run_begins_as_each
returns-clause-complete_run_begins_as_each c = complete_run_extends_run

pub returns-clause-one_complete_run : goal.returns-clause-one_complete_run
returns-clause-one_complete_run c = complete_run_unique

pub returns-clause-some_complete_run : goal.returns-clause-some_complete_run
returns-clause-some_complete_run c = complete_run_exists

pub returns-clause-read_oldest_first : goal.returns-clause-read_oldest_first
returns-clause-read_oldest_first c = λ plans costs h.
    let Next = IsNext plans costs in
    let Run = IsRun plans costs in
    (run_in_turn Next Run tt (λ a l r n. (r, n)) (λ a l r. r) h, in_turn_run Next Run tt (λ a l r n. (r, n)) (λ a l r. r) h)

pub returns-clause-least_entry_is_next : goal.returns-clause-least_entry_is_next
returns-clause-least_entry_is_next c = λ plans costs h entries. least_is_next plans costs (Contains entries) h
