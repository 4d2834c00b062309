use Rattle.goal_binary.proofs.Packed.{packed_apart}
use Rattle.goal_binary.proofs.RanksTaken.{IsBytes-All}
use Rattle.goal_binary.proofs.RanksAgain.{schedule_fits, meaning_of_written_plans, meaning_of_written_schedule}
use Rattle.goal_binary.proofs.Round.{meaningful_bytes_are_new_or_old}
use Rattle.goal_binary.proofs.Faults.{within_limits, faults_are_true}
use Rattle.goal_binary.proofs.Cuts.{cut_is_short, more_is_extra, no_file_begins}
use Rattle.goal_binary.proofs.Lengths.{length-old, old-within, no_longer}
use Rattle.goal_binary.proofs.laws.laws_of_files.Goals as goal

pub returns-clause-packed_apart : goal.returns-clause-packed_apart
returns-clause-packed_apart c = packed_apart

pub returns-clause-length_is_told : goal.returns-clause-length_is_told
returns-clause-length_is_told c = length-old

pub returns-clause-within_input : goal.returns-clause-within_input
returns-clause-within_input c = old-within

pub returns-clause-no_longer : goal.returns-clause-no_longer
returns-clause-no_longer c = no_longer

pub returns-clause-two_files : goal.returns-clause-two_files
returns-clause-two_files c bytes plans fits = meaningful_bytes_are_new_or_old bytes (IsBytes-All bytes fits) plans

pub returns-clause-plans_again : goal.returns-clause-plans_again
returns-clause-plans_again c = meaning_of_written_plans

pub returns-clause-read_again : goal.returns-clause-read_again
returns-clause-read_again c layout plans schedule = meaning_of_written_schedule layout plans schedule.accepted schedule.widths

pub returns-clause-within_limits : goal.returns-clause-within_limits
returns-clause-within_limits c bytes plans all = within_limits bytes (IsBytes-All bytes all) plans

pub returns-clause-schedules_have_files : goal.returns-clause-schedules_have_files
returns-clause-schedules_have_files c plans schedule = schedule_fits plans schedule.accepted schedule.widths

pub returns-clause-faults_are_true : goal.returns-clause-faults_are_true
returns-clause-faults_are_true c bytes fault all = faults_are_true bytes (IsBytes-All bytes all) fault

pub returns-clause-cut_is_short : goal.returns-clause-cut_is_short
returns-clause-cut_is_short c layout plans n schedule = cut_is_short layout plans schedule n

pub returns-clause-more_is_extra : goal.returns-clause-more_is_extra
returns-clause-more_is_extra c layout plans b more schedule = more_is_extra layout plans schedule b more

pub returns-clause-no_file_begins : goal.returns-clause-no_file_begins
returns-clause-no_file_begins c layout bytes more fault plans schedule = no_file_begins layout plans schedule bytes more fault
