use Rattle.std.proofs.Common.{◌≡◌, Option, None}
use Rattle.goal_words.specs.Words.{Command}
use Rattle.goal_cli.specs.declared.answer.Status.{Status}
use Rattle.goal_cli.specs.declared.answer.Status.TheVariants as status
use Rattle.goal_cli.specs.World.{World, without_err}
use Rattle.goal_cli.specs.Answer.{Answered}
use Rattle.goal_cli.specs.Laws.{Answers}
use Rattle.goal_cli.proofs.AnswerLemmas.{bad_line_status_has_no_command, no_command_answers_bad_line, read_fault, reads_risen, absent_risen, absent_named, absent_machine, refused_status_has_refusal, write_fault_status_means_cut_off, writes_risen, files_risen, done_status_means_written, stuck_status_means_written, not_certified_status_means_written, only_certify, untouched_or_part_of_output, untouched, kept_elsewhere, line_said, nothing_said_when_output_written, part_of_line_at_no_memory, part_of_line_at_sink_fault, machine_read}
use Rattle.goal_cli.proofs.laws.laws_of_answers.Goals as goal

line_missed : (command : Option Command) (old new : World) (result : Status) → Answered command old new result → command ≡ None
    → Answers result status.BadLine
line_missed command old new result w is =
    no_command_answers_bad_line (without_err old) (without_err new) old.err new.err w.answer result (rw is at w.cause) w.told

pub returns-clause-bad_line : goal.returns-clause-bad_line
returns-clause-bad_line c = λ command old new result w. bad_line_status_has_no_command (without_err old) (without_err new) command old.err new.err w.answer result w.cause w.told

pub returns-clause-bad_line_exact : goal.returns-clause-bad_line_exact
returns-clause-bad_line_exact c = line_missed

pub returns-clause-read_fault : goal.returns-clause-read_fault
returns-clause-read_fault c = λ command old new result w. read_fault (without_err old) (without_err new) command old.err new.err w.answer result w.cause w.told

pub returns-clause-read_risen : goal.returns-clause-read_risen
returns-clause-read_risen c = λ command old new result w. reads_risen (without_err old) (without_err new) command old.err new.err w.answer result w.cause w.told

pub returns-clause-absent_risen : goal.returns-clause-absent_risen
returns-clause-absent_risen c = λ command old new result w. absent_risen (without_err old) (without_err new) command old.err new.err w.answer result w.cause w.told

pub returns-clause-absent_name : goal.returns-clause-absent_name
returns-clause-absent_name c = λ command old new result w. absent_named (without_err old) (without_err new) command old.err new.err w.answer result w.cause w.told

pub returns-clause-absent_machine : goal.returns-clause-absent_machine
returns-clause-absent_machine c = λ command old new result w. absent_machine (without_err old) (without_err new) command old.err new.err w.answer result w.cause w.told

pub returns-clause-refused : goal.returns-clause-refused
returns-clause-refused c = λ command old new result w. refused_status_has_refusal (without_err old) (without_err new) command old.err new.err w.answer result w.cause w.told

pub returns-clause-write_fault : goal.returns-clause-write_fault
returns-clause-write_fault c = λ command old new result w. write_fault_status_means_cut_off (without_err old) (without_err new) command old.err new.err w.answer result w.cause w.told

pub returns-clause-write_risen : goal.returns-clause-write_risen
returns-clause-write_risen c = λ command old new result w. writes_risen (without_err old) (without_err new) command old.err new.err w.answer result w.cause w.told

pub returns-clause-file_risen : goal.returns-clause-file_risen
returns-clause-file_risen c = λ command old new result w. files_risen (without_err old) (without_err new) command old.err new.err w.answer result w.cause w.told

pub returns-clause-done : goal.returns-clause-done
returns-clause-done c = λ command old new result w. done_status_means_written (without_err old) (without_err new) command old.err new.err w.answer result w.cause w.told

pub returns-clause-stuck : goal.returns-clause-stuck
returns-clause-stuck c = λ command old new result w. stuck_status_means_written (without_err old) (without_err new) command old.err new.err w.answer result w.cause w.told

pub returns-clause-not_certified : goal.returns-clause-not_certified
returns-clause-not_certified c = λ command old new result w. not_certified_status_means_written (without_err old) (without_err new) command old.err new.err w.answer result w.cause w.told

pub returns-clause-only_certify : goal.returns-clause-only_certify
returns-clause-only_certify c = λ command old new result w. only_certify (without_err old) (without_err new) command old.err new.err w.answer result w.cause w.told

pub returns-clause-part : goal.returns-clause-part
returns-clause-part c = λ command old new result w. untouched_or_part_of_output (without_err old) (without_err new) command w.answer w.cause

pub returns-clause-silent : goal.returns-clause-silent
returns-clause-silent c = λ command old new result w. untouched (without_err old) (without_err new) command old.err new.err w.answer result w.cause w.told

pub returns-clause-elsewhere : goal.returns-clause-elsewhere
returns-clause-elsewhere c = λ command old new result w. kept_elsewhere (without_err old) (without_err new) command w.answer w.cause

pub returns-clause-says : goal.returns-clause-says
returns-clause-says c = λ command old new result w. line_said old.err new.err w.answer result w.told

pub returns-clause-says_nothing : goal.returns-clause-says_nothing
returns-clause-says_nothing c = λ command old new result w. nothing_said_when_output_written w.answer result old.err new.err w.told

pub returns-clause-says_part : goal.returns-clause-says_part
returns-clause-says_part c = λ command old new result w. part_of_line_at_no_memory (without_err old) (without_err new) command old.err new.err w.answer result w.cause w.told

pub returns-clause-says_failed : goal.returns-clause-says_failed
returns-clause-says_failed c = λ command old new result w. part_of_line_at_sink_fault (without_err old) (without_err new) command old.err new.err w.answer result w.cause w.told

pub returns-clause-machine_read : goal.returns-clause-machine_read
returns-clause-machine_read c = λ command old new result w. machine_read (without_err old) (without_err new) command old.err new.err w.answer result w.cause w.told
