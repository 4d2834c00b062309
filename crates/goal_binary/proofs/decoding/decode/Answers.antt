use Rattle.std.proofs.Common.{arith}
use Rattle.goal_binary.proofs.Round.{read_bytes_are_new_or_old, file_reads_back_as_its_plans}
use Rattle.goal_binary.proofs.NoLimits.{reading_gives_no_limit_fault}
use Rattle.goal_binary.proofs.EachFault.{each_file_fault_is_reported}
use Rattle.goal_binary.proofs.decoding.decode.Goals as goal

pub returns-clause-file : goal.returns-clause-file
returns-clause-file c = read_bytes_are_new_or_old c.args.bytes.now c.schedule_of.result (λ i. omega (arith, c.type_inv.bytes i)) c.schedule_of.ensures.ok

pub returns-clause-again : goal.returns-clause-again
returns-clause-again c = file_reads_back_as_its_plans c.args.bytes.now c.schedule_of.result c.schedule_of.ensures.ok c.schedule_of.ensures.fault

pub returns-clause-faults : goal.returns-clause-faults
returns-clause-faults c = each_file_fault_is_reported c.args.bytes.now c.schedule_of.result c.schedule_of.ensures.ok c.schedule_of.ensures.accepted c.schedule_of.ensures.fault

pub returns-clause-limits : goal.returns-clause-limits
returns-clause-limits c = reading_gives_no_limit_fault c.args.bytes.now (λ i. omega (arith, c.type_inv.bytes i)) c.schedule_of.result c.schedule_of.ensures.fault
