use Rattle.goal_parser.proofs.NoLimits.{fault_is_no_limit}
use Rattle.goal_parser.proofs.EachFault.{fault_is_returned}
use Rattle.goal_parser.proofs.text.read_text.Goals as goal

pub returns-clause-faults : goal.returns-clause-faults
returns-clause-faults c = fault_is_returned c.args.text.now c.schedule_of.result c.schedule_of.ensures.ok c.schedule_of.ensures.accepted c.schedule_of.ensures.fault

pub returns-clause-limits : goal.returns-clause-limits
returns-clause-limits c = fault_is_no_limit c.args.text.now c.schedule_of.result c.schedule_of.ensures.fault
