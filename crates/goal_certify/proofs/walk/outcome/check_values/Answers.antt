-- What is wrong of what the walk has left, or what stopped it.
use Rattle.std.proofs.Common.{◌≡◌, ◌⊎◌, inl, inr, ℕ, Bool, List, length}
use Rattle.goal_graph.specs.Schedule.{Plan}
use Rattle.goal_blocks.specs.declared.cert_fault.CertFault.{CertFault}
use Rattle.goal_blocks.specs.declared.cert_fault.CertFault.TheVariants.{NoMemory}
use Rattle.goal_limits.specs.declared.collective.Collective.{Collective}
use Rattle.goal_blocks.specs.declared.segment.Segment.{Segment}
use Rattle.goal_blocks.specs.Segments.{wanted_in}
use Rattle.goal_certify.specs.Left.{IsTooMuchIn}
use Rattle.goal_certify.specs.Stages.{IsStoppedIn}
use Rattle.goal_certify.proofs.Started.{no_value_fault_if_all_wanted, least_wrong_slot_is_first_fault}
use Rattle.goal_certify.proofs.walk.outcome.check_values.Goals as goal

stopped_in : (what : Collective) (segment : Segment) (plans : List Plan) (fault : CertFault) → IsTooMuchIn what segment plans fault → IsStoppedIn what segment plans 7 9 fault
stopped_in what segment plans fault (inl e) = inl e
stopped_in what segment plans fault (inr is) =
    inr (is (wanted_in what segment.width segment.block (length plans)))

pub returns-in-Err-clause-fault : goal.returns-in-Err-clause-fault
returns-in-Err-clause-fault c =
    stopped_in c.args.what c.args.segment c.args.walker.now.plans c.in-Err.fault c.in-Err.ensures.fault

pub returns-in-Ok-Some-clause-fault : goal.returns-in-Ok-Some-clause-fault
returns-in-Ok-Some-clause-fault c =
    inr (least_wrong_slot_is_first_fault c.args.walker.now.plans c.args.what c.args.segment.width c.args.segment.block c.in-Ok.store.kept c.in-Ok.ensures.left c.in-Ok-Some.rank c.in-Ok-Some.slot (rw c.in-Ok-Some.field-0-is at c.in-Ok-Some.ensures))

pub returns-in-Ok-None-clause-free : goal.returns-in-Ok-None-clause-free
returns-in-Ok-None-clause-free c =
    no_value_fault_if_all_wanted c.args.walker.now.plans c.args.what c.args.segment.width c.args.segment.block c.in-Ok.store.kept c.in-Ok.ensures.left (rw c.in-Ok-None.field-0-is at c.in-Ok-None.ensures)
