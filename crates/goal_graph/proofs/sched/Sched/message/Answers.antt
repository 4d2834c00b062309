-- A send is an operation of that kind, whose size is within its limit.
use Rattle.goal_graph.proofs.OfKind.{send_is_op, kind_of_op, kind_from_op, size_fits}
use Rattle.goal_graph.proofs.sched.Sched.message.Goals as goal

pub op-requires : goal.op-requires
op-requires c = send_is_op _ _ c.requires

pub unreachable-requires : goal.unreachable-requires
unreachable-requires c =
    c.in_default.not-Send c.requires.bytes c.requires.to c.requires.tag (kind_of_op _ _ _ _ c.op.ensures.op c.requires.kind)

pub returns-clause-kind : goal.returns-clause-kind
returns-clause-kind c = kind_from_op _ _ _ _ c.op.ensures.op c.in-Send.is

pub returns-clause-within : goal.returns-clause-within
returns-clause-within c = size_fits _ _ _ _ _ c.in-Send.is c.op.ensures.value
