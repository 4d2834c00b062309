use Rattle.std.proofs.Common.{List, length, ap, arith}
use Rattle.goal_graph.specs.Schedule.{Plan, operations}
use Rattle.goal_certify.proofs.Queue.{put_key, choice_key, choice_none}
use Rattle.goal_certify.proofs.walk.follow.follow_own.Goals as goal

pub put-requires : goal.put-requires
put-requires c =
    omega (arith, c.index-slot.ensures.below, c.requires.each, ap (λ (ps : List Plan). length (operations ps)) c.sched.ensures)

pub returns-in-Some : goal.returns-in-Some
returns-in-Some c =
    put_key _ _ c.args.action.op _ c.index-slot.result _ _ _ c.sched.ensures c.index-slot.ensures.index (choice_key _ _ c.index-slot.result c.args.action.op _ _ c.choice_after.ensures c.in-Some.is) c.put.ensures

pub returns-in-None : goal.returns-in-None
returns-in-None c =
    put_key _ _ c.args.action.op _ c.index-slot.result _ _ _ c.sched.ensures c.index-slot.ensures.index (choice_none _ _ c.index-slot.result c.args.action.op _ c.choice_after.ensures c.in-None.is) c.take.ensures
