use Rattle.std.proofs.Common.{◌≡◌, length, map, take}
use Rattle.goal_graph.specs.Schedule.{operations}
use Rattle.goal_blocks.specs.Slots.{slots}
use Rattle.goal_certify.proofs.slot_counts.slot_counts.Given as goal

-- the operations of the ranks so far are counted
abbrev pub invariant-loop-plan : goal.invariant-loop-plan
invariant-loop-plan l = l.counts.items ≡ map (λ x. length (slots l.fn.sched x)) (operations (take l.plan-index l.fn.sched))
