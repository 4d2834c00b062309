use Rattle.std.proofs.Common.{◌≡◌, ◌*◌, ◌-◌, length}
use Rattle.goal_graph.specs.Schedule.{operations}
use Rattle.goal_blocks.specs.Values.{Store}
use Rattle.goal_certify.specs.Carried.{Holds}
use Rattle.goal_certify.proofs.walk.values.carry.Given as goal

-- what is kept follows the history
abbrev pub invariant-steps : goal.invariant-steps
invariant-steps l =
    (l.walker.plans ≡ l.fn.walker.plans) × ((first : Store) → Holds l.fn.walker.plans first l.fn.walker.history l.fn.held → Holds l.walker.plans first l.walker.history l.held)

abbrev pub decreases-steps : goal.decreases-steps
decreases-steps l = 3 * length (operations l.walker.plans) - length l.walker.history
