use Rattle.std.proofs.Common.{◌≡◌, ◌*◌, ◌-◌, length}
use Rattle.goal_graph.specs.Schedule.{operations}
use Rattle.goal_certify.specs.WalkSoFar.{IsLater}
use Rattle.goal_certify.proofs.walk.Walker.finish.Given as goal

abbrev pub invariant-steps : goal.invariant-steps
invariant-steps l = (l.self.plans ≡ l.fn.self.plans) × IsLater l.fn.self.history l.self.history

abbrev pub decreases-steps : goal.decreases-steps
decreases-steps l = 3 * length (operations l.self.plans) - length l.self.history
