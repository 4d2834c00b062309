-- The counts are within their limits.
use Rattle.goal_graph.proofs.Plain.{plain-counts}
use Rattle.goal_graph.proofs.sched.Sched.plans.Goals as goal

pub returns-clause-counts : goal.returns-clause-counts
returns-clause-counts c = rw (← c.self.view_is) (plain-counts c.self.inside.tables c.self.invariant.0.plain)
