-- No operation has a fault.
use Rattle.goal_graph.proofs.Accepted.{plain-op_at}
use Rattle.goal_graph.proofs.sched.Sched.op.Goals as goal

pub returns-clause-value : goal.returns-clause-value
returns-clause-value c = (plain-op_at c.self.inside.tables c.self.invariant.0.plain c.args.id _ c.op.ensures).0

pub returns-clause-peer : goal.returns-clause-peer
returns-clause-peer c = rw (← c.self.view_is) (plain-op_at c.self.inside.tables c.self.invariant.0.plain c.args.id _ c.op.ensures).1
