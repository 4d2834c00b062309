-- Dependencies name operations of their rank.
use Rattle.goal_graph.proofs.Faults.{waiting_on-exist}
use Rattle.goal_graph.proofs.sched.Sched.waiting_on.Goals as goal

pub returns-clause-exist : goal.returns-clause-exist
returns-clause-exist c =
    rw (c.waiting_on.ensures, ← c.self.view_is) (waiting_on-exist c.self.inside.tables c.args.id c.self.invariant.0.plain (rw c.self.view_is c.requires))
