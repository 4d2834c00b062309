-- Dependencies name operations of their rank.
use Rattle.goal_graph.proofs.Faults.{needs-exist}
use Rattle.goal_graph.proofs.sched.Sched.needs.Goals as goal

pub returns-clause-exist : goal.returns-clause-exist
returns-clause-exist c =
    rw (c.needs.ensures, ← c.self.view_is) (needs-exist c.self.inside.tables c.args.id c.self.invariant.0.plain (rw c.self.view_is c.requires))
