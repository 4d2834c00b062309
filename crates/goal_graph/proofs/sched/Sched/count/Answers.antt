-- An accepted schedule has few operations.
use Rattle.goal_graph.proofs.ListingLemmas.{few_listed}
use Rattle.goal_graph.proofs.sched.Sched.count.Goals as goal

pub returns-clause-small : goal.returns-clause-small
returns-clause-small c =
    few_listed c.self.inside.tables c.count.result c.self.invariant.0.plain c.count.ensures
