-- Each operation that is listed exists.
use Rattle.std.proofs.Common.{◌∙◌}
use Rattle.goal_graph.proofs.ListingLemmas.{listed_exist}
use Rattle.goal_graph.proofs.sched.Sched.operations.Goals as goal

pub returns-clause-exist : goal.returns-clause-exist
returns-clause-exist c =
    listed_exist c.args.self.now c.self.inside.tables c.deref.result.now c.self.view_is (c.deref.ensures.value ∙ c.self.invariant.2)
