use Rattle.goal_graph.proofs.ForCallers.{at_most_three}
use Rattle.sim_params.specs.Costs.{is_eager}
use Rattle.sim_params.proofs.ForCallers.{within_budget, run_is_each_possible, run_interleaving, complete_interleaving, complete_run_unique}
use Rattle.sim_events.proofs.engine.Engine.run.Goals as goal

pub returns-clause-only : goal.returns-clause-only
returns-clause-only g c = λ h other. complete_run_unique _ _ h _ other c.run_by.ensures.complete

pub returns-clause-three_each : goal.returns-clause-three_each
returns-clause-three_each g c =
    let now = c.run_by.new.self in
    λ x. at_most_three _ (is_eager now.plans (g.C.Costs.model now.costs)) _ x (run_interleaving _ _ _ c.run_by.ensures.complete.run)

pub returns-clause-times : goal.returns-clause-times
returns-clause-times g c = within_budget _ _ _ (run_is_each_possible _ _ _ c.run_by.ensures.complete.run)

pub returns-clause-interleaving : goal.returns-clause-interleaving
returns-clause-interleaving g c = complete_interleaving _ _ _ c.run_by.ensures.complete
