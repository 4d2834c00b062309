-- What the clauses cite of lower crates.
pub use Rattle.sim_params.specs.Costs
pub use Rattle.sim_eager.specs.Messages
pub use Rattle.sim_resources.specs.FreeTimes
pub use Rattle.goal_graph.specs.Schedule
