-- What a reader must believe.
pub mod Views
-- What only the code keeps.
pub mod Runs
-- What the clauses cite of lower crates.
pub use Rattle.goal_graph.specs.Schedule
pub use Rattle.sim_events.specs.Engine
pub use Rattle.sim_params.specs.Budget
pub use Rattle.sim_params.specs.Costs
