-- What a reader must believe.
pub mod Waits
pub mod WaitsText
-- What only the code keeps.
pub mod WaitKeys
-- Laws.
pub mod Laws
-- What the clauses cite of lower crates.
pub use Rattle.goal_graph.specs.Allowed
pub use Rattle.goal_graph.specs.Fault
pub use Rattle.goal_graph.specs.Schedule
pub use Rattle.sim_events.specs.Enabled
pub use Rattle.sim_params.specs.Costs
pub use Rattle.sim_params.specs.Times
