-- What a reader must believe.
pub mod StuckList
pub mod StuckText
-- What only the code keeps.
pub mod Patterns
-- Laws.
pub mod Laws
-- What the clauses cite of lower crates.
pub use Rattle.goal_graph.specs.Action
pub use Rattle.goal_graph.specs.Allowed
pub use Rattle.goal_graph.specs.Fault
pub use Rattle.goal_graph.specs.Matching
pub use Rattle.goal_graph.specs.Order
pub use Rattle.goal_graph.specs.Schedule
pub use Rattle.sim_params.specs.Costs
pub use Rattle.sim_params.specs.Run
pub use Rattle.sim_params.specs.Stuck
