-- What a reader must believe.
pub mod Cost
-- What only the code keeps.
pub mod Blanks
pub mod Comparisons
pub mod Queue
pub mod Changes
pub mod Pending
-- Laws.
pub mod Laws
-- What the clauses cite of lower crates.
pub use Rattle.goal_graph.specs.Action
pub use Rattle.goal_graph.specs.Fault
pub use Rattle.goal_graph.specs.Interleaving
pub use Rattle.goal_graph.specs.Schedule
pub use Rattle.sim_order.specs.Events
pub use Rattle.sim_params.specs.Budget
pub use Rattle.sim_params.specs.Costs
pub use Rattle.sim_params.specs.Run
pub use Rattle.sim_params.specs.Times
pub use Rattle.sim_resources.specs.Numbering
pub use Rattle.sim_stations.specs.Stations as Stationing
pub use Rattle.sim_queue.specs.Map
pub use Rattle.sim_state.specs.Awaited
pub use Rattle.sim_state.specs.Enabled
pub use Rattle.sim_state.specs.Engine
pub use Rattle.sim_state.specs.Free
pub use Rattle.sim_params.specs.Laws as RunLaws
