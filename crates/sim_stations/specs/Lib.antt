-- What only the code keeps.
pub mod Parts
pub mod AtSlots
pub mod Stations
pub mod Moves
pub mod Rows
pub mod Kept
-- What the clauses cite of lower crates.
pub use Rattle.goal_graph.specs.Schedule
pub use Rattle.sim_order.specs.Events
pub use Rattle.sim_queue.specs.Groups
pub use Rattle.sim_queue.specs.Map
