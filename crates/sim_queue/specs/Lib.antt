-- What only the code keeps.
pub mod Map
pub mod Places
pub mod Groups
pub mod Item
pub mod Sift
pub mod TopHeap
pub mod RunHeap
pub mod Row
pub mod Ranked
pub mod Scan
pub mod Ranks
-- What the clauses cite of lower crates.
pub use Rattle.sim_order.specs.Events
pub use Rattle.goal_graph.specs.Schedule
