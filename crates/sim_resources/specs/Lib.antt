-- What only the code keeps.
pub mod FreeTimes
pub mod Stations
pub mod Numbering
pub mod Held
pub mod ByNumber
-- Laws.
pub mod Laws
-- What the clauses cite of lower crates.
pub use Rattle.goal_graph.specs.Fault
pub use Rattle.goal_graph.specs.Schedule
