-- What a reader must believe.
pub mod Input
-- What only the code keeps.
pub mod InputFaults
pub mod Follows
pub mod Intake
-- What the clauses cite of lower crates.
pub use Rattle.goal_base.specs.Device
pub use Rattle.goal_graph.specs.Schedule
