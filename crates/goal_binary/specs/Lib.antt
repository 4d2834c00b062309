-- What a reader must believe.
pub mod Layouts
pub mod File
pub mod Fields
pub mod Reading
pub mod Meaning
-- What only the code keeps.
pub mod Returned
pub mod FaultWords
-- Laws.
pub mod Fitting
pub mod Laws
-- What the clauses cite of lower crates.
pub use Rattle.goal_graph.specs.Fault
pub use Rattle.goal_graph.specs.Limits
pub use Rattle.goal_graph.specs.Schedule
pub use Rattle.goal_graph.specs.Widths
