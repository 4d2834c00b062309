-- What a reader must believe.
pub mod Timeline
-- What only the code keeps.
pub mod Pages
-- What the clauses cite of lower crates.
pub use Rattle.goal_graph.specs.Schedule
