-- What a reader must believe.
pub mod Costs
pub mod Defaults
pub mod Limits
pub mod Numbers
pub mod Times
pub mod Run
pub mod Stuck
pub mod Budget
-- What only the code keeps.
pub mod Bounded
pub mod Bounds
-- Laws.
pub mod Laws
-- What the clauses cite of lower crates.
pub use Rattle.goal_graph.specs.Fault
