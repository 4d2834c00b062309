-- What only the code keeps.
pub mod PostsAndArrivals
pub mod Waiting
pub mod Patterns
pub mod ListNumbers
pub mod ListOrder
pub mod MatchLists
pub mod Looks
pub mod Capacities
pub mod Packed
pub mod Matcher
pub mod Queues
pub mod Tables
-- Laws.
pub mod Laws
-- What the clauses cite of lower crates.
pub use Rattle.goal_graph.specs.Action
pub use Rattle.goal_graph.specs.Fault
pub use Rattle.goal_graph.specs.Matching
pub use Rattle.goal_graph.specs.Schedule
