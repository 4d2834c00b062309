-- What a reader must believe.
pub mod Numbers
pub mod Sentence
pub mod Ranks
pub mod Actions
pub mod Items
pub mod Counts
pub mod Faults
pub mod Plans
pub mod Reads
-- What only the code keeps.
pub mod Reader
pub mod TextRead
pub mod FaultWords
pub mod FaultInText
pub mod Slots
pub mod Taken
pub mod Ahead
-- Laws.
pub mod Grammar
pub mod Laws
-- What the clauses cite of lower crates.
pub use Rattle.goal_graph.specs.Fault
pub use Rattle.goal_graph.specs.Limits
pub use Rattle.goal_graph.specs.Schedule
pub use Rattle.goal_graph.specs.Widths
pub use Rattle.goal_lexer.specs.Stands
