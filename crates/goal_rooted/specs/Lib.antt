-- What a reader must believe.
pub mod Faults
-- What the clauses cite of lower crates.
pub use Rattle.goal_blocks.specs.Collectives
pub use Rattle.goal_blocks.specs.Generated
pub use Rattle.goal_blocks.specs.GenFaults
pub use Rattle.goal_blocks.specs.MadeRooted
pub use Rattle.goal_blocks.specs.Positions
pub use Rattle.goal_blocks.specs.Steps
pub use Rattle.goal_graph.specs.Fault
