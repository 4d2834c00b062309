-- What only the code keeps.
pub mod Sums
pub mod Rows
pub mod Kept
pub mod Summed
pub mod Parts
-- What the clauses cite of lower crates.
pub use Rattle.goal_blocks.specs.Values
