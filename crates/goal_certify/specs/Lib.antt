-- What a reader must believe.
pub mod Certifying
pub mod Segments
pub mod AtOnce
-- What only the code keeps.
pub mod Stages
pub mod Ends
pub mod WalkSoFar
pub mod Cursors
pub mod WalkQueue
pub mod Turns
pub mod Rows
pub mod Before
pub mod Touches
pub mod Table
pub mod Races
pub mod Carried
pub mod Left
-- What the clauses cite of lower crates.
pub use Rattle.goal_blocks.specs.Certification
pub use Rattle.goal_blocks.specs.Certified
pub use Rattle.goal_blocks.specs.Collectives
pub use Rattle.goal_blocks.specs.Faults
pub use Rattle.goal_blocks.specs.Segments as Blocks
pub use Rattle.goal_blocks.specs.Joined
