-- Laws.
pub mod PlacedRuns
-- What the clauses cite of lower crates.
pub use Rattle.goal_blocks.specs.Placed
pub use Rattle.sim_params.specs.Run
