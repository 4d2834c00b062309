-- What a reader must believe.
pub mod Faults
pub mod Real
-- What the clauses cite of lower crates.
pub use Rattle.goal_base.specs.Device
