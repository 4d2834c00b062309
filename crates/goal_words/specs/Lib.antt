-- What a reader must believe.
pub mod Limits
pub mod Options
pub mod Words
-- What only the code keeps.
pub mod Requests
pub mod Reading
-- Laws.
pub mod Laws
-- What the clauses cite of lower crates.
pub use Rattle.sim_params.specs.Numbers
