-- What a reader must believe.
pub mod Limits
pub mod Machine
pub mod Form
-- What only the code keeps.
pub mod Parts
pub mod MachineModels
pub mod Left
pub mod Rows
pub mod Bounds
-- Laws.
pub mod Laws
-- What the clauses cite of lower crates.
pub use Rattle.sim_params.specs.Costs
pub use Rattle.sim_params.specs.Numbers
