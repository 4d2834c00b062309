-- What a reader must believe.
pub mod Engine
-- What only the code keeps.
pub mod OptionalTimes
pub mod Links
pub mod Unkept
pub mod Tables
pub mod Enabled
pub mod Tasks
pub mod Represents
pub mod Changes
pub mod Free
pub mod Awaited
pub mod Given
-- What the clauses cite of lower crates.
pub use Rattle.goal_graph.specs.Action
pub use Rattle.goal_graph.specs.Fault
pub use Rattle.goal_graph.specs.Interleaving
pub use Rattle.goal_graph.specs.Schedule
pub use Rattle.sim_eager.specs.Messages
pub use Rattle.sim_resources.specs.ByNumber
pub use Rattle.sim_resources.specs.Numbering
pub use Rattle.sim_params.specs.Budget
pub use Rattle.sim_params.specs.Costs
pub use Rattle.sim_params.specs.Run
pub use Rattle.sim_params.specs.Times
pub use Rattle.goal_graph.specs.Laws as ScheduleLaws
pub use Rattle.sim_params.specs.Laws as RunLaws
