-- What a reader must believe.
pub mod World
pub mod Verdict
pub mod Output
pub mod Refusal
pub mod Answer
-- What only the code keeps.
pub mod WithoutWork
pub mod Stop
pub mod Pages
-- Laws.
pub mod Laws
pub mod CertifiedRuns
-- What the clauses cite of lower crates.
pub use Rattle.goal_base.specs.Device
pub use Rattle.goal_base.specs.Text
pub use Rattle.goal_binary.specs.File
pub use Rattle.goal_blocks.specs.Collectives
pub use Rattle.goal_graph.specs.Schedule
pub use Rattle.goal_input.specs.Input
pub use Rattle.goal_input.specs.InputFaults
pub use Rattle.goal_print.specs.Canonical
pub use Rattle.goal_views.specs.Views
pub use Rattle.goal_words.specs.Words
pub use Rattle.sim_classes.specs.Form
pub use Rattle.sim_classes.specs.Machine
pub use Rattle.sim_params.specs.Budget
pub use Rattle.sim_params.specs.Costs
pub use Rattle.sim_params.specs.Numbers
pub use Rattle.sim_params.specs.Run
