-- The lemmas of this crate that upper crates cite: they import this file alone.
pub use Rattle.sim_state.proofs.ForCallers.{read_all, read_met, read_unmet, ready_from, ready_start}
