-- The lemmas of this crate that upper crates cite: they import this file alone.
pub use Rattle.sim_eager.proofs.Messages.{message_fits, message_is_send}
