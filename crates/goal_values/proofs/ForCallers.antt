-- The lemmas that upper crates may use: they import this file alone.
pub use Rattle.goal_values.proofs.Growing.{has_grown_reflexive, has_grown_transitive, payload_stays}
