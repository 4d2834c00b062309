-- The lemmas that upper crates may use: they import this file alone.
pub use Rattle.sim_stations.proofs.Moves.{few_changes}
