-- The lemmas that upper crates may use: they import this file alone.
pub use Rattle.sim_order.proofs.ByKey.{event_by_key}
