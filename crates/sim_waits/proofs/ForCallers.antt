-- The lemmas of this crate that upper crates cite: they import this file alone.
pub use Rattle.sim_waits.proofs.OneReport.{report_unique}
