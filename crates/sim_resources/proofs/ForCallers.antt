-- The lemmas of this crate that upper crates cite: they import this file alone.
pub use Rattle.sim_resources.proofs.Lists.{appended_or_earlier, get_after_append}
pub use Rattle.sim_resources.proofs.Worth.{holds_add_up}
pub use Rattle.sim_resources.proofs.Placing.{same_station_true, same_station_from}
pub use Rattle.sim_resources.proofs.Numbering.{list_any_from_witness}
