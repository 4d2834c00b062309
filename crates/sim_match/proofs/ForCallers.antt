-- The lemmas of this crate that upper crates cite: they import this file alone.
pub use Rattle.sim_match.proofs.Written.{slice_get_written, slice_get_elsewhere}
pub use Rattle.sim_match.proofs.PatternLemmas.{pattern_cmp_is_eq}
pub use Rattle.sim_match.proofs.PostsAndArrivalsLemmas.{happened_filtered, filtered_with_newest, filtered_without_newest, receive_for_filtered, send_for_filtered}
