-- The lemmas of this crate that upper crates cite: they import this file alone.
pub use Rattle.sim_state.proofs.After.{newest_is_not_act_of_other_op, newest_action_has_happened}
pub use Rattle.sim_state.proofs.Choice.{is_some_false_means_none}
pub use Rattle.sim_state.proofs.FreeTimes.{cpu_kept_if_not_held}
pub use Rattle.sim_state.proofs.GivenMoments.{first_gives, last_gives}
pub use Rattle.sim_state.proofs.Places.{listed_exists, possible_exists}
pub use Rattle.sim_state.proofs.Ready.{there_at, read_all, read_met, read_unmet, ready_from, ready_start}
