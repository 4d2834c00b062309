-- The lemmas that upper crates may use: they import this file alone.
pub use Rattle.sim_params.proofs.Grow.{mate_stays, since_kept, since_new, time_grows}
pub use Rattle.sim_params.proofs.Interleavings.{complete_interleaving, possible_at, possible_room, run_is_each_possible, run_interleaving, run_length}
pub use Rattle.sim_params.proofs.Fixed.{end_kept, end_last, paired_at_kept, start_kept, start_at_newest}
pub use Rattle.sim_params.proofs.BudgetBound.{possible_within_budget, within_budget}
pub use Rattle.sim_params.proofs.Unique.{complete_run_unique}
pub use Rattle.sim_params.proofs.Reasons.{partners_of_alone_taken, op_is_stuck, op_is_unmet, partner_is_absent, partner_is_stuck}
pub use Rattle.sim_params.proofs.Queue.{least_is_next}
