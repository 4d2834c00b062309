-- The lemmas of this crate that upper crates cite: they import this file alone.
pub use Rattle.goal_blocks.proofs.MadeAccepted.{made_accepted}
pub use Rattle.goal_blocks.proofs.Fitting.{first_fault-of_none, lower_have_depths}
pub use Rattle.goal_blocks.proofs.RingAndTree.{ahead_below, back_below, digits_few, below_power_of_digits, power_below_digits_at_most, digits_some, flipped_below}
pub use Rattle.goal_blocks.proofs.Trees.{child_below, rounds_few}
pub use Rattle.goal_blocks.proofs.Tree.{IsLowest, low_is_lowest}
pub use Rattle.goal_blocks.proofs.TreeCases.{reduce_sends, reduce_hears, reduce_sums, gather_sends, gather_hears, scatter_gives_first, scatter_takes, scatter_gives}
pub use Rattle.goal_blocks.proofs.EntryFacts.{kind_there, kind_only, needs_there, slots_there, adds_there}
pub use Rattle.goal_blocks.proofs.MessagesPaired.{messages_paired}
pub use Rattle.goal_blocks.proofs.Right.{certified_right}
pub use Rattle.goal_blocks.proofs.NoFault.{small_if_no_rank_large, no_wildcard_if_no_fault, no_double_channel_if_no_fault, no_unpaired_if_no_fault, equal_lengths_if_no_fault, race_from, light_from, faultless}
pub use Rattle.goal_blocks.proofs.Least.{strong_induction, holds_of_none_without_least}
pub use Rattle.goal_blocks.proofs.EndsBefore.{Leads, cases_before, first_need, leads_to_end_before, some_or_none_in_list}
pub use Rattle.goal_blocks.proofs.Channels.{fits_channel, channel_fits, channels_apart}
pub use Rattle.goal_blocks.proofs.Walk.{IsTail, whole, newer, one_is_tail_of_other, complete_tail, one_walk}
pub use Rattle.goal_blocks.proofs.Faults.{heavy_not}
pub use Rattle.goal_blocks.proofs.SomeWalk.{IsFirst, takes_first, nothing_allowed_if_none_found, some_walk}
pub use Rattle.goal_blocks.proofs.MadeCertified.{made_certified, made_right, made_right_at_any_weight}
pub use Rattle.goal_blocks.proofs.Sorted.{length_merge, sorted_merge, merge_none, lower_than_not_lower, not_lower_transitive, not_lower_is_equal, all_by_recursion_weaker}
pub use Rattle.goal_blocks.proofs.SlotRanges.{length_of_slots_from}
pub use Rattle.goal_blocks.proofs.SlotSums.{slot_length_at_most_stored, stored_set}
pub use Rattle.goal_blocks.proofs.Exchange.{initial_in_first_block, wanted_in_first_block, exchange_with_first_block, stored_exchanged, exchange_twice}
pub use Rattle.goal_blocks.proofs.StoreFacts.{same_place}
pub use Rattle.goal_blocks.proofs.Wishes.{wanted_past}
pub use Rattle.goal_blocks.proofs.Writes.{write_first, write_none, weight_within_limit_after_write, read_values_with_next_slot, read_all}
pub use Rattle.goal_blocks.proofs.PlacedAlike.{renaming_keeps_rank_equality, happened_placed, kind_placed, mate_placed, paired_placed, started_placed, ended_placed, last_of_placed, allowed_placed}
pub use Rattle.goal_blocks.proofs.PlacedPlans.{placed_op_after_back}
