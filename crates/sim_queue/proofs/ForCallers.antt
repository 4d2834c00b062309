-- The lemmas that upper crates may use: they import this file alone.
pub use Rattle.sim_queue.proofs.Weak.{before_asymmetric, not_before_transitive}
pub use Rattle.sim_queue.proofs.Maps.{get_appended, get_before_appended, get_set_other, get_set_same, key_within, key_at_no_keys, same_maps}
pub use Rattle.sim_queue.proofs.Bounds.{pow_next_is_double}
pub use Rattle.sim_queue.proofs.Placed.{part_written_back}
pub use Rattle.sim_queue.proofs.Items.{item_of, items_fit, length-placed, moved_apart, moved_placed}
pub use Rattle.sim_queue.proofs.ItemChanges.{added_apart, added_ordered, added_placed, emptied_placed, empty_items, left_apart, left_ordered, left_placed, left_where, replaced_apart, replaced_ordered, replaced_placed, rest_apart, rest_ordered, rest_placed, rest_at_their_places, some_items, taken_apart, taken_ordered, taken_placed, top_is_least}
pub use Rattle.sim_queue.proofs.Known.{known_but_last, no_key_if_item_elsewhere, settled_heap, settled_keys}
pub use Rattle.sim_queue.proofs.Grouping.{grouped_after_change, empty_group, group_at_home, heap_read, home_read, key_at_home, least_of_answer, group_past_end_is_empty, sole_of_heap, housed_after_change}
pub use Rattle.sim_queue.proofs.Homes.{counts_with_slot, counts_stay_bounded, empty_grouped, empty_housed, homes_with_new_home, homes_length, no_homes, no_key_at_any_place}
