-- The lemmas that upper crates may use: they import this file alone.
pub use Rattle.goal_graph.proofs.Lists.{all_of_empty, all_of_single, contains_first, contains_mapped, contains_more, contains_source, find_agree, found_item_has_property, get_last, borrowed_whole_restored}
pub use Rattle.goal_graph.proofs.Actions.{act_of, same_or_different_op, find_class, not_happened_before_newest, happened_cases, happened_new, happened_none, not_happened_after_other_action, happened_newest, happened_unless_newest, happened_stays, is_act_class, is_act_from, is_act_op, place_injective, same_op_false, same_op_from, same_op_itself, same_op_swapped, same_op_true}
pub use Rattle.goal_graph.proofs.Persist.{allowed_stays, value_of_is_some, ended_stays, is_some_from, paired_stays, partner_stays, started_stays}
pub use Rattle.goal_graph.proofs.Rules.{allowed_arrive, allowed_begin, allowed_data, allowed_fresh, allowed_from, allowed_may, allowed_post, allowed_serve, fits_receive, fits_send, not_receive_calc, not_send_calc, not_send_receive}
pub use Rattle.goal_graph.proofs.Ever.{arrived_begun, data_paired, served_message}
pub use Rattle.goal_graph.proofs.Partners.{IsFound, IsListed, IsNew, listed_partners, new_pair_is_of_action, newly_paired, unarrived_send_has_no_partner, unposted_receive_has_no_partner, oldest_none, oldest_some, pairs_unchanged_without_new_pair, partner_is_receive, partner_is_send, partner_of_receive, partner_of_others_unchanged, partners_met, partners_mutual}
pub use Rattle.goal_graph.proofs.Stages.{ended_receive, ended_started, first_of_calc, first_of_receive, first_of_send, last_of_calc, last_of_eager, last_of_rendezvous, last_of_receive, started_ready, started_receive, started_send}
pub use Rattle.goal_graph.proofs.OneEach.{one_allowed}
pub use Rattle.goal_graph.proofs.Exists.{allowed_listed, kind_of_found_op, kind_listed, listed_op, listed_places, operations_differ, operations_in_order}
pub use Rattle.goal_graph.proofs.Sums.{count-cons, count_falls, count_le, sum_falls}
pub use Rattle.goal_graph.proofs.Once.{at_most_three, happened_and_left, left_falls}
pub use Rattle.goal_graph.proofs.Complete.{begun_send_arrived, fitting_taken, ready_calc_ended, unmet_unended, unstarted_unended}
pub use Rattle.goal_graph.proofs.Members.{ready_need, unready_need}
pub use Rattle.goal_graph.proofs.Apart.{completes_alike, partners_iff_met}
pub use Rattle.goal_graph.proofs.Numbers.{and_left, and_right}
pub use Rattle.goal_graph.proofs.Plain.{no_fault_test_passed, count_over-none, dep_in_range-parts, option_or-none, plain-counts, plain-dep, plain-op}
pub use Rattle.goal_graph.proofs.Places.{length-places_of_rank, lengths-le, ops_at_some}
pub use Rattle.goal_graph.proofs.Faults.{IsAccepted-no_fault, IsFault-unique, needs-exist}
pub use Rattle.goal_graph.proofs.ListingLemmas.{listed_exist, places_of_rank-more}
pub use Rattle.goal_graph.proofs.Order.{before_cases, key_cases, less_irreflexive, less_tested, less_transitive, least_unique, timed_from_parts}
pub use Rattle.goal_graph.proofs.OfKind.{is_op_below, kind_from_op, kind_of_op, op_of_kind, receive_is_op, send_is_op}
pub use Rattle.goal_graph.proofs.InTurn.{run_in_turn, in_turn_run}
pub use Rattle.goal_graph.proofs.NoLimits.{no_limit_rule, count_within_limit}
pub use Rattle.goal_graph.proofs.Newly.{nothing_after_end, partner_exists, unread_after_next}
pub use Rattle.goal_graph.proofs.Entries.{with_entry_same, slice_get_mapped, get_or_mapped, entry_written, fresh_table, with_entry_other, operation_has_one_place, operations_at_two_places_differ, same_tables, index_in_table, written_entry, written_table}
pub use Rattle.goal_graph.proofs.Choices.{option_cmp_is_eq, nat_cmp_is_eq, eqb-swapped, same_choice_itself, same_choice_true}
pub use Rattle.goal_graph.proofs.Written.{length-put, put_as_set, put_at, put_in_table}
pub use Rattle.goal_graph.proofs.Needs.{few_needs}
