-- The lemmas of this crate that upper crates cite: they import this file alone.
pub use Rattle.goal_parser.proofs.SlotLaws.{defined_as-append}
pub use Rattle.goal_parser.proofs.Seen.{kinds_of, Seen, seen_of, ops_now, plan_now, passes_number, passes_upto, passes_u32, passes_if_false, passes_rank, limit_not_reached, BeginsItem, at_word, at_close}
unfoldable pub use Rattle.goal_parser.proofs.Seen.{step, fault_in}
