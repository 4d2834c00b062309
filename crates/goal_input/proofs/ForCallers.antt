-- The lemmas that upper crates may use: they import this file alone.
pub use Rattle.goal_input.proofs.InputLemmas.{same_schedule, same_text_fault, same_file_fault, not_both, no_text_fault, no_file_fault, not_too_long}
pub use Rattle.goal_input.proofs.FileLemmas.{file_reads_as_plans, file_bytes_read_as_plans}
