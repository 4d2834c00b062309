-- The lemmas that upper crates may use: they import this file alone.
pub use Rattle.goal_lexer.proofs.StandsLaws.{lexed_at_end, scanned_of_continued}
pub use Rattle.goal_lexer.proofs.AheadLaws.{ahead_within, stands_ahead_by_parts}
pub use Rattle.goal_lexer.proofs.FormLaws.{first_in_run}
pub use Rattle.goal_lexer.proofs.OnlyLaws.{cut_is_only_reading}
pub use Rattle.goal_lexer.proofs.NothingLaws.{Each-push}
pub use Rattle.goal_lexer.proofs.CutOffLaws.{fault_at_end_is_cut_off}
