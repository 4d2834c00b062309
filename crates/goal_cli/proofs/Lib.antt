pub mod AnswerLemmas
pub mod OutputLemmas
pub mod PageLemmas
pub mod RefusalLemmas
pub mod StopLemmas
pub mod CertifiedRuns
