pub mod Ranks
pub mod TimelineLemmas
