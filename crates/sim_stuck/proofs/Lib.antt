pub mod Kept
pub mod Least
pub mod ListFacts
pub mod PatternFacts
pub mod ReasonCases
