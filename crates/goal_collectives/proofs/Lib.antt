pub mod Cases
pub mod ProbePlans
