pub mod KnotLemmas
pub mod ForCallers
