pub mod Different
pub mod ByKey
pub mod ForCallers
mod Walks
