pub mod Messages
pub mod ForCallers
