mod SumValues
mod Gathering
mod Listed
mod SlotRows
mod Keeping
mod LeastWrong
mod Writing
mod Growing
pub mod ForCallers
