pub mod DeviceLemmas
pub mod FilesLemmas
pub mod ForCallers
pub mod TextLemmas
