pub mod InputLemmas
pub mod FileLemmas
pub mod FollowLemmas
pub mod IntakeLemmas
pub mod FaultLemmas
pub mod ForCallers
