pub mod PlacedTimes
pub mod Tails
pub mod Local
pub mod Mates
pub mod Holds
pub mod Moved
pub mod SameRuns
pub mod ApartRuns
