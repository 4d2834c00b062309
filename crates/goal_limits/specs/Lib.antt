-- What a reader must believe.
pub mod Bytes
pub mod Limits
pub mod MostRanks
-- What only the code keeps.
pub mod Makers
