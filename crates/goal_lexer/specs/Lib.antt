-- What a reader must believe.
pub mod Bytes
pub mod Numbers
pub mod Words
pub mod Runs
pub mod Scan
-- What only the code keeps.
pub mod Reserved
pub mod Padding
pub mod Hashing
pub mod State
pub mod Stands
pub mod Open
pub mod Found
pub mod Ahead
pub mod Sound
pub mod Steps
pub mod Whole
-- Laws.
pub mod Pieces
