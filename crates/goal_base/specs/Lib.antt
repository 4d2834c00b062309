-- What a reader must believe.
pub mod Device
pub mod Text
pub mod Numerals
-- What only the code keeps.
pub mod DeviceCalls
pub mod Calls
pub mod Memory
pub mod NamedFiles
