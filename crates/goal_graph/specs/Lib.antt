-- What a reader must believe.
pub mod Schedule
pub mod Order
pub mod Fault
pub mod Action
pub mod Matching
pub mod Allowed
pub mod Interleaving
pub mod IdText
-- What only the code keeps.
pub mod Limits
pub mod Keys
pub mod Widths
pub mod Rows
pub mod Tables
pub mod Search
pub mod Concerned
pub mod Entries
pub mod Choices
-- Laws.
pub mod Laws
