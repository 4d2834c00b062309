-- What only the code keeps.
pub mod Entries
pub mod Numbers
pub mod Ordered
pub mod Indexed
