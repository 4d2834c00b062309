-- What only the code keeps.
pub mod Order
pub mod Events
pub mod Keys
pub mod Compact
-- Laws.
pub mod OrderLaws
pub mod EventLaws
