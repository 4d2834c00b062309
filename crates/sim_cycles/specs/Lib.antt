-- What a reader must believe.
pub mod Knots
pub mod KnotsText
-- What only the code keeps.
pub mod Places
pub mod Walks
-- Laws.
pub mod Laws
