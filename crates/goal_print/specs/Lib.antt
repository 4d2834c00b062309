-- What a reader must believe.
pub mod Canonical
-- What only the code keeps.
pub mod Pages
-- Laws.
pub mod Laws
-- What the clauses cite of lower crates.
pub use Rattle.goal_parser.specs.Reads
