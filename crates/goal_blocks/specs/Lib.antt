-- What a reader must believe.
pub mod Channels
pub mod Walk
pub mod Matched
pub mod Slots
pub mod Race
pub mod Values
pub mod Weight
pub mod Certification
pub mod Collectives
pub mod Entries
pub mod Positions
pub mod Made
pub mod MadeRooted
pub mod Generated
pub mod GenFaults
pub mod Certified
pub mod Renamed
pub mod Segments
pub mod Faults
pub mod Right
-- What only the code keeps.
pub mod Steps
pub mod Stored
pub mod SlotRanges
pub mod SlotTables
pub mod RankSlots
-- Laws.
pub mod Laws
pub mod Joined
pub mod Placed
pub mod HeldFew
pub mod Levels
pub mod Fitting
pub mod Messages
