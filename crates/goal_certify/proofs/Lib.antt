pub mod StageLemmas
pub mod Sizing
pub mod InOrder
pub mod EndLemmas
pub mod EndSearch
pub mod Passes
pub mod Counting
pub mod Places
pub mod AfterAction
pub mod Performed
pub mod Choice
pub mod Chosen
pub mod Moved
pub mod Queue
pub mod Cursors
pub mod Steps
mod Rows
mod Turns
mod Depth
mod Before
mod Paths
mod Touches
mod Table
mod OpenPairs
mod Holding
mod LeastSlot
pub mod Stalls
pub mod SlotFacts
pub mod Carried
pub mod Carrying
pub mod Applied
pub mod Deciding
pub mod ValueStage
pub mod Started
pub mod Pairs
pub mod FirstSegment
pub mod SegmentAnswers
pub mod AtOnceAnswers
pub mod Apart
