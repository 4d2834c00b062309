mod Examples
mod Numerals
mod Lexes
mod Fits
mod TextKinds
mod Seen
mod ItemsRead
mod LabelLaws
mod BlocksRead
mod TextRead
mod Accepted
mod Ranks
pub mod RoundTrip
