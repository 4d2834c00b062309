pub mod WordLemmas
pub mod FormRead
pub mod Parts
pub mod Keys
pub mod RowLemmas
pub mod Alike
pub mod ClassLaws
pub mod Whole
