pub mod KeyLemmas
pub mod RoleLemmas
pub mod WordsLeftLemmas
pub mod PartsLemmas
pub mod LawLemmas
pub mod SizeLemmas
